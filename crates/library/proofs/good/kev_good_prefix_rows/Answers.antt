-- `library::good::kev_good_prefix_rows` meets its contract: the call by the number's party on a good table, and what its answer tells. Assumes nothing.
use mathlib.Core.Path.{ap, ◌∙◌}
use Rattle.inspect.specs.Told.{rows_told}
use Rattle.std.specs.Prelude.{Result}
use Rattle.inspect.specs.declared.Rows.{Rows}
use Rattle.rules.specs.declared.Refusal.{Refusal}
use Rattle.answers.specs.Shown.{rows_shown}
use Rattle.library.proofs.good.kev_good_prefix_rows.Goals as goal

pub returns : goal.returns
returns c =
    c.rows.ensures
    ∙ ap (λ (a : (Result Rows Refusal)). rows_shown (rows_told a)) (rw c.of_number.ensures at c.prefix_rows_known.ensures)
