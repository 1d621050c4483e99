-- `library::good::kev_good_delete` meets its contract: the call by the number's party on a good table, and what its answer tells. Assumes nothing.
use mathlib.Core.Path.{ap, ◌∙◌}
use Rattle.rules.specs.Answers.{answer_told}
use Rattle.std.specs.Prelude.{Result}
use Rattle.rules.specs.declared.Refusal.{Refusal}
use Rattle.answers.specs.Shown.{number_shown}
use Rattle.library.proofs.good.kev_good_delete.Goals as goal

pub returns : goal.returns
returns c =
    let g = rw c.of_number.ensures at c.delete_known.ensures in
    (c.number.ensures ∙ ap (λ (a : (Result (Unit {0}) Refusal)). number_shown (answer_told a)) g.0, g.1)
