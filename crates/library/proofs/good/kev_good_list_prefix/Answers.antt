-- `library::good::kev_good_list_prefix` meets its contract: the call by the number's party on a good table, and what its answer tells. Assumes nothing.
use mathlib.Core.Path.{ap, ◌∙◌}
use Rattle.rules.specs.Answers.{listed_told}
use Rattle.std.specs.Prelude.{Result, ℕ}
use Rattle.rules.specs.declared.Refusal.{Refusal}
use Rattle.answers.specs.Shown.{count_shown}
use Rattle.library.proofs.good.kev_good_list_prefix.Goals as goal

pub returns : goal.returns
returns c =
    let g = rw c.of_number.ensures at c.list_known.ensures in
    (c.hits.ensures ∙ ap (λ (a : (Result ℕ Refusal)). count_shown (listed_told a)) g.0, g.1)
