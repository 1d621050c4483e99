-- `library::good::kev_good_list_over` meets its contract: the call by the number's party on good overrides and a good table, and what its answer tells. Assumes nothing.
use mathlib.Core.Path.{ap, ◌∙◌}
use Rattle.over_list.specs.Told.{listed_over_told}
use Rattle.std.specs.Prelude.{Result, ℕ}
use Rattle.overrides.specs.declared.RefusedOver.{RefusedOver}
use Rattle.answers.specs.Shown.{listed_over_shown}
use Rattle.library.proofs.good.kev_good_list_over.Goals as goal

pub returns : goal.returns
returns c =
    let g = rw c.of_number.ensures at c.list_over_known.ensures in
    (c.hits_over.ensures ∙ ap (λ (a : (Result ℕ RefusedOver)). listed_over_shown (listed_over_told a)) g.0, g.1)
