-- `library::kev_list_over` meets its contract: the call by the number's party, and what its answer tells. Assumes nothing.
use mathlib.Core.Path.{ap, ◌∙◌}
use Rattle.answers.specs.Shown.{listed_over_shown}
use Rattle.library.proofs.kev_list_over.Goals as goal

pub returns : goal.returns
returns c =
    let e = rw c.of_number.ensures at c.list_over.ensures in
    (c.hits_over.ensures ∙ ap listed_over_shown e.0, e.1)
