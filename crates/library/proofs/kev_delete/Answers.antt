-- `library::kev_delete` meets its contract: the call by the number's party, and what its answer tells. Assumes nothing.
use mathlib.Core.Path.{ap, ◌∙◌}
use Rattle.answers.specs.Shown.{number_shown}
use Rattle.library.proofs.kev_delete.Goals as goal

pub returns : goal.returns
returns c =
    let e = rw c.of_number.ensures at c.delete.ensures in
    (c.number.ensures ∙ ap number_shown e.0, e.1)
