-- `library::kev_find_over` meets its contract: the call by the number's party, and what its answer tells. Assumes nothing.
use mathlib.Core.Path.{ap, ◌∙◌}
use Rattle.answers.specs.Shown.{found_over_shown}
use Rattle.library.proofs.kev_find_over.Goals as goal

pub returns : goal.returns
returns c =
    c.found_over.ensures ∙ ap found_over_shown (rw c.of_number.ensures at c.find_over.ensures)
