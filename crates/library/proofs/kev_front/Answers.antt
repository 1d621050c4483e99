-- `library::kev_front` meets its contract: the call by the number's party, and what its answer tells. Assumes nothing.
use mathlib.Core.Path.{ap, ◌∙◌}
use Rattle.answers.specs.Shown.{count_shown}
use Rattle.library.proofs.kev_front.Goals as goal

pub returns : goal.returns
returns c =
    c.count.ensures ∙ ap count_shown (rw c.of_number.ensures at c.front.ensures)
