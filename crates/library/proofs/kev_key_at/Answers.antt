-- `library::kev_key_at` meets its contract: the call by the number's party, and what its answer tells. Assumes nothing.
use mathlib.Core.Path.{ap, ◌∙◌}
use Rattle.answers.specs.Shown.{found_shown}
use Rattle.library.proofs.kev_key_at.Goals as goal

pub returns : goal.returns
returns c =
    c.found.ensures ∙ ap found_shown (rw c.of_number.ensures at c.find_text.ensures)
