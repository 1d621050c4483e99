-- `library::kev_record_count` meets its contract: the call by the number's party, and what its answer tells. Assumes nothing.
use mathlib.Core.Path.{ap, ◌∙◌}
use Rattle.answers.specs.Shown.{count_shown}
use Rattle.library.proofs.kev_record_count.Goals as goal

pub returns : goal.returns
returns c =
    c.count.ensures ∙ ap count_shown (rw c.of_number.ensures at c.record_count.ensures)
