-- `library::kev_record_by_key` meets its contract: the call by the number's party, and what its answer tells. Assumes nothing.
use mathlib.Core.Path.{ap, ◌∙◌}
use Rattle.answers.specs.Shown.{record_shown}
use Rattle.library.proofs.kev_record_by_key.Goals as goal

pub returns : goal.returns
returns c =
    c.record.ensures ∙ ap record_shown (rw c.of_number.ensures at c.record_by_key.ensures)
