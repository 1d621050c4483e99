-- `library::kev_node_rows` meets its contract: the call by the number's party, and what its answer tells. Assumes nothing.
use mathlib.Core.Path.{ap, ◌∙◌}
use Rattle.answers.specs.Shown.{rows_shown}
use Rattle.library.proofs.kev_node_rows.Goals as goal

pub returns : goal.returns
returns c =
    c.rows.ensures ∙ ap rows_shown (rw c.of_number.ensures at c.node_rows.ensures)
