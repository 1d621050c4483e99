-- `library::kev_node_number` meets its contract: the call, and what its answer tells. Assumes nothing.
use mathlib.Core.Path.{ap, ◌∙◌}
use Rattle.answers.specs.Shown.{node_shown}
use Rattle.library.proofs.kev_node_number.Goals as goal

pub returns : goal.returns
returns c =
    c.node.ensures ∙ ap node_shown c.node_number.ensures
