-- `library::kev_node_header` meets its contract: the call, and what its answer tells. Assumes nothing.
use mathlib.Core.Path.{ap, ◌∙◌}
use Rattle.answers.specs.Shown.{header_shown}
use Rattle.library.proofs.kev_node_header.Goals as goal

pub returns : goal.returns
returns c =
    c.header.ensures ∙ ap header_shown c.node_header.ensures
