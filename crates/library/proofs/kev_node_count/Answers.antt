-- `library::kev_node_count` meets its contract: the call, and what its answer tells. Assumes nothing.
use mathlib.Core.Path.{ap, ◌∙◌}
use Rattle.answers.specs.Shown.{count_shown}
use Rattle.library.proofs.kev_node_count.Goals as goal

pub returns : goal.returns
returns c =
    c.count.ensures ∙ ap count_shown c.node_count.ensures
