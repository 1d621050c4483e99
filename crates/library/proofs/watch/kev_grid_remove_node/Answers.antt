-- `library::watch::kev_grid_remove_node` meets its contract: the call, and what its answer tells. Assumes nothing.
use mathlib.Core.Path.{ap, ◌∙◌}
use Rattle.answers.specs.Shown.{number_shown}
use Rattle.library.proofs.watch.kev_grid_remove_node.Goals as goal

pub returns : goal.returns
returns c =
    let e = c.remove_node.ensures in
    (c.number.ensures ∙ ap number_shown e.0, e.1)
