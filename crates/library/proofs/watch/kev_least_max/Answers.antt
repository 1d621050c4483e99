-- `library::watch::kev_least_max` meets its contract: the call, and what its answer tells. Assumes nothing.
use mathlib.Core.Path.{ap, ◌∙◌}
use Rattle.answers_peers.specs.ShownPeers.{least_shown}
use Rattle.library.proofs.watch.kev_least_max.Goals as goal

pub returns : goal.returns
returns c =
    c.least.ensures ∙ ap least_shown c.least_max.ensures
