-- `library::watch::kev_tell` meets its contract: the call, and what its answer tells. Assumes nothing.
use mathlib.Core.Path.{ap, ◌∙◌}
use Rattle.answers_peers.specs.ShownPeers.{told_shown}
use Rattle.library.proofs.watch.kev_tell.Goals as goal

pub returns : goal.returns
returns c =
    let e = c.tell.ensures in
    (c.told.ensures ∙ ap told_shown e.0, e.1)
