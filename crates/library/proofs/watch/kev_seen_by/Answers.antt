-- `library::watch::kev_seen_by` meets its contract: the call, and what its answer tells. Assumes nothing.
use mathlib.Core.Path.{ap, ◌∙◌}
use Rattle.answers_peers.specs.ShownPeers.{seen_shown}
use Rattle.library.proofs.watch.kev_seen_by.Goals as goal

pub returns : goal.returns
returns c =
    c.seen.ensures ∙ ap seen_shown c.told.ensures
