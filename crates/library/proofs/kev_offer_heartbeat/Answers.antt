-- `library::kev_offer_heartbeat` meets its contract: the call, and what its answer tells. Assumes nothing.
use mathlib.Core.Path.{ap, ◌∙◌}
use Rattle.answers.specs.Shown.{count_shown}
use Rattle.library.proofs.kev_offer_heartbeat.Goals as goal

pub returns : goal.returns
returns c =
    let e = c.offer_heartbeat.ensures in
    (c.news.ensures ∙ ap count_shown e.0, e.1)
