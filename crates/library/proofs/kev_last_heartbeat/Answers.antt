-- `library::kev_last_heartbeat` meets its contract: the call, and what its answer tells. Assumes nothing.
use mathlib.Core.Path.{ap, ◌∙◌}
use Rattle.answers.specs.Shown.{heartbeat_shown}
use Rattle.library.proofs.kev_last_heartbeat.Goals as goal

pub returns : goal.returns
returns c =
    c.heartbeat.ensures ∙ ap heartbeat_shown c.last_heartbeat.ensures
