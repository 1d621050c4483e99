-- `heartbeat_header::can_rise` is the definition's test. Assumes nothing.
use mathlib.Core.Path.{refl}
use Rattle.heartbeat_header.specs.Headers.{can_rise}
use Rattle.heartbeat_header.proofs.can_rise.Goals as goal

-- `heartbeat_header::can_rise` is the definition's test. Assumes nothing.
pub returns : goal.returns
unfolding can_rise
returns c =
    refl
