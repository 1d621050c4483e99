-- `heartbeat_header::kept` is the heartbeat that the rule stores. Assumes nothing.
use mathlib.Core.Path.{ap}
use Rattle.rules.specs.declared.Beat.{Beat}
use Rattle.heartbeat_header.proofs.kept.Goals as goal

pub returns : goal.returns
returns c =
    ap (λ (v : Beat). v.heartbeat) c.after_offer.ensures
