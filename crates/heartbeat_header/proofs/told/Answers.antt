-- `heartbeat_header::told` is what the rule says of the offer. Assumes nothing.
use mathlib.Core.Path.{ap}
use Rattle.rules.specs.declared.Beat.{Beat}
use Rattle.heartbeat_header.proofs.told.Goals as goal

pub returns : goal.returns
returns c =
    ap (λ (v : Beat). v.news) c.after_offer.ensures
