-- `heartbeat::beat_node` meets its contract. Assumes nothing.
use Rattle.std.proofs.lemmas.Bool.{not-true, not-false}
use Rattle.heartbeat.proofs.Beating.{beat-rose, beat-stayed}
use Rattle.heartbeat.proofs.beat_node.Goals as goal

pub returns-then-not-after : goal.returns-then-not-after
returns-then-not-after c =
    let h = c.read_header in
    let o = c.raised-after in
    beat-stayed c.args.node.now h.result o.result h.ensures o.ensures c.requires (not-true _ c.if-not-after.true)

pub returns : goal.returns
returns c =
    let h = c.read_header in
    let o = c.raised-after in
    let w = c.set_heartbeat in
    beat-rose c.args.node.now h.result o.result h.ensures o.ensures (not-false _ c.if-not-after.false) w.new.node w.ensures
