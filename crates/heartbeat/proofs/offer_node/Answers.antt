-- `heartbeat::offer_node` meets its contract. Assumes nothing.
use Rattle.heartbeat.proofs.Beating.{offer-stored, offer-told}
use Rattle.heartbeat.proofs.offer_node.Goals as goal

pub returns : goal.returns
returns c =
    let a = c.args in
    let h = c.read_header in
    let o = c.offered-after in
    let w = c.set_heartbeat in
    (offer-told a.node.now a.got h.result o.result h.ensures o.ensures, offer-stored a.node.now a.got h.result o.result h.ensures o.ensures w.new.node w.ensures)
