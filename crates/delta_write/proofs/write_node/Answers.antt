-- The fields are one put, side by side. Assumes nothing.
use native.Mathlib.Omega.{arith}
use Rattle.delta_write.proofs.Fronts.{fits, no-fit, node-fields}
use Rattle.rules.proofs.Sending.{size-node}
use Rattle.delta_write.proofs.write_node.Goals as goal

-- The fields are one put, side by side. Assumes nothing.
pub returns-then-datagram-lt-NODE_WIDTH : goal.returns-then-datagram-lt-NODE_WIDTH
returns-then-datagram-lt-NODE_WIDTH c =
    no-fit _ _ _ (size-node _ _ _) (omega arith)

pub returns : goal.returns
returns c =
    let a = c.args in
    fits _ _ a.datagram.now _ (size-node a.number a.last_gc a.from) (omega arith)
    (node-fields a.number a.last_gc a.from a.datagram.now _ _ _ _ (omega arith) c.write_byte.ensures c.write_u64.ensures
    c.write_u64-2.ensures c.write_u64-3.ensures)
