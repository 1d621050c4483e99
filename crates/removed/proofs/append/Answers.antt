-- `removed::append` meets its contract. Assumes nothing.
use native.Mathlib.Omega.{arith}
use Rattle.removed.proofs.Steps.{one_more}
use Rattle.removed.proofs.append.Goals as goal

pub returns : goal.returns
returns c =
    let a = c.args in
    one_more a.tail.now c.requires.0 c.write_u64.new.s c.write_u64-2.new.s c.write_byte.new.s c.byte_at-n.result c.removed_place-a.result a.number a.heartbeat
    c.byte_at-n.ensures.0 (omega (arith, c.byte_at-n.ensures.0)) c.removed_place-a.ensures c.write_u64.ensures c.write_u64-2.ensures c.write_byte.ensures
