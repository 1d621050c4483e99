-- `removed::forget` meets its contract. Assumes nothing.
use native.Mathlib.Omega.{arith}
use Rattle.removed.proofs.Steps.{forget-one, forget-none}
use Rattle.removed.proofs.forget.Goals as goal

pub returns-then-i-n : goal.returns-then-i-n
returns-then-i-n c =
    forget-one c.args.tail.now c.requires c.args.number c.find-i.result c.find-i.ensures.0 c.remove_block.new.row (omega (arith, c.byte_at-n.ensures.0, c.if-i-n.true)) c.remove_block.ensures

pub returns-else-i-n : goal.returns-else-i-n
returns-else-i-n c =
    forget-none c.args.tail.now c.requires c.args.number c.find-i.result c.find-i.ensures.0 (omega (arith, c.byte_at-n.ensures.0, c.if-i-n.false))
