-- `removed::make_room` meets its contract. Assumes nothing.
use native.Mathlib.Omega.{arith}
use Rattle.removed.proofs.Steps.{no_room, has_room}
use Rattle.removed.proofs.make_room.Goals as goal

pub returns-then-byte_at-ge-REMOVED : goal.returns-then-byte_at-ge-REMOVED
returns-then-byte_at-ge-REMOVED c =
    no_room c.args.tail.now c.requires c.remove_block.new.row (omega (arith, c.byte_at.ensures.0)) c.remove_block.ensures

pub returns-else-byte_at-ge-REMOVED : goal.returns-else-byte_at-ge-REMOVED
returns-else-byte_at-ge-REMOVED c =
    has_room c.args.tail.now c.requires (omega (arith, c.byte_at.ensures.0))
