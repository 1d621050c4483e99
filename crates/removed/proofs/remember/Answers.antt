-- `removed::remember` meets its contract. Assumes nothing.
use Rattle.removed.proofs.Steps.{room-laid, room-then}
use Rattle.removed.proofs.remember.Goals as goal

pub append-requires : goal.append-requires
append-requires c =
    room-laid c.args.tail.now c.requires c.make_room.new.tail c.make_room.ensures

pub returns : goal.returns
returns c =
    room-then c.args.tail.now c.requires c.make_room.new.tail c.make_room.ensures c.args.number c.args.heartbeat c.append.new.tail c.append.ensures
