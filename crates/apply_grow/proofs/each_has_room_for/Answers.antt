-- `apply_grow::each_has_room_for` meets its contract. Assumes nothing.
use Rattle.apply_grow.proofs.Room.{both_hold, first-fails}
use Rattle.apply_grow.proofs.each_has_room_for.Goals as goal

pub returns-then-has_room_for : goal.returns-then-has_room_for
returns-then-has_room_for c =
    both_hold _ _ _ _ c.has_room_for.ensures c.if-has_room_for.true c.has_room_for-then-has_room_for.ensures

pub returns : goal.returns
returns c =
    first-fails _ _ _ c.has_room_for.ensures c.if-has_room_for.false
