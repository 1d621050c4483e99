-- `compute::is_free` meets its contract. Assumes nothing.
use Rattle.compute.proofs.Calling.{past_end, before-end}
use Rattle.compute.proofs.is_free.Goals as goal

pub returns-then-room-place : goal.returns-then-room-place
returns-then-room-place c =
    let a = c.args in past_end a.mtu a.place a.room 0 0 c.if-room-place.true

pub returns : goal.returns
returns c =
    let a = c.args in before-end a.mtu a.place a.room 0 0 c.if-room-place.false
