-- `apply_grow::has_room_for` meets its contract. Assumes nothing.
use Rattle.rules.specs.Sizes.{max_each}
use Rattle.apply_grow.proofs.Room.{left_over, none_left}
use Rattle.apply_grow.proofs.has_room_for.Goals as goal

pub returns-then-n-le-RECORDS : goal.returns-then-n-le-RECORDS
returns-then-n-le-RECORDS c =
    left_over _ _ max_each c.count_own-n.ensures c.args.count c.if-n-le-RECORDS.true

pub returns : goal.returns
returns c =
    none_left _ _ max_each c.count_own-n.ensures c.args.count c.if-n-le-RECORDS.false
