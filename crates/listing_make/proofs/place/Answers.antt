-- `listing_make::place` meets its contract: where the delta has room, and where not. Assumes nothing.
use mathlib.Core.Path.{sym}
use native.Mathlib.Omega.{arith}
use lib.Seq.{length-take-le}
use Rattle.listing_make.proofs.Placing.{no_room, room}
use Rattle.listing_make.proofs.place.Goals as goal

pub returns-then-out-n : goal.returns-then-out-n
returns-then-out-n c =
    no_room c.args.n c.args.delta.now c.args.out.now c.requires c.if-out-n.true

pub slice_bounds-copy_to-end : goal.slice_bounds-copy_to-end
slice_bounds-copy_to-end c =
    sym (length-take-le c.args.n c.args.delta.now c.requires)

pub copy_to-requires : goal.copy_to-requires
copy_to-requires c =
    omega (arith, length-take-le c.args.n c.args.delta.now c.requires)

pub returns : goal.returns
returns c =
    room c.args.n c.args.delta.now c.args.out.now c.requires _ (omega arith) c.copy_to.ensures
