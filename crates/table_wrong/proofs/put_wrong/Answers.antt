-- `table_wrong::put_wrong` meets its contract: two texts, one behind the other. Assumes nothing.
use native.Mathlib.Omega.{arith}
use Rattle.fields.specs.Numbers.{Bytes}
use Rattle.rules.specs.Listing.{ascii}
use Rattle.listing_room.specs.Room.{Ends, last_number}
use Rattle.listing_room.proofs.Room.{ends-second, then}
use Rattle.table_listing.specs.TableListing.{wrong_line}
use Rattle.table_listing.proofs.Long.{wrong-long}
use Rattle.table_wrong.proofs.put_wrong.Goals as goal

abbrev front : Bytes
front = ascii "end=refused code=14"

pub put_last-requires : goal.put_last-requires
unfolding wrong_line
put_last-requires c =
    let last : Bytes = last_number c.args.name.now c.args.v in
    let ends : Ends 0 (wrong_line c.args.name.now c.args.v) = omega (arith, wrong-long c.args.name.now c.args.v c.requires) in
    ends-second 0 front (last) c.args.out.now _ _ (ends) c.put_text-next.ensures

pub returns : goal.returns
unfolding wrong_line
returns c =
    let last : Bytes = last_number c.args.name.now c.args.v in
    then 0 front (last) c.args.out.now _ _ _ _ c.put_text-next.ensures c.put_last.ensures
