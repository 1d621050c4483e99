-- `table_lines::put_end` meets its contract: two texts, one behind the other. Assumes nothing.
use Rattle.fields.specs.Numbers.{Bytes}
use Rattle.rules.specs.Listing.{ascii}
use Rattle.listing_text.specs.Texts.{numbered}
use Rattle.listing_room.specs.Room.{last_two}
use Rattle.listing_room.proofs.Room.{ends-first, ends-second, then}
use Rattle.table_listing.specs.TableListing.{end_text}
use Rattle.table_lines.proofs.put_end.Goals as goal

pub put_numbered-next-requires : goal.put_numbered-next-requires
unfolding end_text
put_numbered-next-requires c =
    let one : Bytes = numbered (ascii "end=ok nodes=") c.args.nodes in
    let two : Bytes = last_two (ascii " records=") c.args.records (ascii " removed=") c.args.removed in
    ends-first c.args.at (one) (two) c.requires

pub put_last_two-requires : goal.put_last_two-requires
unfolding end_text
put_last_two-requires c =
    let one : Bytes = numbered (ascii "end=ok nodes=") c.args.nodes in
    let two : Bytes = last_two (ascii " records=") c.args.records (ascii " removed=") c.args.removed in
    ends-second c.args.at (one) (two) c.args.out.now _ _ c.requires c.put_numbered-next.ensures

pub returns : goal.returns
unfolding end_text
returns c =
    let one : Bytes = numbered (ascii "end=ok nodes=") c.args.nodes in
    let two : Bytes = last_two (ascii " records=") c.args.records (ascii " removed=") c.args.removed in
    then c.args.at (one) (two) c.args.out.now _ _ _ _ c.put_numbered-next.ensures c.put_last_two.ensures
