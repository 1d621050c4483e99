-- `table_lines::put_node` meets its contract: the node's line, and those of its records behind it. Assumes nothing.
use Rattle.fields.specs.Blocks.{flat}
use Rattle.fields.specs.Numbers.{Bytes}
use Rattle.rules.specs.Layout.{decode_node}
use Rattle.table.specs.Tests.{recs_in}
use Rattle.listing_room.proofs.Room.{ends-first, ends-second, then}
use Rattle.table_listing.specs.TableListing.{entry_text, node_line, record_line}
use Rattle.table_lines.proofs.put_node.Goals as goal

pub put_header-next-requires : goal.put_header-next-requires
unfolding entry_text
put_header-next-requires c =
    let line : Bytes = node_line (decode_node c.args.node.now) in
    let records : Bytes = flat record_line (recs_in c.args.node.now) in
    (c.requires.0.long, ends-first c.args.at (line) (records) c.requires.1)

pub put_records-requires : goal.put_records-requires
unfolding entry_text
put_records-requires c =
    let line : Bytes = node_line (decode_node c.args.node.now) in
    let records : Bytes = flat record_line (recs_in c.args.node.now) in
    (c.requires.0, ends-second c.args.at (line) (records) c.args.out.now _ _ c.requires.1 c.put_header-next.ensures)

pub returns : goal.returns
unfolding entry_text
returns c =
    let line : Bytes = node_line (decode_node c.args.node.now) in
    let records : Bytes = flat record_line (recs_in c.args.node.now) in
    then c.args.at (line) (records) c.args.out.now _ _ _ _ c.put_header-next.ensures c.put_records.ensures
