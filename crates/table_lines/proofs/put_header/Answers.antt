-- `table_lines::put_header` meets its contract: a node's numbers, one behind the other. Assumes nothing.
use mathlib.Core.Path.{◌≡◌, sym, subst}
use mathlib.Core.List.{◌++◌}
use Rattle.fields.specs.Numbers.{Bytes}
use Rattle.rules.specs.Listing.{ascii}
use Rattle.rules.specs.Layout.{decode_node}
use Rattle.listing_text.specs.Texts.{numbered}
use Rattle.listing_room.specs.Room.{Ends, last_two}
use Rattle.listing_room.proofs.Room.{Put, ends-first, ends-three, ends-two, three}
use Rattle.table_listing.specs.TableListing.{node_line}
use Rattle.table_lines.proofs.Pieces.{header_is}
use Rattle.table_lines.proofs.put_header.Goals as goal

pub put_numbered-m-requires : goal.put_numbered-m-requires
put_numbered-m-requires c =
    let number : Bytes = numbered (ascii "node=") c.read_u64-number.result in
    let beat : Bytes = numbered (ascii " heartbeat=") c.read_header-header.result.heartbeat.0 in
    let last : Bytes = last_two (ascii " max=") c.read_header-header.result.max (ascii " gc=") c.read_header-header.result.last_gc in
    let line : number ++ (beat ++ last) ≡ node_line (decode_node c.args.node.now) = header_is c.args.node.now _ _ c.read_u64-number.ensures c.read_header-header.ensures in
    let ends : Ends c.args.at (number ++ (beat ++ last)) = subst (Ends c.args.at) (sym (line)) c.requires.1 in
    ends-first c.args.at (number) (beat ++ last) (ends)

pub put_numbered-n-requires : goal.put_numbered-n-requires
put_numbered-n-requires c =
    let number : Bytes = numbered (ascii "node=") c.read_u64-number.result in
    let beat : Bytes = numbered (ascii " heartbeat=") c.read_header-header.result.heartbeat.0 in
    let last : Bytes = last_two (ascii " max=") c.read_header-header.result.max (ascii " gc=") c.read_header-header.result.last_gc in
    let line : number ++ (beat ++ last) ≡ node_line (decode_node c.args.node.now) = header_is c.args.node.now _ _ c.read_u64-number.ensures c.read_header-header.ensures in
    let ends : Ends c.args.at (number ++ (beat ++ last)) = subst (Ends c.args.at) (sym (line)) c.requires.1 in
    ends-two c.args.at (number) (beat) (last) c.args.out.now _ _ (ends) c.put_numbered-m.ensures

pub put_last_two-requires : goal.put_last_two-requires
put_last_two-requires c =
    let number : Bytes = numbered (ascii "node=") c.read_u64-number.result in
    let beat : Bytes = numbered (ascii " heartbeat=") c.read_header-header.result.heartbeat.0 in
    let last : Bytes = last_two (ascii " max=") c.read_header-header.result.max (ascii " gc=") c.read_header-header.result.last_gc in
    let line : number ++ (beat ++ last) ≡ node_line (decode_node c.args.node.now) = header_is c.args.node.now _ _ c.read_u64-number.ensures c.read_header-header.ensures in
    let ends : Ends c.args.at (number ++ (beat ++ last)) = subst (Ends c.args.at) (sym (line)) c.requires.1 in
    ends-three c.args.at (number) (beat) (last) c.args.out.now _ _ (ends) c.put_numbered-m.ensures _ _ c.put_numbered-n.ensures

pub returns : goal.returns
returns c =
    let number : Bytes = numbered (ascii "node=") c.read_u64-number.result in
    let beat : Bytes = numbered (ascii " heartbeat=") c.read_header-header.result.heartbeat.0 in
    let last : Bytes = last_two (ascii " max=") c.read_header-header.result.max (ascii " gc=") c.read_header-header.result.last_gc in
    let line : number ++ (beat ++ last) ≡ node_line (decode_node c.args.node.now) = header_is c.args.node.now _ _ c.read_u64-number.ensures c.read_header-header.ensures in
    let ends : Ends c.args.at (number ++ (beat ++ last)) = subst (Ends c.args.at) (sym (line)) c.requires.1 in
    let end = c.put_last_two in
    subst (λ (t : Bytes). Put c.args.at t c.args.out.now end.new.out end.result) (line)
    (three c.args.at (number) (beat) (last) c.args.out.now _ _ (ends) c.put_numbered-m.ensures _ _ c.put_numbered-n.ensures _ _
    end.ensures)
