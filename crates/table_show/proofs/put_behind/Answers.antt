-- `table_show::put_behind` meets its contract: two texts, one behind the other. Assumes nothing.
use mathlib.Core.Path.{◌≡◌, ap, sym, subst}
use mathlib.Core.List.{◌++◌}
use Rattle.fields.specs.Blocks.{flat}
use Rattle.fields.specs.Numbers.{Bytes}
use Rattle.rules.specs.Layout.{decode}
use Rattle.rules.specs.Whole.{decode_memory}
use Rattle.listing_room.specs.Room.{Ends}
use Rattle.listing_room.proofs.Room.{Put, ends-first, ends-second, then}
use Rattle.table_listing.specs.TableListing.{behind_nodes, end_text, removed_line}
use Rattle.table_show.proofs.Shown.{end_is}
use Rattle.table_show.proofs.put_behind.Goals as goal

pub put_removed-next-requires : goal.put_removed-next-requires
put_removed-next-requires c =
    let removed : Bytes = flat removed_line (decode_memory c.args.tail.now) in
    let end : Bytes = end_text c.byte_at-nodes.result c.count_records-records.result c.byte_at-removed.result in
    let whole : removed ++ end ≡ behind_nodes (decode c.args.area.now) (decode_memory c.args.tail.now) = ap (λ (t : Bytes). removed ++ t)
    (end_is c.args.area.now c.args.tail.now _ _ _ c.byte_at-nodes.ensures.0 c.count_records-records.ensures c.byte_at-removed.ensures.0) in
    let ends : Ends c.args.at (removed ++ end) = subst (Ends c.args.at) (sym (whole)) c.requires.3 in
    (c.requires.1, c.requires.2, ends-first c.args.at (removed) (end) (ends))

pub put_end-requires : goal.put_end-requires
put_end-requires c =
    let removed : Bytes = flat removed_line (decode_memory c.args.tail.now) in
    let end : Bytes = end_text c.byte_at-nodes.result c.count_records-records.result c.byte_at-removed.result in
    let whole : removed ++ end ≡ behind_nodes (decode c.args.area.now) (decode_memory c.args.tail.now) = ap (λ (t : Bytes). removed ++ t)
    (end_is c.args.area.now c.args.tail.now _ _ _ c.byte_at-nodes.ensures.0 c.count_records-records.ensures c.byte_at-removed.ensures.0) in
    let ends : Ends c.args.at (removed ++ end) = subst (Ends c.args.at) (sym (whole)) c.requires.3 in
    ends-second c.args.at (removed) (end) c.args.out.now _ _ (ends) c.put_removed-next.ensures

pub returns : goal.returns
returns c =
    let removed : Bytes = flat removed_line (decode_memory c.args.tail.now) in
    let end : Bytes = end_text c.byte_at-nodes.result c.count_records-records.result c.byte_at-removed.result in
    let whole : removed ++ end ≡ behind_nodes (decode c.args.area.now) (decode_memory c.args.tail.now) = ap (λ (t : Bytes). removed ++ t)
    (end_is c.args.area.now c.args.tail.now _ _ _ c.byte_at-nodes.ensures.0 c.count_records-records.ensures c.byte_at-removed.ensures.0) in
    let call = c.put_end in
    subst (λ (t : Bytes). Put c.args.at t c.args.out.now call.new.out call.result) (whole)
    (then c.args.at (removed) (end) c.args.out.now _ _ _ _ c.put_removed-next.ensures call.ensures)
