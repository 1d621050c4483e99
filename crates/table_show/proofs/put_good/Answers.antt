-- `table_show::put_good` meets its contract: three texts, one behind the other. Assumes nothing.
use mathlib.Core.Path.{◌≡◌, refl, sym, subst}
use mathlib.Core.List.{◌++◌}
use native.Mathlib.Omega.{arith}
use lib.Seq.{length-take-le}
use Rattle.fields.specs.Blocks.{flat}
use Rattle.fields.specs.Numbers.{Bytes}
use Rattle.fields.proofs.Lent.{seen}
use Rattle.rules.specs.Layout.{decode, table_width}
use Rattle.rules.specs.Whole.{area_of, decode_memory, decode_whole, tail_of, tail_width, valid_whole}
use Rattle.table.proofs.Wholes.{whole_long}
use Rattle.listing_room.specs.Room.{Ends}
use Rattle.listing_room.proofs.Room.{Put, ends-first, ends-three, ends-two, three}
use Rattle.table_listing.specs.TableListing.{behind_nodes, entry_text, kind_line, whole_text}
use mathlib.Core.Bool.{true}
use Rattle.table_show.proofs.Shown.{good-area, good-ends, good-tail}
use Rattle.table_show.proofs.put_good.Goals as goal

abbrev kind : (table : Bytes) → Bytes
kind b = kind_line (decode_whole b).kind

abbrev nodes : (table : Bytes) → Bytes
nodes b = flat entry_text (decode (area_of b))

-- with the tail as it is lent
abbrev behind : (tail table : Bytes) → Bytes
behind t b = behind_nodes (decode (area_of b)) (decode_memory t)

ends : (b t : Bytes) → valid_whole b ≡ true → t ≡ tail_of b → Ends 0 (kind b ++ (nodes b ++ behind t b))
unfolding whole_text
ends b t h e = subst (λ (x : Bytes). Ends 0 (kind b ++ (nodes b ++ behind x b))) (sym e) (good-ends b h)

pub slice_bounds-area-end : goal.slice_bounds-area-end
slice_bounds-area-end c = sym (length-take-le table_width c.args.table.now (omega (arith, whole_long c.args.table.now c.requires)))

pub slice_bounds-tail-end : goal.slice_bounds-tail-end
slice_bounds-tail-end c = omega (arith, whole_long c.args.table.now c.requires)

pub put_kind-m-requires : goal.put_kind-m-requires
put_kind-m-requires c =
    let b = c.args.table.now in
    let t = tail_of b in
    (whole_long b c.requires, ends-first 0 (kind b) (nodes b ++ behind t b) (ends b t c.requires refl))

pub put_nodes-n-requires : goal.put_nodes-n-requires
put_nodes-n-requires c =
    let b = c.args.table.now in
    let t = tail_of b in
    (good-area b c.requires, ends-two 0 (kind b) (nodes b) (behind t b) c.args.out.now _ _ (ends b t c.requires refl) c.put_kind-m.ensures)

pub put_behind-requires : goal.put_behind-requires
put_behind-requires c =
    let b = c.args.table.now in
    let e = seen table_width tail_width b in
    let tail = good-tail b c.requires _ e in (
      good-area b c.requires,
      tail.0,
      tail.1,
      ends-three 0 (kind b) (nodes b) (behind _ b) c.args.out.now _ _ (ends b _ c.requires e) c.put_kind-m.ensures _ _ c.put_nodes-n.ensures,
    )

pub returns : goal.returns
unfolding whole_text
returns c =
    let b = c.args.table.now in
    let e = seen table_width tail_width b in
    let call = c.put_behind in
    subst (λ (t : Bytes). Put 0 (kind b ++ (nodes b ++ behind t b)) c.args.out.now call.new.out call.result) e
    (three 0 (kind b) (nodes b) (behind _ b) c.args.out.now _ _ (ends b _ c.requires e) c.put_kind-m.ensures _ _ c.put_nodes-n.ensures _ _ call.ensures)
