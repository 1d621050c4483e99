-- `table_wrong::put_line` meets its contract: by the length. Assumes nothing.
use Prim.Native.Nat.{◌-◌}
use mathlib.Core.Path.{◌≡◌, ◌∙◌, ap, refl, subst, sym}
use native.Mathlib.Omega.{arith}
use lib.ListN.{drop, length, take}
use lib.Seq.{length-take-le}
use Rattle.fields.specs.Numbers.{Bytes}
use Rattle.fields.proofs.Lent.{seen}
use Rattle.fields.proofs.Parts.{length_part}
use Rattle.rules.specs.Layout.{table_width}
use Rattle.rules.specs.Whole.{area_of, tail_width, whole_width}
use Rattle.listing_room.proofs.Room.{Put}
use Rattle.table_listing.specs.TableListing.{wrong_area}
use Rattle.table_wrong.proofs.Wrong.{as_long, other-long}
use Rattle.table_wrong.proofs.put_line.Goals as goal

-- the tail as it is lent
behind : (l : Bytes) → length l ≡ whole_width → length (take (whole_width - table_width) (drop table_width l)) ≡ tail_width
behind l e = ap length (seen table_width tail_width l) ∙ length_part table_width tail_width l (omega (arith, e))

pub returns-then-table-ne-TABLE : goal.returns-then-table-ne-TABLE
returns-then-table-ne-TABLE c =
    let a = c.args in
    let call = c.put_wrong in
    subst (λ (t : Bytes). Put 0 t a.out.now call.new.out call.result) (other-long a.table.now _ refl c.if-table-ne-TABLE.true) call.ensures

pub slice_bounds-put_area-end : goal.slice_bounds-put_area-end
slice_bounds-put_area-end c =
    sym (length-take-le table_width c.args.table.now (omega (arith, c.if-table-ne-TABLE.false)))

pub put_area-requires : goal.put_area-requires
put_area-requires c =
    let l = c.args.table.now in
    let e = c.if-table-ne-TABLE.false in
    (length-take-le table_width l (omega (arith, e)), behind l e)

pub returns : goal.returns
returns c =
    let a = c.args in
    let l = a.table.now in
    let call = c.put_area in
    subst (λ (t : Bytes). Put 0 t a.out.now call.new.out call.result)
    (ap (wrong_area (area_of l)) (seen table_width tail_width l) ∙ as_long l c.if-table-ne-TABLE.false) call.ensures
