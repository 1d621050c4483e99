-- `table_check::check_table` meets its contract: the length, the area, the tail, then the forms. Assumes nothing.
use Prim.Native.Nat.{ℕ, ◌-◌}
use mathlib.Core.Path.{◌≡◌, ap, sym, ◌∙◌}
use mathlib.Core.Bool.{Bool}
use mathlib.Core.List.{List}
use Rattle.std.proofs.Common.{Fits, w8}
use native.Mathlib.Omega.{arith}
use lib.ListN.{length, take, drop, get_or}
use lib.Seq.{length-take-le}
use Rattle.fields.specs.Numbers.{AreBytes}
use Rattle.fields.proofs.Numbers.{at-bytes}
use Rattle.fields.proofs.Lent.{seen}
use Rattle.fields.proofs.Parts.{length_part}
use Rattle.rules.specs.Table.{numbers_of}
use Rattle.rules.specs.Layout.{table_width, decode}
use Rattle.rules.specs.Whole.{area_of, tail_of, tail_width, whole_width}
use Rattle.table.specs.Tests.{tail_good}
use Rattle.table.proofs.Tables.{valid-laid, valid-long, valid-few}
use Rattle.table.proofs.Wholes.{other_length, area-stop, tail-stop, forms-decide}
use Rattle.table_check.proofs.check_table.Goals as goal

-- the tail as it is lent
behind : (l : List ℕ) → length l ≡ whole_width → length (take (whole_width - table_width) (drop table_width l)) ≡ tail_width
behind l e = ap length (seen table_width tail_width l) ∙ length_part table_width tail_width l (omega (arith, e))

-- what is told of it is told of the tail
tail : (l : List ℕ) (t : Bool) → t ≡ tail_good (numbers_of (decode (area_of l))) (take (whole_width - table_width) (drop table_width l)) → t ≡ tail_good (numbers_of (decode (area_of l))) (tail_of l)
tail l t e = e ∙ ap (tail_good (numbers_of (decode (area_of l)))) (seen table_width tail_width l)

bytes : (l : List ℕ) → ((i : ℕ) → Fits w8 (get_or l i 0)) → AreBytes l
bytes l f = at-bytes l (λ i. (f i).fits)

pub returns-then-table-ne-TABLE : goal.returns-then-table-ne-TABLE
returns-then-table-ne-TABLE c =
    other_length c.args.table.now c.if-table-ne-TABLE.true

pub slice_bounds-check_area-end : goal.slice_bounds-check_area-end
slice_bounds-check_area-end c =
    sym (length-take-le table_width c.args.table.now (omega arith))

pub slice_bounds-check_tail-end : goal.slice_bounds-check_tail-end
slice_bounds-check_tail-end c =
    sym (length-take-le table_width c.args.table.now (omega arith))

pub check_tail-requires : goal.check_tail-requires
check_tail-requires c =
    let l = c.args.table.now in
    let v = sym c.check_area.ensures ∙ c.if-check_area.true in
    (valid-long (area_of l) v, valid-few (area_of l) v, behind l c.if-table-ne-TABLE.false)

pub check_profile-requires : goal.check_profile-requires
check_profile-requires c =
    let l = c.args.table.now in
    (c.if-table-ne-TABLE.false, valid-laid (area_of l) (sym c.check_area.ensures ∙ c.if-check_area.true))

pub returns-then-check_tail : goal.returns-then-check_tail
returns-then-check_tail c =
    let l = c.args.table.now in
    forms-decide l (bytes l c.type_inv.table) c.if-table-ne-TABLE.false (sym c.check_area.ensures ∙ c.if-check_area.true) (sym (tail l _ c.check_tail.ensures) ∙ c.if-check_tail.true) _ c.check_profile.ensures

pub returns-else-check_tail : goal.returns-else-check_tail
returns-else-check_tail c =
    let l = c.args.table.now in
    tail-stop l (bytes l c.type_inv.table) c.if-table-ne-TABLE.false (sym c.check_area.ensures ∙ c.if-check_area.true) (sym (tail l _ c.check_tail.ensures) ∙ c.if-check_tail.false)

pub returns-else-check_area : goal.returns-else-check_area
returns-else-check_area c =
    let l = c.args.table.now in
    area-stop l (bytes l c.type_inv.table) (sym c.check_area.ensures ∙ c.if-check_area.false)
