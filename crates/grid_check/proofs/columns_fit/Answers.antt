-- `grid_check::columns_fit` meets its contract: the columns and the nodes that are left decide. Assumes nothing.
use Prim.Native.Nat.{ℕ}
use mathlib.Core.Path.{◌≡◌, ◌∙◌, ap, refl, sym}
use mathlib.Core.List.{List}
use native.Mathlib.Omega.{arith}
use lib.ListN.{length, take}
use lib.Seq.{length-take-le}
use Rattle.fields.specs.Parts.{part}
use Rattle.fields.proofs.Lent.{seen}
use Rattle.fields.proofs.Ordered.{same_length}
use Rattle.rules.specs.Table.{numbers_of}
use Rattle.rules.specs.Layout.{decode}
use Rattle.table.proofs.Tables.{valid-few, valid-long}
use Rattle.grid.specs.GridLayout.{row_in, row_width}
use Rattle.grid.proofs.GridBytes.{good-grid, row-long}
use Rattle.grid_check.proofs.Checked.{columns-read, node-number, nodes-many, columns_end, columns_not, columns-on}
use Rattle.grid_check.proofs.columns_fit.Goals as goal

pub byte_at-n-requires : goal.byte_at-n-requires
byte_at-n-requires c =
    omega (arith, (good-grid c.args.grid.now c.requires.0).long)

pub byte_at-requires : goal.byte_at-requires
byte_at-requires c =
    omega (arith, valid-long c.args.area.now c.requires.1)

pub returns-then-n-byte_at : goal.returns-then-n-byte_at
returns-then-n-byte_at c =
    let g : List ℕ = c.args.grid.now in
    let a : List ℕ = c.args.area.now in
    let row : List ℕ = row_in (part 1 row_width g) in
    let n = c.byte_at-n.ensures.0 in
    let first : length (take c.byte_at-n.result row) ≡ c.byte_at-n.result = length-take-le c.byte_at-n.result row (omega (arith, n, (good-grid g c.requires.0).few, row-long (part 1 row_width g))) in
    sym (same_length (take c.byte_at-n.result row) (numbers_of (decode a)) (λ q. c.if-n-byte_at.true (sym first ∙ q ∙ nodes-many a ∙ sym c.byte_at.ensures.0)))
    ∙ columns-read g a c.byte_at-n.result row n refl

pub slice_bounds-read_row-end : goal.slice_bounds-read_row-end
slice_bounds-read_row-end c =
    omega (arith, (good-grid c.args.grid.now c.requires.0).long)

pub loop-i-init : goal.loop-i-init
loop-i-init c =
    record {
      few = omega (arith, c.byte_at-n.ensures.0, (good-grid c.args.grid.now c.requires.0).few, ap length c.read_row-numbers.ensures, row-long (part 1 row_width c.args.grid.now));
      many = c.if-n-byte_at.false ∙ c.byte_at.ensures.0 ∙ sym (nodes-many c.args.area.now);
      left = refl;
    }

pub number_at-requires : goal.number_at-requires
number_at-requires c =
    let a : List ℕ = c.args.area.now in
    (valid-long a c.requires.1, valid-few a c.requires.1, omega (arith, c.loop-i.invariant.many, nodes-many a))

pub loop-i-preserved : goal.loop-i-preserved
loop-i-preserved c =
    let a : List ℕ = c.args.area.now in
    let l = c.loop-i in
    let v = l.invariant in
    let e = c.if-numbers-i.false ∙ c.number_at.ensures ∙ sym (node-number a l.i (omega (arith, v.many, nodes-many a))) in
    record { few = v.few; many = v.many; left = sym (columns-on _ l.i _ (numbers_of (decode a)) v.few v.many (omega arith) e) ∙ v.left }

pub returns-then-numbers-i : goal.returns-then-numbers-i
returns-then-numbers-i c =
    let g : List ℕ = c.args.grid.now in
    let a : List ℕ = c.args.area.now in
    let l = c.loop-i in
    let v = l.invariant in
    let k = c.read_row-numbers in
    sym (columns_not _ l.i _ (numbers_of (decode a)) v.few v.many (omega arith)
    (λ q. c.if-numbers-i.true (q ∙ node-number a l.i (omega (arith, v.many, nodes-many a)) ∙ sym c.number_at.ensures)))
    ∙ v.left
    ∙ columns-read g a c.byte_at-n.result k.result c.byte_at-n.ensures.0 (k.ensures ∙ ap row_in (seen 1 row_width g))

pub returns : goal.returns
returns c =
    let g : List ℕ = c.args.grid.now in
    let a : List ℕ = c.args.area.now in
    let v = c.loop-i.invariant in
    let k = c.read_row-numbers in
    sym (columns_end _ c.loop-i.i _ (numbers_of (decode a)) v.few v.many (omega arith))
    ∙ v.left
    ∙ columns-read g a c.byte_at-n.result k.result c.byte_at-n.ensures.0 (k.ensures ∙ ap row_in (seen 1 row_width g))
