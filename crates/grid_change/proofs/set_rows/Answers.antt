-- `grid_change::set_rows` meets its contract. Assumes nothing.
use Prim.Native.Nat.{ℕ}
use mathlib.Core.List.{List}
use mathlib.Core.Path.{◌∙◌, ap}
use native.Mathlib.Omega.{arith}
use Rattle.fields.proofs.Lent.{seen}
use Rattle.grid.specs.GridLayout.{row_in, row_width, rows_in, rows_width}
use Rattle.grid.proofs.GridBytes.{good-grid}
use lib.ListN.{length-set}
use Rattle.grid_change.proofs.Storing.{rows-set}
use Rattle.grid_change.proofs.set_rows.Goals as goal

pub byte_at-n-requires : goal.byte_at-n-requires
byte_at-n-requires c =
    omega (arith, (good-grid c.args.grid.now c.requires.0).long, c.requires.1)

pub slice_bounds-read_row-end : goal.slice_bounds-read_row-end
slice_bounds-read_row-end c =
    omega (arith, (good-grid c.args.grid.now c.requires.0).long, c.requires.1)

pub slice_bounds-read_rows-end : goal.slice_bounds-read_rows-end
slice_bounds-read_rows-end c =
    omega (arith, (good-grid c.args.grid.now c.requires.0).long, c.requires.1)

pub slice_bounds-read_rows-end-2 : goal.slice_bounds-read_rows-end-2
slice_bounds-read_rows-end-2 c =
    omega (arith, (good-grid c.args.grid.now c.requires.0).long, c.requires.1)

pub bounds-grid-a : goal.bounds-grid-a
bounds-grid-a c =
    omega (arith, (good-grid c.args.grid.now c.requires.0).long, c.requires.1)

pub store-requires : goal.store-requires
store-requires c =
    length-set c.args.grid.now _ _ ∙ (good-grid c.args.grid.now c.requires.0).long

pub returns : goal.returns
returns c =
    let l : List ℕ = c.args.grid.now in
    let v = c.requires.0 in
    let n : ℕ = c.byte_at-n.result in
    let row : List ℕ = c.read_row-numbers.result in
    let nr = c.byte_at-n.ensures.0 in
    let rr = c.read_row-numbers.ensures ∙ ap row_in (seen 1 row_width l) in
    c.store.ensures
    ∙ rows-set l v n row nr rr c.read_rows-gcs.result c.read_rows-maxes.result (c.read_rows-gcs.ensures ∙ ap rows_in (seen 73 rows_width l)) (c.read_rows-maxes.ensures ∙ ap rows_in (seen 585 rows_width l))
    c.args.peer c.args.present c.args.gc_row c.args.max_row c.requires.1
