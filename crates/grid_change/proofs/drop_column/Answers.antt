-- `grid_change::drop_column` meets its contract: the column goes, or it is not there. Assumes nothing.
use Prim.Native.Nat.{ℕ}
use mathlib.Core.List.{List}
use mathlib.Core.Path.{◌∙◌, ap}
use native.Mathlib.Omega.{arith}
use Rattle.fields.proofs.Lent.{seen}
use Rattle.grid.specs.GridLayout.{row_in, row_width, rows_in, rows_width}
use Rattle.grid.proofs.GridBytes.{good-grid}
use Rattle.grid_change.proofs.Storing.{drop-none, drop-one, few}
use Rattle.grid_change.proofs.drop_column.Goals as goal

pub byte_at-n-requires : goal.byte_at-n-requires
byte_at-n-requires c =
    omega (arith, (good-grid c.args.grid.now c.requires).long)

pub slice_bounds-read_row-end : goal.slice_bounds-read_row-end
slice_bounds-read_row-end c =
    omega (arith, (good-grid c.args.grid.now c.requires).long)

pub place_of-j-requires : goal.place_of-j-requires
place_of-j-requires c =
    let l : List ℕ = c.args.grid.now in
    let v = c.requires in
    let n : ℕ = c.byte_at-n.result in
    let row : List ℕ = c.read_row-numbers.result in
    let nr = c.byte_at-n.ensures.0 in
    let rr = c.read_row-numbers.ensures ∙ ap row_in (seen 1 row_width l) in
    few l v n row nr rr

pub slice_bounds-read_rows-end : goal.slice_bounds-read_rows-end
slice_bounds-read_rows-end c =
    omega (arith, (good-grid c.args.grid.now c.requires).long)

pub slice_bounds-read_rows-end-then-j-n : goal.slice_bounds-read_rows-end-then-j-n
slice_bounds-read_rows-end-then-j-n c =
    omega (arith, (good-grid c.args.grid.now c.requires).long)

pub place_out-requires : goal.place_out-requires
place_out-requires c =
    let l : List ℕ = c.args.grid.now in
    let v = c.requires in
    let n : ℕ = c.byte_at-n.result in
    let row : List ℕ = c.read_row-numbers.result in
    let nr = c.byte_at-n.ensures.0 in
    let rr = c.read_row-numbers.ensures ∙ ap row_in (seen 1 row_width l) in
    omega (arith, c.if-j-n.true, few l v n row nr rr)

pub column_out-requires : goal.column_out-requires
column_out-requires c =
    let l : List ℕ = c.args.grid.now in
    let v = c.requires in
    let n : ℕ = c.byte_at-n.result in
    let row : List ℕ = c.read_row-numbers.result in
    let nr = c.byte_at-n.ensures.0 in
    let rr = c.read_row-numbers.ensures ∙ ap row_in (seen 1 row_width l) in
    omega (arith, c.if-j-n.true, few l v n row nr rr)

pub column_out-requires-then-j-n : goal.column_out-requires-then-j-n
column_out-requires-then-j-n c =
    let l : List ℕ = c.args.grid.now in
    let v = c.requires in
    let n : ℕ = c.byte_at-n.result in
    let row : List ℕ = c.read_row-numbers.result in
    let nr = c.byte_at-n.ensures.0 in
    let rr = c.read_row-numbers.ensures ∙ ap row_in (seen 1 row_width l) in
    omega (arith, c.if-j-n.true, few l v n row nr rr)

pub store-requires : goal.store-requires
store-requires c =
    omega (arith, (good-grid c.args.grid.now c.requires).long)

pub returns-then-j-n : goal.returns-then-j-n
returns-then-j-n c =
    let l : List ℕ = c.args.grid.now in
    let v = c.requires in
    let n : ℕ = c.byte_at-n.result in
    let row : List ℕ = c.read_row-numbers.result in
    let nr = c.byte_at-n.ensures.0 in
    let rr = c.read_row-numbers.ensures ∙ ap row_in (seen 1 row_width l) in
    c.store.ensures
    ∙ drop-one l v n row nr rr c.args.number c.place_of-j.result c.place_of-j.ensures c.read_rows-gcs.result c.read_rows-maxes.result
    (c.read_rows-gcs.ensures ∙ ap rows_in (seen 73 rows_width l)) (c.read_rows-maxes.ensures ∙ ap rows_in (seen 585 rows_width l)) c.if-j-n.true
    c.place_out.result c.column_out.result c.column_out-then-j-n.result c.place_out.ensures c.column_out.ensures c.column_out-then-j-n.ensures

pub returns-else-j-n : goal.returns-else-j-n
returns-else-j-n c =
    let l : List ℕ = c.args.grid.now in
    let v = c.requires in
    let n : ℕ = c.byte_at-n.result in
    let row : List ℕ = c.read_row-numbers.result in
    let nr = c.byte_at-n.ensures.0 in
    let rr = c.read_row-numbers.ensures ∙ ap row_in (seen 1 row_width l) in
    drop-none l v n row nr rr c.args.number c.place_of-j.result c.place_of-j.ensures (omega (arith, c.if-j-n.false))
