-- `grid_change::add_column` meets its contract: the column is there, or it comes. Assumes nothing.
use Prim.Native.Nat.{ℕ}
use mathlib.Core.List.{List}
use mathlib.Core.Path.{◌∙◌, ap}
use native.Mathlib.Omega.{arith}
use lib.ListN.{take}
use Rattle.fields.proofs.Lent.{seen}
use Rattle.grid.specs.GridLayout.{row_in, row_width, rows_in, rows_width}
use Rattle.grid.proofs.GridBytes.{good-grid}
use Rattle.grid.proofs.Places.{place-fits}
use Rattle.grid_change.proofs.Storing.{add_none, add-one-more, few, many}
use Rattle.grid_change.proofs.add_column.Goals as goal

pub byte_at-n-requires : goal.byte_at-n-requires
byte_at-n-requires c =
    omega (arith, (good-grid c.args.grid.now c.requires).long)

pub slice_bounds-read_row-end : goal.slice_bounds-read_row-end
slice_bounds-read_row-end c =
    omega (arith, (good-grid c.args.grid.now c.requires).long)

pub place_of-requires : goal.place_of-requires
place_of-requires c =
    let l : List ℕ = c.args.grid.now in
    let v = c.requires in
    let n : ℕ = c.byte_at-n.result in
    let row : List ℕ = c.read_row-numbers.result in
    let nr = c.byte_at-n.ensures.0 in
    let rr = c.read_row-numbers.ensures ∙ ap row_in (seen 1 row_width l) in
    few l v n row nr rr

pub returns-then-place_of-n : goal.returns-then-place_of-n
returns-then-place_of-n c =
    let l : List ℕ = c.args.grid.now in
    let v = c.requires in
    let n : ℕ = c.byte_at-n.result in
    let row : List ℕ = c.read_row-numbers.result in
    let nr = c.byte_at-n.ensures.0 in
    let rr = c.read_row-numbers.ensures ∙ ap row_in (seen 1 row_width l) in
    add_none l v n row nr rr c.args.number c.place_of.result c.place_of.ensures c.if-place_of-n.true

pub place_for-j-requires : goal.place_for-j-requires
place_for-j-requires c =
    let l : List ℕ = c.args.grid.now in
    let v = c.requires in
    let n : ℕ = c.byte_at-n.result in
    let row : List ℕ = c.read_row-numbers.result in
    let nr = c.byte_at-n.ensures.0 in
    let rr = c.read_row-numbers.ensures ∙ ap row_in (seen 1 row_width l) in
    few l v n row nr rr

pub slice_bounds-read_rows-end : goal.slice_bounds-read_rows-end
slice_bounds-read_rows-end c =
    omega (arith, (good-grid c.args.grid.now c.requires).long)

pub slice_bounds-read_rows-end-2 : goal.slice_bounds-read_rows-end-2
slice_bounds-read_rows-end-2 c =
    omega (arith, (good-grid c.args.grid.now c.requires).long)

pub place_in-requires : goal.place_in-requires
place_in-requires c =
    let l : List ℕ = c.args.grid.now in
    let v = c.requires in
    let n : ℕ = c.byte_at-n.result in
    let row : List ℕ = c.read_row-numbers.result in
    let nr = c.byte_at-n.ensures.0 in
    let rr = c.read_row-numbers.ensures ∙ ap row_in (seen 1 row_width l) in
    omega (arith, c.place_for-j.ensures, place-fits c.args.number (take n row), many l v n row nr rr, few l v n row nr rr)

pub column_in-requires : goal.column_in-requires
column_in-requires c =
    let l : List ℕ = c.args.grid.now in
    let v = c.requires in
    let n : ℕ = c.byte_at-n.result in
    let row : List ℕ = c.read_row-numbers.result in
    let nr = c.byte_at-n.ensures.0 in
    let rr = c.read_row-numbers.ensures ∙ ap row_in (seen 1 row_width l) in
    omega (arith, c.place_for-j.ensures, place-fits c.args.number (take n row), many l v n row nr rr, few l v n row nr rr)

pub column_in-requires-2 : goal.column_in-requires-2
column_in-requires-2 c =
    let l : List ℕ = c.args.grid.now in
    let v = c.requires in
    let n : ℕ = c.byte_at-n.result in
    let row : List ℕ = c.read_row-numbers.result in
    let nr = c.byte_at-n.ensures.0 in
    let rr = c.read_row-numbers.ensures ∙ ap row_in (seen 1 row_width l) in
    omega (arith, c.place_for-j.ensures, place-fits c.args.number (take n row), many l v n row nr rr, few l v n row nr rr)

pub store-requires : goal.store-requires
store-requires c =
    omega (arith, (good-grid c.args.grid.now c.requires).long)

pub returns : goal.returns
returns c =
    let l : List ℕ = c.args.grid.now in
    let v = c.requires in
    let n : ℕ = c.byte_at-n.result in
    let row : List ℕ = c.read_row-numbers.result in
    let nr = c.byte_at-n.ensures.0 in
    let rr = c.read_row-numbers.ensures ∙ ap row_in (seen 1 row_width l) in
    c.store.ensures
    ∙ add-one-more l v n row nr rr c.args.number c.place_of.result c.place_of.ensures c.read_rows-gcs.result c.read_rows-maxes.result
    (c.read_rows-gcs.ensures ∙ ap rows_in (seen 73 rows_width l)) (c.read_rows-maxes.ensures ∙ ap rows_in (seen 585 rows_width l)) (omega (arith, c.if-place_of-n.false))
    c.place_for-j.result c.place_for-j.ensures c.place_in.result c.column_in.result c.column_in-2.result c.place_in.ensures c.column_in.ensures c.column_in-2.ensures
