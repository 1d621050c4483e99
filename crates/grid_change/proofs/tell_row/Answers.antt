-- `grid_change::tell_row` meets its contract. Assumes nothing.
use Prim.Native.Nat.{ℕ}
use mathlib.Core.List.{List}
use mathlib.Core.Path.{◌∙◌, ap, ap₂}
use native.Mathlib.Omega.{arith}
use Rattle.fields.proofs.Lent.{seen}
use Rattle.rules.specs.Digest.{NodeDigest}
use Rattle.digest_read.specs.Held.{entries_in}
use Rattle.grid.specs.Grid.{row_told, tell_row}
use Rattle.grid.specs.GridLayout.{decode_grid, encode_grid, row_in, row_width}
use Rattle.grid.proofs.GridBytes.{good-grid}
use Rattle.grid_change.specs.Stored.{with_rows}
use Rattle.grid_change.proofs.Storing.{columns-are, few}
use Rattle.grid_change.proofs.tell_row.Goals as goal

pub byte_at-n-requires : goal.byte_at-n-requires
byte_at-n-requires c =
    omega (arith, (good-grid c.args.grid.now c.requires.0).long, c.requires.1)

pub slice_bounds-read_row-end : goal.slice_bounds-read_row-end
slice_bounds-read_row-end c =
    omega (arith, (good-grid c.args.grid.now c.requires.0).long, c.requires.1)

pub rows_told-requires : goal.rows_told-requires
rows_told-requires c =
    let l : List ℕ = c.args.grid.now in
    let v = c.requires.0 in
    let n : ℕ = c.byte_at-n.result in
    let row : List ℕ = c.read_row-numbers.result in
    let nr = c.byte_at-n.ensures.0 in
    let rr = c.read_row-numbers.ensures ∙ ap row_in (seen 1 row_width l) in
    few l v n row nr rr

pub returns : goal.returns
unfolding tell_row
returns c =
    let l : List ℕ = c.args.grid.now in
    let v = c.requires.0 in
    let n : ℕ = c.byte_at-n.result in
    let row : List ℕ = c.read_row-numbers.result in
    let nr = c.byte_at-n.ensures.0 in
    let rr = c.read_row-numbers.ensures ∙ ap row_in (seen 1 row_width l) in
    let ds : List NodeDigest = entries_in c.args.digest in
    let cols = columns-are l v n row nr rr in
    c.set_rows.ensures
    ∙ ap₂ (λ (x y : List ℕ). encode_grid (with_rows c.args.peer 1 x y (decode_grid l))) (c.rows_told.ensures.gcs ∙ ap (row_told (λ d. d.last_gc) ds) cols)
    (c.rows_told.ensures.maxes ∙ ap (row_told (λ d. d.max) ds) cols)
