-- `peers::told_known` meets its contract: 21, 2, the pair, or absent. Assumes nothing.
use Prim.Native.Nat.{ℕ}
use mathlib.Core.List.{List, []}
use mathlib.Core.Path.{◌∙◌, ap, ap₂, sym}
use native.Mathlib.Omega.{arith}
use lib.ListN.{get_or}
use Rattle.fields.proofs.Lent.{seen}
use Rattle.grid.specs.GridLayout.{row_in, row_width, rows_in, rows_width}
use Rattle.std.specs.Prelude.{Ok, Some}
use Rattle.grid.proofs.GridBytes.{good-grid}
use Rattle.grid_change.proofs.Storing.{few}
use Rattle.std.proofs.lemmas.Result.{err_from_is_err_and}
use Rattle.peers.proofs.Watching.{no-column, no-peer, pair-absent, pair-there}
use Rattle.peers.proofs.told_known.Goals as goal

pub returns-in_err-row : goal.returns-in_err-row
returns-in_err-row c =
    let p = err_from_is_err_and c.from_residual.result c.from_residual.ensures.1 in
    rw (p.1, p.2, c.in_err-row.ensures.0) (no-peer c.args.grid.now c.args.peer c.args.number c.in_err-row.ensures.1)

pub byte_at-n-requires : goal.byte_at-n-requires
byte_at-n-requires c =
    omega (arith, (good-grid c.args.grid.now c.requires).long)

pub slice_bounds-read_row-end : goal.slice_bounds-read_row-end
slice_bounds-read_row-end c =
    omega (arith, (good-grid c.args.grid.now c.requires).long)

pub place_of-j-requires : goal.place_of-j-requires
place_of-j-requires c =
    few c.args.grid.now c.requires c.byte_at-n.result c.read_row-numbers.result c.byte_at-n.ensures.0 (c.read_row-numbers.ensures ∙ ap row_in (seen 1 row_width c.args.grid.now))

pub returns-then-n-j : goal.returns-then-n-j
returns-then-n-j c =
    no-column c.args.grid.now c.requires c.byte_at-n.result c.read_row-numbers.result c.byte_at-n.ensures.0 (c.read_row-numbers.ensures ∙ ap row_in (seen 1 row_width c.args.grid.now)) c.args.number c.place_of-j.result c.place_of-j.ensures c.args.peer (omega (arith, c.in_ok-row.ensures.0, c.in_ok-row.ensures.1)) c.if-n-j.true

pub bounds-grid-row : goal.bounds-grid-row
bounds-grid-row c =
    omega (arith, (good-grid c.args.grid.now c.requires).long, c.in_ok-row.ensures.1)

pub slice_bounds-read_rows-end : goal.slice_bounds-read_rows-end
slice_bounds-read_rows-end c =
    omega (arith, (good-grid c.args.grid.now c.requires).long)

pub slice_bounds-read_rows-end-2 : goal.slice_bounds-read_rows-end-2
slice_bounds-read_rows-end-2 c =
    omega (arith, (good-grid c.args.grid.now c.requires).long)

pub bounds-gcs-j : goal.bounds-gcs-j
bounds-gcs-j c =
    omega (arith, c.if-n-j.false, few c.args.grid.now c.requires c.byte_at-n.result c.read_row-numbers.result c.byte_at-n.ensures.0 (c.read_row-numbers.ensures ∙ ap row_in (seen 1 row_width c.args.grid.now)))

pub bounds-maxes-j : goal.bounds-maxes-j
bounds-maxes-j c =
    omega (arith, c.if-n-j.false, few c.args.grid.now c.requires c.byte_at-n.result c.read_row-numbers.result c.byte_at-n.ensures.0 (c.read_row-numbers.ensures ∙ ap row_in (seen 1 row_width c.args.grid.now)))

pub returns : goal.returns
returns c =
    let gs = c.read_rows-gcs.ensures ∙ ap rows_in (seen 73 rows_width c.args.grid.now) in
    let ms = c.read_rows-maxes.ensures ∙ ap rows_in (seen 585 rows_width c.args.grid.now) in
    rw (sym c.in_ok-row.ensures.0)
    (ap₂ (λ (x y : List (List ℕ)). (Ok (Some (record { last_gc = (get_or (get_or x c.in_ok-row.row []) c.place_of-j.result 0); max = (get_or (get_or y c.in_ok-row.row []) c.place_of-j.result 0) })))) gs ms
    ∙ pair-there c.args.grid.now c.requires c.byte_at-n.result c.read_row-numbers.result c.byte_at-n.ensures.0 (c.read_row-numbers.ensures ∙ ap row_in (seen 1 row_width c.args.grid.now)) c.args.number c.place_of-j.result c.place_of-j.ensures c.in_ok-row.row c.in_ok-row.ensures.1 (omega (arith, c.if-n-j.false)) c.if-grid-row-ne1.false)

pub returns-then-grid-row-ne1 : goal.returns-then-grid-row-ne1
returns-then-grid-row-ne1 c =
    rw (sym c.in_ok-row.ensures.0)
    (pair-absent c.args.grid.now c.requires c.byte_at-n.result c.read_row-numbers.result c.byte_at-n.ensures.0 (c.read_row-numbers.ensures ∙ ap row_in (seen 1 row_width c.args.grid.now)) c.args.number c.place_of-j.result c.place_of-j.ensures c.in_ok-row.row c.in_ok-row.ensures.1 (omega (arith, c.if-n-j.false)) c.if-grid-row-ne1.true)
