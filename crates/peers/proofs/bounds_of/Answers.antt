-- `peers::bounds_of` meets its contract: one column after the other. Assumes nothing.
use mathlib.Core.Path.{◌≡◌, ◌∙◌, ap}
use Prim.Native.Nat.{ℕ}
use Rattle.std.proofs.lemmas.List.Edits.{fill_by_more}
use native.Mathlib.Omega.{arith}
use lib.ListN.{length, length-set}
use Rattle.fields.proofs.Lent.{seen}
use Rattle.fields.proofs.Parts.{length_part}
use Rattle.grid.specs.Grid.{least_of, max_peers, maxes_at}
use Rattle.grid.specs.GridLayout.{decode_grid, rows_in, rows_width}
use Rattle.grid.proofs.GridBytes.{good-grid}
use Rattle.peers.proofs.Watching.{bound-is}
use Rattle.peers.proofs.bounds_of.Goals as goal

pub slice_bounds-read_rows-end : goal.slice_bounds-read_rows-end
slice_bounds-read_rows-end c =
    omega (arith, (good-grid c.args.grid.now c.requires).long)

pub read_rows-maxes-requires : goal.read_rows-maxes-requires
read_rows-maxes-requires c =
    ap length (seen 585 rows_width c.args.grid.now) ∙ length_part 585 rows_width c.args.grid.now (omega (arith, (good-grid c.args.grid.now c.requires).long))

pub slice_bounds-least_of-end : goal.slice_bounds-least_of-end
slice_bounds-least_of-end c =
    omega (arith, (good-grid c.args.grid.now c.requires).long)

pub least_of-requires : goal.least_of-requires
least_of-requires c =
    (ap length (seen 65 max_peers c.args.grid.now) ∙ length_part 65 max_peers c.args.grid.now (omega (arith, (good-grid c.args.grid.now c.requires).long)), omega arith)

pub loop-j-preserved : goal.loop-j-preserved
loop-j-preserved c =
    let l = c.loop-j in
    let g = c.args.grid.now in
    let bound : ℕ → ℕ = λ (j : ℕ). least_of (maxes_at j (decode_grid g)) in
    let e : c.least_of.result ≡ bound l.j = c.least_of.ensures ∙ bound-is g l.j _ _ (seen 65 max_peers g) (c.read_rows-maxes.ensures ∙ ap rows_in (seen 585 rows_width g)) in
    record { long = length-set l.bounds l.j c.least_of.result ∙ l.invariant.long; least = rw e (fill_by_more bound l.bounds l.j 0 (omega arith) l.invariant.least) }
