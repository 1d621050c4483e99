-- `grid_check::check_grid` meets its contract: the length, what stands in front of the rows, and the rows. Assumes nothing.
use Prim.Native.Nat.{ℕ, ◌+◌, ◌-◌}
use mathlib.Core.List.{List}
use mathlib.Core.Path.{◌≡◌, ◌∙◌, ap, refl, sym}
use native.Mathlib.Omega.{arith}
use lib.ListN.{take, drop}
use Rattle.fields.specs.Numbers.{AreBytes, nat_of}
use Rattle.fields.specs.Parts.{part}
use Rattle.fields.proofs.Lent.{seen}
use Rattle.fields.proofs.Numbers.{at-bytes}
use Rattle.grid.specs.Grid.{max_peers, rows_obey}
use Rattle.grid.specs.GridLayout.{rows_in, rows_width}
use Rattle.grid.proofs.GridBytes.{valid-long}
use Rattle.grid_check.proofs.Checked.{gcs-bad, head-bad, maxes-decide}
use Rattle.grid_check.proofs.check_grid.Goals as goal

-- the rows as they are lent and read
asked : (n at : ℕ) (g : List ℕ) (rows : List (List ℕ)) → rows ≡ rows_in (take (at + rows_width - at) (drop at g))
    → rows_obey n (take (65 + max_peers - 65) (drop 65 g)) rows ≡ rows_obey n (part 65 max_peers g) (rows_in (part at rows_width g))
asked n at g rows e = λ z. rows_obey n (seen 65 max_peers g z) ((e ∙ ap rows_in (seen at rows_width g)) z)

pub returns-then-grid-ne-GRID : goal.returns-then-grid-ne-GRID
returns-then-grid-ne-GRID c =
    sym (valid-long c.args.grid.now c.if-grid-ne-GRID.true)

pub returns-then-rows_obey : goal.returns-then-rows_obey
returns-then-rows_obey c =
    let bytes : AreBytes c.args.grid.now = at-bytes c.args.grid.now (λ i. (c.shared_slice_known-1.given i).fits) in
    let g : List ℕ = c.args.grid.now in
    let n : ℕ = c.byte_at-n.result in
    let k = c.read_rows-gcs in
    c.rows_obey-then-rows_obey.ensures
    ∙ asked n 585 g c.read_rows-maxes.result c.read_rows-maxes.ensures
    ∙ sym (maxes-decide g (bytes) (omega arith) n c.byte_at-n.ensures.0 (sym c.check_head.ensures ∙ c.if-check_head.true) (sym (c.rows_obey.ensures ∙ asked n 73 g k.result k.ensures) ∙ c.if-rows_obey.true))

pub returns-else-rows_obey : goal.returns-else-rows_obey
returns-else-rows_obey c =
    let bytes : AreBytes c.args.grid.now = at-bytes c.args.grid.now (λ i. (c.shared_slice_known-1.given i).fits) in
    let g : List ℕ = c.args.grid.now in
    let n : ℕ = c.byte_at-n.result in
    let k = c.read_rows-gcs in
    sym (gcs-bad g (bytes) (omega arith) n c.byte_at-n.ensures.0 (sym c.check_head.ensures ∙ c.if-check_head.true) (sym (c.rows_obey.ensures ∙ asked n 73 g k.result k.ensures) ∙ c.if-rows_obey.false))

pub returns-else-check_head : goal.returns-else-check_head
returns-else-check_head c =
    let bytes : AreBytes c.args.grid.now = at-bytes c.args.grid.now (λ i. (c.shared_slice_known-1.given i).fits) in
    let g : List ℕ = c.args.grid.now in
    sym (head-bad g (bytes) (omega arith) (nat_of (part 0 1 g)) refl (sym c.check_head.ensures ∙ c.if-check_head.false))
