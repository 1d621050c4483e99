-- `grid_change::make` meets its contract. Assumes nothing.
use Prim.Native.Nat.{ℕ}
use mathlib.Core.List.{List}
use mathlib.Core.Path.{◌≡◌, ◌∙◌, ap, sym}
use native.Mathlib.Omega.{arith}
use lib.ListN.{length}
use Rattle.fields.specs.Blocks.{fit, zeros}
use Prim.Native.Nat.{◌≤◌}
use Rattle.fields.specs.Parts.{part, put}
use Rattle.fields.proofs.Parts.{part-put}
use Rattle.rules.specs.Sizes.{max_nodes}
use Rattle.rules.specs.Table.{numbers_of}
use Rattle.rules.specs.Layout.{decode}
use Rattle.table.proofs.Tables.{valid-long}
use Rattle.grid.specs.Grid.{max_peers, new_grid, no_rows}
use Rattle.grid.specs.GridLayout.{encode_grid}
use Rattle.grid_check.proofs.Checked.{nodes-many}
use Rattle.grid_change.proofs.make.Goals as goal

-- the values that were stored are those of a new grid
new_is : (n : ℕ) (ns numbers b l : List ℕ) → n ≡ length ns → numbers ≡ fit max_nodes ns → b ≡ put 65 (zeros max_peers) l → 73 ≤ length l
    → encode_grid (record { count = n; numbers = numbers; present = part 65 max_peers b; gcs = no_rows; maxes = no_rows }) ≡ encode_grid (new_grid ns)
unfolding new_grid zeros
new_is n ns numbers b l p q e h =
    let f : part 65 max_peers b ≡ zeros max_peers = ap (part 65 max_peers) e ∙ part-put 65 (zeros max_peers) l h in
    ap encode_grid (λ z. record { count = p z; numbers = q z; present = f z; gcs = no_rows; maxes = no_rows })

pub byte_at-n-requires : goal.byte_at-n-requires
byte_at-n-requires c =
    omega (arith, valid-long c.args.area.now c.requires.1)

pub returns : goal.returns
unfolding no_rows zeros
returns c =
    let a : List ℕ = c.args.area.now in
    c.store.ensures
    ∙ new_is c.byte_at-n.result (numbers_of (decode a)) c.numbers_of.result c.clear.new.s c.args.grid.now (c.byte_at-n.ensures.0 ∙ sym (nodes-many a)) c.numbers_of.ensures c.clear.ensures (omega (arith, c.requires.0))
