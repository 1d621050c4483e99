-- A grid whose numbers fit eight bytes is read back from its bytes; so one that obeys the rules has valid bytes. Assumes nothing.
use Prim.Native.Nat.{ℕ, ◌≤◌, ◌<◌}
use mathlib.Core.Path.{◌≡◌, ◌∙◌, ap, sym}
use mathlib.Core.Bool.{true}
use mathlib.Core.List.{List, []}
use native.Mathlib.Omega.{arith}
use lib.ListN.{length, get_or}
use Rattle.fields.specs.Choice.{◌∈◌}
use Rattle.fields.specs.Numbers.{bytes_of, nat_of}
use Rattle.fields.specs.Parts.{part}
use Rattle.fields.specs.Blocks.{blocks, unblock}
use Rattle.fields.specs.Widths.{offset}
use Rattle.fields.specs.Order.{same_bytes}
use Rattle.fields.proofs.Blocks.{blocks-read}
use Rattle.fields.proofs.Choice.{and_intro}
use Rattle.fields.proofs.Numbers.{length-bytes_of, nat-bytes}
use Rattle.fields.proofs.Ordered.{same_self}
use Rattle.fields.proofs.Widths.{field}
use Rattle.rules.specs.Sizes.{max_nodes, numbers}
use Rattle.grid.specs.Grid.{Grid, max_peers, obeys_grid}
use Rattle.grid.specs.GridLayout.{decode_grid, encode_grid, grid_fields, grid_widths, row_bytes, row_in, row_width, rows_bytes, rows_in, rows_width, valid_grid}
use Rattle.grid.proofs.GridBytes.{fit-whole, grid-widths, length-row}

-- eight numbers of eight bytes
pub record FitsRow (row : List ℕ) : Type 0 where
  pub long : length row ≡ max_nodes
  pub each : (n : ℕ) → n ∈ row → n < numbers

pub record FitsRows (rows : List (List ℕ)) : Type 0 where
  pub long : length rows ≡ max_peers
  pub each : (r : List ℕ) → r ∈ rows → FitsRow r

pub record FitsGrid (g : Grid) : Type 0 where
  pub few : g.count ≤ max_nodes
  pub named : FitsRow g.numbers
  pub flags : length g.present ≡ max_peers
  pub gcs_fit : FitsRows g.gcs
  pub maxes_fit : FitsRows g.maxes

row_read : (r : List ℕ) → FitsRow r → row_in (row_bytes r) ≡ r
unfolding row_in row_bytes
row_read r f =
    ap (λ (n : ℕ). unblock 8 nat_of n (blocks max_nodes 8 (bytes_of 8) r)) (sym f.long)
    ∙ blocks-read (bytes_of 8) nat_of 8 (length-bytes_of 8) max_nodes r (omega (arith, f.long)) (λ n m. nat-bytes 8 n (f.each n m))

rows-read : (rs : List (List ℕ)) → FitsRows rs → rows_in (rows_bytes rs) ≡ rs
unfolding rows_in rows_bytes
rows-read rs f =
    ap (λ (n : ℕ). unblock row_width row_in n (blocks max_peers row_width row_bytes rs)) (sym f.long)
    ∙ blocks-read row_bytes row_in row_width length-row max_peers rs (omega (arith, f.long)) (λ r m. row_read r (f.each r m))

module _ (g : Grid) (f : FitsGrid g) where
  at : (k : ℕ) → k < 5 → part (offset grid_widths k) (get_or grid_widths k 0) (encode_grid g) ≡ get_or (grid_fields g) k []
  unfolding encode_grid
  at k h = field grid_widths (grid_fields g) (grid-widths g) k h

  pub decode-encode : decode_grid (encode_grid g) ≡ g
  unfolding decode_grid
  decode-encode =
      let a : nat_of (part (offset grid_widths 0) 1 (encode_grid g)) ≡ g.count = ap nat_of (at 0 (omega arith)) ∙ nat-bytes 1 g.count (omega (arith, f.few)) in
      let b : row_in (part (offset grid_widths 1) row_width (encode_grid g)) ≡ g.numbers = ap row_in (at 1 (omega arith)) ∙ row_read g.numbers f.named in
      let c : part (offset grid_widths 2) max_peers (encode_grid g) ≡ g.present = at 2 (omega arith) ∙ fit-whole max_peers g.present f.flags in
      let d : rows_in (part (offset grid_widths 3) rows_width (encode_grid g)) ≡ g.gcs = ap rows_in (at 3 (omega arith)) ∙ rows-read g.gcs f.gcs_fit in
      let e : rows_in (part (offset grid_widths 4) rows_width (encode_grid g)) ≡ g.maxes = ap rows_in (at 4 (omega arith)) ∙ rows-read g.maxes f.maxes_fit in
      (λ z. record { count = a z; numbers = b z; present = c z; gcs = d z; maxes = e z })

  pub valid-encode : obeys_grid g ≡ true → valid_grid (encode_grid g) ≡ true
  unfolding valid_grid
  valid-encode o =
      and_intro (obeys_grid (decode_grid (encode_grid g))) (same_bytes (encode_grid (decode_grid (encode_grid g))) (encode_grid g)) (ap obeys_grid decode-encode ∙ o)
      (ap (λ (x : Grid). same_bytes (encode_grid x) (encode_grid g)) decode-encode ∙ same_self (encode_grid g))
