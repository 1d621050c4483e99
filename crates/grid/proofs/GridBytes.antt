-- The bytes of a grid: their length; a grid is read out of its bytes, and written they are its bytes again. Assumes nothing.
use Prim.Native.Nat.{ℕ, ◌*◌, ◌≤◌}
use mathlib.Core.Path.{◌≡◌, ◌∙◌, ap, refl, sym}
use mathlib.Core.Bool.{Bool, true, false, ◌&&◌}
use mathlib.Core.List.{List, [], ◌∷◌}
use native.Mathlib.Omega.{arith}
use lib.ListN.{length}
use Rattle.fields.specs.Numbers.{AreBytes, bytes_of, nat_of}
use Rattle.fields.specs.Parts.{part}
use Rattle.fields.specs.Blocks.{all_zero, fit, zeros}
use Rattle.fields.specs.Widths.{Widths, joined, offset}
use Rattle.fields.specs.Order.{same_bytes}
use borrow.Author.Tests.{leb-true}
use lib.Seq.{take_at}
use Rattle.fields.proofs.Choice.{and_last, and_left, and_right}
use Rattle.fields.proofs.Blocks.{blocks-back, length-blocks, length-fit, length-unblock}
use Rattle.fields.proofs.Numbers.{bytes-part, length-bytes_of, part-back}
use Rattle.fields.proofs.Ordered.{same_true, same_self, same_length}
use Rattle.fields.proofs.Parts.{length_part}
use Rattle.fields.proofs.Widths.{joined-whole, length-joined}
use Rattle.rules.specs.Sizes.{max_nodes}
use Rattle.grid.specs.Grid.{Grid, max_peers, obeys_grid}
use Rattle.grid.specs.GridLayout.{decode_grid, encode_grid, grid_fields, grid_width, grid_widths, row_bytes, row_in, row_width, rows_bytes, rows_in, rows_width, valid_grid}

-- ---- how long they are

pub length-row : (r : List ℕ) → length (row_bytes r) ≡ row_width
unfolding row_bytes
length-row r = length-blocks (bytes_of 8) 8 (length-bytes_of 8) max_nodes r

pub length-rows : (rs : List (List ℕ)) → length (rows_bytes rs) ≡ rows_width
unfolding rows_bytes
length-rows rs = length-blocks row_bytes row_width length-row max_peers rs

pub row-long : (b : List ℕ) → length (row_in b) ≡ max_nodes
unfolding row_in
row-long b = length-unblock 8 nat_of max_nodes b

pub rows_long : (b : List ℕ) → length (rows_in b) ≡ max_peers
unfolding rows_in
rows_long b = length-unblock row_width row_in max_peers b

pub grid-widths : (g : Grid) → Widths grid_widths (grid_fields g)
grid-widths g = (length-bytes_of 1 g.count, (length-row g.numbers, (length-fit max_peers g.present, (length-rows g.gcs, (length-rows g.maxes, tt)))))

pub length-grid : (g : Grid) → length (encode_grid g) ≡ grid_width
unfolding encode_grid
length-grid g = length-joined grid_widths (grid_fields g) (grid-widths g)

-- ---- bytes that are read and written again are as they were

row_back : (b : List ℕ) → AreBytes b → length b ≡ row_width → row_bytes (row_in b) ≡ b
unfolding row_bytes row_in all_zero part
row_back b bytes e =
    blocks-back (bytes_of 8) nat_of 8 (length-bytes_of 8) max_nodes max_nodes b e (omega arith)
    (λ i h. part-back (i * 8) 8 b bytes (omega arith))
    refl

rows_back : (b : List ℕ) → AreBytes b → length b ≡ rows_width → rows_bytes (rows_in b) ≡ b
unfolding rows_bytes rows_in all_zero part
rows_back b bytes e =
    blocks-back row_bytes row_in row_width length-row max_peers max_peers b e (omega arith)
    (λ i h. row_back (part (i * row_width) row_width b) (bytes-part (i * row_width) row_width b bytes) (length_part (i * row_width) row_width b (omega arith)))
    refl

pub fit-whole : (n : ℕ) (b : List ℕ) → length b ≡ n → fit n b ≡ b
unfolding fit
fit-whole n b e = take_at b (zeros n) n e

-- the field at this place
module _ (l : List ℕ) (bytes : AreBytes l) (e : length l ≡ grid_width) where
  pub encode-decode : encode_grid (decode_grid l) ≡ l
  unfolding encode_grid decode_grid
  encode-decode =
      (λ z. joined
      (part-back (offset grid_widths 0) 1 l bytes (omega arith) z
      ∷ row_back (part (offset grid_widths 1) row_width l) (bytes-part (offset grid_widths 1) row_width l bytes) (length_part (offset grid_widths 1) row_width l (omega arith)) z
      ∷ fit-whole max_peers (part (offset grid_widths 2) max_peers l) (length_part (offset grid_widths 2) max_peers l (omega arith)) z
      ∷ rows_back (part (offset grid_widths 3) rows_width l) (bytes-part (offset grid_widths 3) rows_width l bytes) (length_part (offset grid_widths 3) rows_width l (omega arith)) z
      ∷ rows_back (part (offset grid_widths 4) rows_width l) (bytes-part (offset grid_widths 4) rows_width l bytes) (length_part (offset grid_widths 4) rows_width l (omega arith)) z
      ∷ []))
      ∙ joined-whole grid_widths l e

  -- so of bytes as long as a grid's the rules alone are asked
  pub valid-is : valid_grid l ≡ obeys_grid (decode_grid l)
  unfolding valid_grid
  valid-is =
      ap (λ (b : List ℕ). obeys_grid (decode_grid l) && same_bytes b l) encode-decode
      ∙ ap (λ (t : Bool). obeys_grid (decode_grid l) && t) (same_self l)
      ∙ and_last (obeys_grid (decode_grid l))

-- bytes of another length are no grid's
pub valid-long : (l : List ℕ) → (length l ≡ grid_width → ⊥) → valid_grid l ≡ false
unfolding valid_grid
valid-long l n =
    ap (λ (t : Bool). obeys_grid (decode_grid l) && t) (same_length (encode_grid (decode_grid l)) l (λ q. n (sym q ∙ length-grid (decode_grid l))))
    ∙ and-false (obeys_grid (decode_grid l))
  where
    and-false : (a : Bool) → a && false ≡ false
    and-false true = refl
    and-false false = refl

-- ---- a grid that obeys the rules

pub record GoodGrid (l : List ℕ) : Type 0 where
  pub is : encode_grid (decode_grid l) ≡ l
  pub long : length l ≡ grid_width
  pub obeyed : obeys_grid (decode_grid l) ≡ true
  pub few : nat_of (part (offset grid_widths 0) 1 l) ≤ max_nodes

count-few : (l : List ℕ) → obeys_grid (decode_grid l) ≡ true → nat_of (part (offset grid_widths 0) 1 l) ≤ max_nodes
unfolding obeys_grid decode_grid
count-few l o = leb-true (nat_of (part (offset grid_widths 0) 1 l)) max_nodes (and_left _ _ o)

pub good-grid : (l : List ℕ) → valid_grid l ≡ true → GoodGrid l
unfolding valid_grid
good-grid l v =
    let o = and_left (obeys_grid (decode_grid l)) (same_bytes (encode_grid (decode_grid l)) l) v in
    let e = same_true (encode_grid (decode_grid l)) l (and_right (obeys_grid (decode_grid l)) (same_bytes (encode_grid (decode_grid l)) l) v) in
    record { is = e; long = ap length (sym e) ∙ length-grid (decode_grid l); obeyed = o; few = count-few l o }

-- equal grids are equal bytes
pub same-grids : (l m : List ℕ) → valid_grid l ≡ true → valid_grid m ≡ true → decode_grid l ≡ decode_grid m → l ≡ m
same-grids l m v w e = sym (good-grid l v).is ∙ ap encode_grid e ∙ (good-grid m w).is
