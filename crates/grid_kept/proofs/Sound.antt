-- A grid that obeys the rules and whose numbers fit eight bytes is what valid bytes are read as, and its bytes are valid. Assumes nothing.
use Prim.Native.Nat.{ℕ, zero, suc, ◌*◌, ◌/◌, ◌%◌, ◌≤◌, ◌<◌}
use mathlib.Core.Bool.{true}
use mathlib.Core.List.{List, [], ◌∷◌, ◌++◌}
use mathlib.Core.Logic.{◌⊎◌, inl, inr}
use mathlib.Core.Path.{◌≡◌, ◌∙◌, ap, refl, subst, sym}
use native.Mathlib.Omega.{arith}
use lib.Dec.{leb}
use lib.ListN.{length, drop, get_or}
use borrow.Author.Tests.{le-leb, leb-true}
use Rattle.fields.specs.Choice.{◌∈◌, all}
use Rattle.fields.specs.Numbers.{AreBytes, bytes_of, nat_of}
use Rattle.fields.specs.Parts.{part}
use Rattle.fields.specs.Blocks.{all_zero, blocks, fit, flat, zeros}
use Rattle.fields.specs.Widths.{offset}
use Rattle.fields.proofs.Blocks.{unblock-at}
use Rattle.fields.proofs.Choice.{and_intro, at_in, every-at, in-append, in-cons, in-none, in_take}
use Rattle.fields.proofs.Numbers.{bytes-part, nat-part}
use Rattle.fields.proofs.Parts.{length_part}
use Rattle.fields.proofs.Widths.{field}
use Rattle.rules.specs.Sizes.{max_nodes, numbers}
use Rattle.rules.specs.Table.{rising}
use Rattle.grid.specs.Grid.{Grid, columns, max_peers, obeys_grid, rows_obey}
use Rattle.grid.specs.GridLayout.{decode_grid, encode_grid, grid_fields, grid_widths, row_bytes, row_in, row_width, rows_bytes, rows_in, rows_width, valid_grid}
use Rattle.grid.proofs.GridBytes.{good-grid, grid-widths, row-long, rows_long}
use Rattle.grid_kept.proofs.Encoded.{FitsGrid, FitsRow, FitsRows, valid-encode}
use Rattle.grid_kept.proofs.Rows.{zeros-in}

-- ---- what is written are bytes

number-bytes : (n v : ℕ) → AreBytes (bytes_of n v)
unfolding bytes_of
number-bytes zero v b m = absurd (in-none m)
number-bytes (suc n) v b m = go (in-cons m) (number-bytes n (v / 256) b)
  where
    go : (b ≡ v % 256) ⊎ (b ∈ bytes_of n (v / 256)) → (b ∈ bytes_of n (v / 256) → b < 256) → b < 256
    go (inl e) ih = omega arith
    go (inr x) ih = ih x

fit-bytes : (n : ℕ) (xs : List ℕ) → AreBytes xs → AreBytes (fit n xs)
unfolding fit
fit-bytes n xs h b m = go (in-append xs (zeros n) (in_take n (xs ++ zeros n) m))
  where
    go : (b ∈ xs) ⊎ (b ∈ zeros n) → b < 256
    go (inl x) = h b x
    go (inr x) = omega (arith, zeros-in n b x)

flat-bytes : {A : Type 0} (enc : A → List ℕ) → ((a : A) → AreBytes (enc a)) → (es : List A) → AreBytes (flat enc es)
unfolding flat
flat-bytes enc h [] b m = absurd (in-none m)
flat-bytes enc h (a ∷ es) b m = go (in-append (enc a) (flat enc es) m) (flat-bytes enc h es b)
  where
    go : (b ∈ enc a) ⊎ (b ∈ flat enc es) → (b ∈ flat enc es → b < 256) → b < 256
    go (inl x) ih = h a b x
    go (inr x) ih = ih x

row-bytes : (r : List ℕ) → AreBytes (row_bytes r)
unfolding row_bytes blocks
row-bytes r = fit-bytes (max_nodes * 8) (flat (bytes_of 8) r) (flat-bytes (bytes_of 8) (number-bytes 8) r)

rows-bytes : (rs : List (List ℕ)) → AreBytes (rows_bytes rs)
unfolding rows_bytes blocks
rows-bytes rs = fit-bytes (max_peers * row_width) (flat row_bytes rs) (flat-bytes row_bytes row-bytes rs)

-- ---- what is read of bytes fits

row_fits : (b : List ℕ) → AreBytes b → length b ≡ row_width → FitsRow (row_in b)
unfolding row_in
row_fits b h e =
    record {
      long = row-long b;
      each = at_in (λ n. n < numbers) (row_in b) 0
          (λ i g. subst (λ (n : ℕ). n < numbers) (sym (unblock-at 8 nat_of i max_nodes b 0 (omega (arith, row-long b)))) (nat-part (i * 8) 8 b h (omega (arith, row-long b))));
    }

rows_fit : (b : List ℕ) → AreBytes b → length b ≡ rows_width → FitsRows (rows_in b)
unfolding rows_in
rows_fit b h e =
    record {
      long = rows_long b;
      each = at_in FitsRow (rows_in b) []
          (λ i g. subst FitsRow (sym (unblock-at row_width row_in i max_peers b [] (omega (arith, rows_long b))))
          (row_fits (part (i * row_width) row_width b) (bytes-part (i * row_width) row_width b h) (length_part (i * row_width) row_width b (omega (arith, rows_long b)))));
    }

-- ---- sound grids

pub record Sound (g : Grid) : Type 0 where
  pub obeyed : obeys_grid g ≡ true
  pub fits : FitsGrid g

pub sound-valid : (g : Grid) → Sound g → valid_grid (encode_grid g) ≡ true
sound-valid g s = valid-encode g s.fits s.obeyed

module _ (l : List ℕ) (v : valid_grid l ≡ true) where
  stands : (k : ℕ) → k < 5 → part (offset grid_widths k) (get_or grid_widths k 0) l ≡ get_or (grid_fields (decode_grid l)) k []
  unfolding encode_grid
  stands k h =
      ap (part (offset grid_widths k) (get_or grid_widths k 0)) (sym (good-grid l v).is) ∙ field grid_widths (grid_fields (decode_grid l)) (grid-widths (decode_grid l)) k h

  fits_read : FitsGrid (decode_grid l)
  unfolding decode_grid
  fits_read =
      let long = (good-grid l v).long in
      let a : AreBytes (part (offset grid_widths 1) row_width l) = subst (λ (b : List ℕ). AreBytes b) (sym (stands 1 (omega arith))) (row-bytes (decode_grid l).numbers) in
      let b : AreBytes (part (offset grid_widths 3) rows_width l) = subst (λ (b : List ℕ). AreBytes b) (sym (stands 3 (omega arith))) (rows-bytes (decode_grid l).gcs) in
      let c : AreBytes (part (offset grid_widths 4) rows_width l) = subst (λ (b : List ℕ). AreBytes b) (sym (stands 4 (omega arith))) (rows-bytes (decode_grid l).maxes) in
      record {
        few = (good-grid l v).few;
        named = row_fits (part (offset grid_widths 1) row_width l) a (length_part (offset grid_widths 1) row_width l (omega arith));
        flags = length_part (offset grid_widths 2) max_peers l (omega arith);
        gcs_fit = rows_fit (part (offset grid_widths 3) rows_width l) b (length_part (offset grid_widths 3) rows_width l (omega arith));
        maxes_fit = rows_fit (part (offset grid_widths 4) rows_width l) c (length_part (offset grid_widths 4) rows_width l (omega arith));
      }

  pub valid-sound : Sound (decode_grid l)
  valid-sound = record { obeyed = (good-grid l v).obeyed; fits = fits_read }

-- ---- the rules as facts

pub record OkGrid (g : Grid) : Type 0 where
  pub few : g.count ≤ max_nodes
  pub rise : rising (columns g) ≡ true
  pub behind : all_zero (drop g.count g.numbers) ≡ true
  pub flags : all (λ f. leb f 1) g.present ≡ true
  pub gcs_obey : rows_obey g.count g.present g.gcs ≡ true
  pub maxes_obey : rows_obey g.count g.present g.maxes ≡ true

pub grid-facts : (g : Grid) → obeys_grid g ≡ true → OkGrid g
unfolding obeys_grid
grid-facts g e =
    let at = every-at
    (leb g.count max_nodes
    ∷ rising (columns g)
    ∷ all_zero (drop g.count g.numbers)
    ∷ all (λ f. leb f 1) g.present
    ∷ rows_obey g.count g.present g.gcs
    ∷ rows_obey g.count g.present g.maxes
    ∷ []) e in
    record { few = leb-true g.count max_nodes (at 0); rise = at 1; behind = at 2; flags = at 3; gcs_obey = at 4; maxes_obey = at 5 }

pub facts-grid : (g : Grid) → OkGrid g → obeys_grid g ≡ true
unfolding obeys_grid
facts-grid g o =
    and_intro (leb g.count max_nodes) _ (le-leb g.count max_nodes o.few)
    (and_intro (rising (columns g)) _ o.rise
    (and_intro (all_zero (drop g.count g.numbers)) _ o.behind
    (and_intro (all (λ f. leb f 1) g.present) _ o.flags
    (and_intro (rows_obey g.count g.present g.gcs) _ o.gcs_obey
    (and_intro (rows_obey g.count g.present g.maxes) true o.maxes_obey refl)))))
