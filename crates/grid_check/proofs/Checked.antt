-- Loops that test the places of a list one after the other: what is left decides. Assumes nothing.
use Prim.Native.Nat.{ℕ, zero, suc, ◌+◌, ◌≤◌, ◌<◌}
use mathlib.Core.Path.{◌≡◌, ◌∙◌, ap, refl, sym}
use mathlib.Core.Bool.{Bool, true, false, ◌&&◌, ◌||◌}
use mathlib.Core.List.{List, [], ◌∷◌}
use native.Mathlib.Omega.{arith}
use native.Mathlib.Numerals.{add-one}
use lib.Dec.{eqb, leb, ltb}
use lib.ListN.{length, take, drop, get_or, drop_of_length-le}
use lib.Seq.{drop-cons, get_or-take, length-take-le}
use borrow.Author.Tests.{eq-eqb, le-leb, lt-leb, ne_eqb}
use Rattle.std.proofs.lemmas.Bool.{eqb-true, eqb-false}
use Rattle.std.specs.List.{IsAllAdjacentAnswer, list_all, list_any, zip}
use borrow.Author.Rules.{rules}
use Rattle.fields.specs.Choice.{all, every, pick}
use Rattle.fields.specs.Blocks.{all_zero}
use Rattle.fields.specs.Order.{same_bytes}
use Rattle.fields.proofs.Choice.{and_intro, and_no, and_yes}
use Rattle.fields.specs.Numbers.{AreBytes, nat_of}
use Rattle.fields.specs.Parts.{part}
use Rattle.fields.specs.Widths.{offset}
use Rattle.rules.specs.Sizes.{max_nodes}
use Rattle.rules.specs.Table.{Entry, Table, among, numbers_of, rising}
use Rattle.rules.specs.Layout.{decode}
use Rattle.table.specs.Changes.{fresh_entry}
use Rattle.table.specs.Tests.{nodes_of}
use Rattle.table.proofs.Tables.{length-decode}
use Rattle.table_read.specs.Find.{entry_at}
use Rattle.grid.specs.Grid.{Grid, columns, max_peers, obeys_grid, rows_obey}
use Rattle.grid.specs.GridLayout.{decode_grid, grid_width, grid_widths, row_in, row_width, rows_in, rows_width, valid_grid}
use Rattle.grid.proofs.GridBytes.{valid-is}
use Rattle.grid_check.specs.Head.{head_obeys}
use Rattle.grid.specs.LentGrid.{fits_table}

-- ---- what the library says of a test of each, and what the rules say

pub all-is : (p : ℕ → Bool) (l : List ℕ) → list_all p l ≡ all p l
unfolding all
all-is p [] = refl
all-is p (x ∷ l) = ap (λ (b : Bool). p x && b) (all-is p l)

pub zero-is : (l : List ℕ) → list_all (λ x. eqb x 0) l ≡ all_zero l
unfolding all_zero
zero-is [] = refl
zero-is (x ∷ l) = ap (λ (b : Bool). eqb x 0 && b) (zero-is l)

pub among-is : (i : ℕ) (l : List ℕ) → list_any (λ x. eqb x i) l ≡ among i l
unfolding among
among-is i [] = refl
among-is i (x ∷ l) = either (eqb x i) (eqb i x) (list_any (λ y. eqb y i) l) (among i l) (alike x i) (among-is i l)
  where
    alike : (m n : ℕ) → eqb m n ≡ eqb n m
    alike m n = go (eqb m n) refl
      where
        go : (b : Bool) → eqb m n ≡ b → b ≡ eqb n m
        go true e = sym (eq-eqb n m (sym (eqb-true m n e)))
        go false e = sym (ne_eqb n m (λ q. eqb-false m n e (sym q)))

    either : (a b c d : Bool) → a ≡ b → c ≡ d → a || c ≡ pick b true d
    either a true c d e f = rw e refl
    either a false c d e f = rw e f

pub rows_is : (n : ℕ) (fs : List ℕ) (rs : List (List ℕ)) → list_all (λ r. all_zero (drop (pick (eqb r.0 1) n 0) r.1)) (zip fs rs) ≡ rows_obey n fs rs
unfolding rows_obey
rows_is n [] rs = refl
rows_is n (f ∷ fs) [] = refl
rows_is n (f ∷ fs) (r ∷ rs) = ap (λ (b : Bool). all_zero (drop (pick (eqb f 1) n 0) r) && b) (rows_is n fs rs)

-- ---- each below the next

rises_on : (xs : List ℕ) → ((k : ℕ) (d : ℕ) → k + 1 < length xs → true ≡ ltb (get_or xs k d) (get_or xs (k + 1) d)) → rising xs ≡ true
unfolding rising
rises_on [] f = refl
rises_on (a ∷ []) f = refl
rises_on (a ∷ b ∷ l) f = and_intro (ltb a b) (rising (b ∷ l)) (sym (f 0 0 (omega arith))) (rises_on (b ∷ l) (λ k d h. let e : suc k + 1 ≡ suc (k + 1) = omega arith in let g = f (suc k) d (omega arith) in rw e at g))

falls_at : (xs : List ℕ) (k : ℕ) → suc k < length xs → ltb (get_or xs k 0) (get_or xs (suc k) 0) ≡ false → rising xs ≡ false
unfolding rising
falls_at [] k h e = absurd (omega arith)
falls_at (a ∷ []) k h e = absurd (omega arith)
falls_at (a ∷ b ∷ l) zero h e = and_no (ltb a b) (rising (b ∷ l)) e
falls_at (a ∷ b ∷ l) (suc k) h e = rw (falls_at (b ∷ l) k (omega arith) e) (search rules)

pub rising-is : (xs : List ℕ) (r : Bool) → IsAllAdjacentAnswer (λ x y b. b ≡ ltb x y) xs r → r ≡ rising xs
rising-is xs true f = sym (rises_on xs f)
rising-is xs false f = sym (let g = sym (f.2 0) in falls_at xs f.0 (omega (arith, f.1)) (rw add-one at g))

-- ---- two lists

module _ (ns ms : List ℕ) (i : ℕ) where
  same_end : length ns ≤ i → length ms ≤ i → same_bytes (drop i ns) (drop i ms) ≡ true
  unfolding same_bytes
  same_end h g = ap (λ (l : List ℕ). same_bytes l (drop i ms)) (drop_of_length-le ns {i = i} h) ∙ ap (same_bytes []) (drop_of_length-le ms {i = i} g)

  module _ (h : i < length ns) (g : i < length ms) where
    same_at : same_bytes (drop i ns) (drop i ms) ≡ pick (eqb (get_or ns i 0) (get_or ms i 0)) (same_bytes (drop (suc i) ns) (drop (suc i) ms)) false
    unfolding same_bytes
    same_at =
        ap (λ (l : List ℕ). same_bytes l (drop i ms)) (drop-cons ns i 0 h)
        ∙ ap (same_bytes (get_or ns i 0 ∷ drop (suc i) ns)) (drop-cons ms i 0 g)

    same_not : (get_or ns i 0 ≡ get_or ms i 0 → ⊥) → same_bytes (drop i ns) (drop i ms) ≡ false
    same_not n = same_at ∙ ap (λ (b : Bool). pick b (same_bytes (drop (suc i) ns) (drop (suc i) ms)) false) (ne_eqb (get_or ns i 0) (get_or ms i 0) n)

    same-on : get_or ns i 0 ≡ get_or ms i 0 → same_bytes (drop i ns) (drop i ms) ≡ same_bytes (drop (i + 1) ns) (drop (i + 1) ms)
    same-on e =
        same_at
        ∙ ap (λ (b : Bool). pick b (same_bytes (drop (suc i) ns) (drop (suc i) ms)) false) (eq-eqb (get_or ns i 0) (get_or ms i 0) e)
        ∙ ap (λ (k : ℕ). same_bytes (drop k ns) (drop k ms)) (sym (add-one i))

-- the first n of a row beside n numbers, of which i are passed
module _ (n i : ℕ) (row ns : List ℕ) (few : n ≤ length row) (many : n ≡ length ns) where
  pub columns_end : n ≤ i → same_bytes (drop i (take n row)) (drop i ns) ≡ true
  columns_end h = same_end (take n row) ns i (omega (arith, length-take-le n row few)) (omega arith)

  module _ (h : i < n) where
    pub columns_not : (get_or row i 0 ≡ get_or ns i 0 → ⊥) → same_bytes (drop i (take n row)) (drop i ns) ≡ false
    columns_not f = same_not (take n row) ns i (omega (arith, length-take-le n row few)) (omega arith) (λ q. f (sym (get_or-take n row i 0 h) ∙ q))

    pub columns-on : get_or row i 0 ≡ get_or ns i 0 → same_bytes (drop i (take n row)) (drop i ns) ≡ same_bytes (drop (i + 1) (take n row)) (drop (i + 1) ns)
    columns-on e = same-on (take n row) ns i (omega (arith, length-take-le n row few)) (omega arith) (get_or-take n row i 0 h ∙ e)

-- ---- the numbers of a table

pub numbers-long : (t : Table) → length (numbers_of t) ≡ length t
unfolding numbers_of
numbers-long [] = refl
numbers-long (e ∷ t) = ap suc (numbers-long t)

pub number_of : (t : Table) (i : ℕ) (d : Entry) → i < length t → get_or (numbers_of t) i 0 ≡ (get_or t i d).number
unfolding numbers_of
number_of [] i d h = absurd (omega arith)
number_of (e ∷ t) zero d h = refl
number_of (e ∷ t) (suc i) d h = number_of t i d (omega arith)

-- ---- the columns of a grid

-- as they are read: so many of the eight numbers
pub columns-read : (g a : List ℕ) (n : ℕ) (row : List ℕ) → n ≡ nat_of (part (offset grid_widths 0) 1 g) → row ≡ row_in (part (offset grid_widths 1) row_width g)
    → same_bytes (take n row) (numbers_of (decode a)) ≡ fits_table (decode_grid g) (decode a)
unfolding decode_grid
columns-read g a n row p q = λ z. same_bytes (take (p z) (q z)) (numbers_of (decode a))

-- as many as the table has nodes
pub nodes-many : (a : List ℕ) → length (numbers_of (decode a)) ≡ nodes_of a
nodes-many a = numbers-long (decode a) ∙ length-decode a

pub node-number : (a : List ℕ) (i : ℕ) → i < nodes_of a → get_or (numbers_of (decode a)) i 0 ≡ (entry_at (decode a) i).number
node-number a i h = number_of (decode a) i (fresh_entry 0) (omega (arith, length-decode a))

-- ---- what stands in front of the rows

module _ (g : List ℕ) (n : ℕ) (row : List ℕ) (p : n ≡ nat_of (part (offset grid_widths 0) 1 g)) (q : row ≡ row_in (part (offset grid_widths 1) row_width g)) where
  abbrev behind : Bool
  behind = all_zero (drop n row)

  abbrev flags : Bool
  flags = all (λ f. leb f 1) (part (offset grid_widths 2) max_peers g)

  head-is : head_obeys (decode_grid g) ≡ (leb n max_nodes && (rising (take n row) && (behind && flags)))
  unfolding head_obeys decode_grid
  head-is = sym (λ z. leb (p z) max_nodes && (rising (take (p z) (q z)) && (all_zero (drop (p z) (q z)) && flags)))

  pub head-many : max_nodes < n → head_obeys (decode_grid g) ≡ false
  head-many h = head-is ∙ and_no (leb n max_nodes) (rising (take n row) && (behind && flags)) (lt-leb n max_nodes h)

  module _ (few : n ≤ max_nodes) where
    past : head_obeys (decode_grid g) ≡ (rising (take n row) && (behind && flags))
    past = head-is ∙ and_yes (leb n max_nodes) (rising (take n row) && (behind && flags)) (le-leb n max_nodes few)

    pub head-falls : rising (take n row) ≡ false → head_obeys (decode_grid g) ≡ false
    head-falls e = past ∙ and_no (rising (take n row)) (behind && flags) e

    module _ (rise : rising (take n row) ≡ true) where
      rises : head_obeys (decode_grid g) ≡ (behind && flags)
      rises = past ∙ and_yes (rising (take n row)) (behind && flags) rise

      pub head_more : behind ≡ false → head_obeys (decode_grid g) ≡ false
      head_more e = rises ∙ and_no behind flags e

      pub head-flags : behind ≡ true → head_obeys (decode_grid g) ≡ flags
      head-flags e = rises ∙ and_yes behind flags e

-- ---- the whole grid

split : (a b c d e f : Bool) → every (a ∷ b ∷ c ∷ d ∷ e ∷ f ∷ []) ≡ ((a && (b && (c && d))) && (e && f))
split false b c d e f = refl
split true false c d e f = refl
split true true false d e f = refl
split true true true false e f = refl
split true true true true false f = refl
split true true true true true false = refl
split true true true true true true = refl

obeys-split : (g : Grid) → obeys_grid g ≡ (head_obeys g && (rows_obey g.count g.present g.gcs && rows_obey g.count g.present g.maxes))
unfolding obeys_grid head_obeys
obeys-split g =
    split (leb g.count max_nodes) (rising (columns g)) (all_zero (drop g.count g.numbers)) (all (λ f. leb f 1) g.present) (rows_obey g.count g.present g.gcs)
    (rows_obey g.count g.present g.maxes)

module _ (g : List ℕ) (bytes : AreBytes g) (long : length g ≡ grid_width) (n : ℕ) (p : n ≡ nat_of (part (offset grid_widths 0) 1 g)) where
  abbrev rows_from : (at : ℕ) → Bool
  rows_from at = rows_obey n (part (offset grid_widths 2) max_peers g) (rows_in (part at rows_width g))

  valid-split : valid_grid g ≡ (head_obeys (decode_grid g) && (rows_from (offset grid_widths 3) && rows_from (offset grid_widths 4)))
  unfolding decode_grid
  valid-split =
      valid-is g bytes long
      ∙ obeys-split (decode_grid g)
      ∙ ap
      (λ (k : ℕ). head_obeys (decode_grid g)
      && (rows_obey k (part (offset grid_widths 2) max_peers g) (rows_in (part (offset grid_widths 3) rows_width g))
      && rows_obey k (part (offset grid_widths 2) max_peers g) (rows_in (part (offset grid_widths 4) rows_width g)))) (sym p)

  pub head-bad : head_obeys (decode_grid g) ≡ false → valid_grid g ≡ false
  head-bad e = valid-split ∙ and_no (head_obeys (decode_grid g)) (rows_from (offset grid_widths 3) && rows_from (offset grid_widths 4)) e

  module _ (good : head_obeys (decode_grid g) ≡ true) where
    heads : valid_grid g ≡ (rows_from (offset grid_widths 3) && rows_from (offset grid_widths 4))
    heads = valid-split ∙ and_yes (head_obeys (decode_grid g)) (rows_from (offset grid_widths 3) && rows_from (offset grid_widths 4)) good

    pub gcs-bad : rows_from (offset grid_widths 3) ≡ false → valid_grid g ≡ false
    gcs-bad e = heads ∙ and_no (rows_from (offset grid_widths 3)) (rows_from (offset grid_widths 4)) e

    pub maxes-decide : rows_from (offset grid_widths 3) ≡ true → valid_grid g ≡ rows_from (offset grid_widths 4)
    maxes-decide e = heads ∙ and_yes (rows_from (offset grid_widths 3)) (rows_from (offset grid_widths 4)) e
