-- How many records of a piece of a node's rows come before a prefix and how many begin with it, where the run is known. Assumes nothing.
use Prim.Native.Nat.{ℕ, zero, suc, ◌+◌, ◌-◌, ◌≤◌, ◌<◌, zero-le, suc-le-suc}
use mathlib.Core.Path.{◌≡◌, ap, sym, ◌∙◌}
use mathlib.Core.Bool.{Bool, true, false}
use mathlib.Core.List.{List, [], ◌∷◌}
use native.Mathlib.Omega.{arith}
use native.Mathlib.Nat.{not-suc-le-zero, le_of_suc-le-suc}
use lib.ListN.{length, take, drop, get_or, length-drop}
use lib.Seq.{length-take-le, get_or-take, get_or-drop}
use Rattle.fields.specs.Choice.{pick, keep}
use Rattle.rules.specs.Node.{Rec}
use Rattle.rules.specs.Layout.{decode_rec}
use Rattle.table.specs.Tests.{count_of, recs_in}
use Rattle.table.proofs.Places.{rec_at, recs-at, length-recs}
use Rattle.prefix.specs.Run.{RunIn}
use Rattle.prefix.specs.Rows.{earlier, begun}

-- the records from `low` up to `high` pass the test, and no others
module _ (f : Rec → Bool) (d : Rec) where
  many : (l : List Rec) (low high : ℕ) → low ≤ high → high ≤ length l → ((j : ℕ) → j < low → f (get_or l j d) ≡ false)
      → ((j : ℕ) → low ≤ j → j < high → f (get_or l j d) ≡ true) → ((j : ℕ) → high ≤ j → j < length l → f (get_or l j d) ≡ false) → length (keep f l) ≡ high - low
  unfolding keep
  many [] low high o h before within behind = omega arith
  many (r ∷ l) zero zero o h before within behind =
      ap (λ (t : Bool). length (pick t (r ∷ keep f l) (keep f l))) (behind 0 zero-le (suc-le-suc zero-le))
      ∙ many l 0 0 o zero-le (λ j g. absurd (not-suc-le-zero g)) (λ j g k. absurd (not-suc-le-zero k)) (λ j g k. behind (suc j) zero-le (suc-le-suc k))
  many (r ∷ l) zero (suc high) o h before within behind =
      ap (λ (t : Bool). length (pick t (r ∷ keep f l) (keep f l))) (within 0 zero-le (suc-le-suc zero-le))
      ∙ ap suc
      (many l 0 high zero-le (le_of_suc-le-suc h) (λ j g. absurd (not-suc-le-zero g)) (λ j g k. within (suc j) zero-le (suc-le-suc k))
      (λ j g k. behind (suc j) (suc-le-suc g) (suc-le-suc k)))
      ∙ omega arith
  many (r ∷ l) (suc low) zero o h before within behind = absurd (not-suc-le-zero o)
  many (r ∷ l) (suc low) (suc high) o h before within behind =
      ap (λ (t : Bool). length (pick t (r ∷ keep f l) (keep f l))) (before 0 (suc-le-suc zero-le))
      ∙ many l low high (le_of_suc-le-suc o) (le_of_suc-le-suc h) (λ j g. before (suc j) (suc-le-suc g)) (λ j g k. within (suc j) (suc-le-suc g) (suc-le-suc k))
      (λ j g k. behind (suc j) (suc-le-suc g) (suc-le-suc k))
      ∙ omega arith

-- of a piece of a node's rows
module _ (k b : List ℕ) (low count start end : ℕ) (fits : low + count ≤ count_of b) (r : RunIn k b low (low + count) start end) where
  abbrev d : Rec
  d = decode_rec []

  abbrev piece : List Rec
  piece = take count (drop low (recs_in b))

  long : length piece ≡ count
  long = length-take-le count (drop low (recs_in b)) (simp (length-drop, length-recs) (omega arith))

  -- the record that stands at a place of it
  rec-is : (j : ℕ) → j < count → get_or piece j d ≡ rec_at (low + j) b
  rec-is j h = get_or-take count (drop low (recs_in b)) j d h ∙ get_or-drop low (recs_in b) j d ∙ recs-at (low + j) b d (omega arith)

  in-piece : (j : ℕ) → j < length piece → j < count
  in-piece j h = omega (arith, long)

  pub first_counted : start - low ≡ length (keep (earlier k) piece)
  first_counted =
      let e : start - low ≡ start - low - 0 = omega arith in
      e
      ∙ sym
      (many (earlier k) d piece 0 (start - low) zero-le (omega (arith, long, r.order, r.inside)) (λ j g. absurd (not-suc-le-zero g))
      (λ j g h. ap (earlier k) (rec-is j (omega (arith, r.order, r.inside))) ∙ r.early (low + j) (omega arith) (omega arith))
      (λ j g h. ap (earlier k) (rec-is j (in-piece j h)) ∙ r.late (low + j) (omega (arith, r.from)) (omega (arith, in-piece j h))))

  pub run-counted : end - start ≡ length (keep (begun k) piece)
  run-counted =
      let e : end - start ≡ end - low - (start - low) = omega (arith, r.from, r.order) in
      e
      ∙ sym
      (many (begun k) d piece (start - low) (end - low) (omega (arith, r.order)) (omega (arith, long, r.inside))
      (λ j g. ap (begun k) (rec-is j (omega (arith, r.order, r.inside))) ∙ r.before (low + j) (omega arith) (omega arith))
      (λ j g h. ap (begun k) (rec-is j (omega (arith, r.inside))) ∙ r.within (low + j) (omega (arith, r.from)) (omega arith))
      (λ j g h. ap (begun k) (rec-is j (in-piece j h)) ∙ r.behind (low + j) (omega (arith, r.from, r.order)) (omega (arith, in-piece j h))))
