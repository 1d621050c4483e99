-- Laws of finding: one step of a search, the bounds of a place, and what the rules' own searches are in terms of a place. Assumes nothing.
use Prim.Native.Nat.{ℕ, suc, ◌+◌, ◌≤◌, ◌<◌}
use mathlib.Core.Path.{◌≡◌, ap, sym, ◌∙◌}
use mathlib.Core.List.{List, ◌∷◌}
use native.Mathlib.Omega.{arith}
use native.Mathlib.Nat.{add-zero, add_assoc, zero-add}
use native.Mathlib.Numerals.{add-one}
use lib.ListN.{length, drop, drop_of_length-le}
use borrow.Author.Tests.{eq-eqb, ne_eqb, lt-ltb, le-ltb}
use Rattle.std.specs.declared.cmp.Ordering.{Ordering}
use Rattle.std.specs.declared.cmp.Ordering.TheVariants.{Less, Equal, Greater}
use Rattle.table_read.specs.Find.{further, seek, find_by, number_order}
use Rattle.table_read.specs.declared.Place.{Place}
use Rattle.table_read.specs.declared.Place.TheVariants.{At, Free}

-- ---- one step of a search that stands at i

pub further-further : (n m : ℕ) (p : Place) → further n (further m p) ≡ further (n + m) p
further-further n m (At i) = ap At (sym (add_assoc n m i))
further-further n m (Free i) = ap Free (sym (add_assoc n m i))

pub further-none : (p : Place) → further 0 p ≡ p
further-none (At i) = ap At (zero-add i)
further-none (Free i) = ap Free (zero-add i)

module _ {A : Type 0} (f : A → Ordering) (l : List A) where
  pub start : further 0 (find_by f (drop 0 l)) ≡ find_by f l
  start = further-none (find_by f l)

  pub end : (i : ℕ) → length l ≤ i → further i (find_by f (drop i l)) ≡ Free i
  unfolding find_by
  end i h = ap (λ (r : List A). further i (find_by f r)) (drop_of_length-le l {i = i} h) ∙ ap Free (add-zero i)

  module _ (i : ℕ) (a : A) (e : drop i l ≡ a ∷ drop (suc i) l) where
    step : further i (find_by f (drop i l)) ≡ further i (seek (f a) (find_by f (drop (suc i) l)))
    unfolding find_by
    step = ap (λ (r : List A). further i (find_by f r)) e

    pub step_same : f a ≡ Equal → further i (find_by f (drop i l)) ≡ At i
    step_same q = step ∙ ap (λ (o : Ordering). further i (seek o (find_by f (drop (suc i) l)))) q ∙ ap At (add-zero i)

    pub step_less : f a ≡ Less → further i (find_by f (drop i l)) ≡ Free i
    step_less q = step ∙ ap (λ (o : Ordering). further i (seek o (find_by f (drop (suc i) l)))) q ∙ ap Free (add-zero i)

    pub step-more : f a ≡ Greater → further i (find_by f (drop i l)) ≡ further (i + 1) (find_by f (drop (i + 1) l))
    step-more q =
        step
        ∙ ap (λ (o : Ordering). further i (seek o (find_by f (drop (suc i) l)))) q
        ∙ further-further i 1 (find_by f (drop (suc i) l))
        ∙ ap (λ (j : ℕ). further (i + 1) (find_by f (drop j l))) (sym (add-one i))

-- ---- numbers

module _ (i n : ℕ) where
  pub number_same : i ≡ n → number_order i n ≡ Equal
  unfolding number_order
  number_same h = rw (number_order, eq-eqb i n h)

  pub number-less : i < n → number_order i n ≡ Less
  unfolding number_order
  number-less h = rw (number_order, ne_eqb i n (λ e. omega arith), lt-ltb i n h)

  pub number_more : n < i → number_order i n ≡ Greater
  unfolding number_order
  number_more h = rw (number_order, ne_eqb i n (λ e. omega arith), le-ltb i n (omega arith))
