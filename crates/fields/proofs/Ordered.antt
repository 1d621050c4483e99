-- Laws of the order of byte strings: `same_bytes` decides equality, `less_bytes` is a total order, `order_of` says which of the three holds, and
-- `starts_with` says that the second begins with the first. Assumes nothing.
use Prim.Native.Nat.{ℕ, suc, ◌≤◌, ◌<◌, suc-le-suc, zero-le}
use mathlib.Core.Path.{◌≡◌, refl, sym, ◌∙◌, ap, ap₂}
use mathlib.Core.Bool.{Bool, true, false, ◌&&◌, false≢true, true≢false}
use mathlib.Core.List.{List, [], ◌∷◌, ◌++◌}
use native.Mathlib.Omega.{arith}
use lib.ListN.{length, take, drop, take-append-drop}
use lib.Seq.{take-length}
use lib.Dec.{eqb, ltb}
use borrow.Author.Tests.{ltb-true, ltb-false, eqb-true, eqb-false, lt-ltb, le-ltb, eq-eqb, ne_eqb}
use Rattle.fields.specs.Choice.{pick}
use Rattle.fields.specs.Order.{same_bytes, less_bytes, order_of, starts_with}
use Rattle.std.specs.declared.cmp.Ordering.TheVariants.{Less, Equal, Greater}
use Rattle.fields.proofs.Choice.{pick_true, pick-false, same_test}

-- ---- equal

pub same_true : (j k : List ℕ) → same_bytes j k ≡ true → j ≡ k
unfolding same_bytes
same_true [] [] e = refl
same_true [] (b ∷ k) e = absurd (false≢true e)
same_true (a ∷ j) [] e = absurd (false≢true e)
same_true (a ∷ j) (b ∷ k) e = go (eqb a b) refl e (same_true j k)
  where
    go : (t : Bool) → eqb a b ≡ t → pick t (same_bytes j k) false ≡ true → (same_bytes j k ≡ true → j ≡ k) → a ∷ j ≡ b ∷ k
    go true q e ih = λ i. eqb-true a b q i ∷ ih e i
    go false q e ih = absurd (false≢true e)

pub same_self : (k : List ℕ) → same_bytes k k ≡ true
unfolding same_bytes
same_self [] = refl
same_self (a ∷ k) = rw (eq-eqb a a refl) (same_self k)

pub same_false : (j k : List ℕ) → same_bytes j k ≡ false → j ≡ k → ⊥
same_false j k e q = true≢false (sym (same_self k) ∙ ap (λ x. same_bytes x k) (sym q) ∙ e)

pub eq-same : (j k : List ℕ) → j ≡ k → same_bytes j k ≡ true
eq-same j k e = ap (λ x. same_bytes j x) (sym e) ∙ same_self j

pub ne_same : (j k : List ℕ) → (j ≡ k → ⊥) → same_bytes j k ≡ false
ne_same j k h = go (same_bytes j k) refl
  where
    go : (t : Bool) → same_bytes j k ≡ t → t ≡ false
    go true e = absurd (h (same_true j k e))
    go false e = refl

pub same_length : (j k : List ℕ) → (length j ≡ length k → ⊥) → same_bytes j k ≡ false
same_length j k h = ne_same j k (λ e. h (ap length e))

pub same_first : (a b : ℕ) (j k : List ℕ) → same_bytes (a ∷ j) (b ∷ k) ≡ (eqb a b && same_bytes j k)
unfolding same_bytes
same_first a b j k = go (eqb a b)
  where
    go : (t : Bool) → pick t (same_bytes j k) false ≡ (t && same_bytes j k)
    go true = refl
    go false = refl

pub same-swap : (j k : List ℕ) → same_bytes j k ≡ same_bytes k j
unfolding same_bytes
same-swap [] [] = refl
same-swap [] (b ∷ k) = refl
same-swap (a ∷ j) [] = refl
same-swap (a ∷ j) (b ∷ k) = go (eqb a b) refl (same-swap j k)
  where
    go : (t : Bool) → eqb a b ≡ t → same_bytes j k ≡ same_bytes k j → pick t (same_bytes j k) false ≡ pick (eqb b a) (same_bytes k j) false
    go true q ih = let h = eqb-true a b q in rw (eq-eqb b a (sym h)) ih
    go false q ih = let h = eqb-false a b q in rw (ne_eqb b a (λ e. h (sym e)))

-- ---- less

pub less-self : (k : List ℕ) → less_bytes k k ≡ false
unfolding less_bytes
less-self [] = refl
less-self (a ∷ k) = rw (le-ltb a a (omega arith), eq-eqb a a refl) (less-self k)

pub less_other : (j k : List ℕ) → less_bytes j k ≡ true → j ≡ k → ⊥
less_other j k e q = true≢false (sym e ∙ ap (λ x. less_bytes x k) q ∙ less-self k)

pub less-trans : (i j k : List ℕ) → less_bytes i j ≡ true → less_bytes j k ≡ true → less_bytes i k ≡ true
unfolding less_bytes
less-trans [] [] k e f = f
less-trans [] (b ∷ j) [] e f = absurd (false≢true f)
less-trans [] (b ∷ j) (c ∷ k) e f = refl
less-trans (a ∷ i) [] k e f = absurd (false≢true e)
less-trans (a ∷ i) (b ∷ j) [] e f = absurd (false≢true f)
less-trans (a ∷ i) (b ∷ j) (c ∷ k) e f = go (ltb a b) refl (eqb a b) refl (ltb b c) refl (eqb b c) refl e f (less-trans i j k)
  where
    go : (p : Bool)
        → ltb a b ≡ p
        → (q : Bool)
        → eqb a b ≡ q
        → (s : Bool)
        → ltb b c ≡ s
        → (t : Bool)
        → eqb b c ≡ t
        → pick p true (pick q (less_bytes i j) false) ≡ true
        → pick s true (pick t (less_bytes j k) false) ≡ true
        → (less_bytes i j ≡ true → less_bytes j k ≡ true → less_bytes i k ≡ true)
        → pick (ltb a c) true (pick (eqb a c) (less_bytes i k) false) ≡ true
    go true p q q' true s t t' e f ih = let h = ltb-true a b p in let g = ltb-true b c s in rw (lt-ltb a c (omega arith))
    go true p q q' false s true t' e f ih = let h = ltb-true a b p in let g = eqb-true b c t' in rw (lt-ltb a c (omega arith))
    go true p q q' false s false t' e f ih = absurd (false≢true f)
    go false p true q' true s t t' e f ih = let h = eqb-true a b q' in let g = ltb-true b c s in rw (lt-ltb a c (omega arith))
    go false p true q' false s true t' e f ih =
        let h = eqb-true a b q' in
        let g = eqb-true b c t' in
        rw (le-ltb a c (omega arith), eq-eqb a c (omega arith)) (ih e f)
    go false p true q' false s false t' e f ih = absurd (false≢true f)
    go false p false q' s s' t t' e f ih = absurd (false≢true e)

pub less-total : (j k : List ℕ) → same_bytes j k ≡ false → less_bytes j k ≡ false → less_bytes k j ≡ true
unfolding same_bytes less_bytes
less-total [] [] e f = absurd (true≢false e)
less-total [] (b ∷ k) e f = absurd (true≢false f)
less-total (a ∷ j) [] e f = refl
less-total (a ∷ j) (b ∷ k) e f = go (ltb a b) refl (eqb a b) refl e f (less-total j k)
  where
    go : (p : Bool)
        → ltb a b ≡ p
        → (q : Bool)
        → eqb a b ≡ q
        → pick q (same_bytes j k) false ≡ false
        → pick p true (pick q (less_bytes j k) false) ≡ false
        → (same_bytes j k ≡ false → less_bytes j k ≡ false → less_bytes k j ≡ true)
        → pick (ltb b a) true (pick (eqb b a) (less_bytes k j) false) ≡ true
    go true p q q' e f ih = absurd (true≢false f)
    go false p true q' e f ih = let h = eqb-true a b q' in rw (le-ltb b a (omega arith), eq-eqb b a (omega arith)) (ih e f)
    go false p false q' e f ih =
        let h = ltb-false a b p in
        let g = eqb-false a b q' in
        rw (lt-ltb b a (omega arith))

-- of two one way round, not the other
pub less-not : (j k : List ℕ) → less_bytes j k ≡ true → less_bytes k j ≡ false
less-not j k e = go (less_bytes k j) refl
  where
    go : (t : Bool) → less_bytes k j ≡ t → t ≡ false
    go true q = absurd (true≢false (sym (less-trans j k j e q) ∙ less-self j))
    go false q = refl

-- what is less is not the same
pub less-same : (j k : List ℕ) → less_bytes j k ≡ true → same_bytes j k ≡ false
less-same j k e = ne_same j k (less_other j k e)

-- ---- which of the three

module _ (j k : List ℕ) where
  pub same-order : same_bytes j k ≡ true → order_of j k ≡ Equal
  unfolding order_of
  same-order e = pick_true (same_bytes j k) Equal (pick (less_bytes j k) Less Greater) e

  pub less-order : less_bytes j k ≡ true → order_of j k ≡ Less
  unfolding order_of
  less-order e =
      pick-false (same_bytes j k) Equal (pick (less_bytes j k) Less Greater) (less-same j k e) ∙ pick_true (less_bytes j k) Less Greater e

  pub more-order : less_bytes k j ≡ true → order_of j k ≡ Greater
  unfolding order_of
  more-order e =
      pick-false (same_bytes j k) Equal (pick (less_bytes j k) Less Greater) (same-swap j k ∙ less-same k j e)
      ∙ pick-false (less_bytes j k) Less Greater (less-not k j e)

  pub order_same : order_of j k ≡ Equal → same_bytes j k ≡ true
  unfolding order_of
  order_same e = go (same_bytes j k) (less_bytes j k) e
    where
      go : (s t : Bool) → pick s Equal (pick t Less Greater) ≡ Equal → s ≡ true
      go true t e = refl
      go false true e = cc
      go false false e = cc

  pub order-less : order_of j k ≡ Less → less_bytes j k ≡ true
  unfolding order_of
  order-less e = go (same_bytes j k) (less_bytes j k) e
    where
      go : (s t : Bool) → pick s Equal (pick t Less Greater) ≡ Less → t ≡ true
      go true t e = cc
      go false true e = refl
      go false false e = cc

  pub order-more : order_of j k ≡ Greater → less_bytes k j ≡ true
  unfolding order_of
  order-more e = go (same_bytes j k) refl (less_bytes j k) refl e
    where
      go : (s : Bool) → same_bytes j k ≡ s → (t : Bool) → less_bytes j k ≡ t → pick s Equal (pick t Less Greater) ≡ Greater → less_bytes k j ≡ true
      go true p t q e = cc
      go false p true q e = cc
      go false p false q e = less-total j k p q

-- ---- by the first bytes

pub order-none : order_of [] [] ≡ Equal
unfolding order_of same_bytes
order-none = refl

pub order-shorter : (y : ℕ) (k : List ℕ) → order_of [] (y ∷ k) ≡ Less
unfolding order_of same_bytes less_bytes
order-shorter y k = refl

pub order-longer : (x : ℕ) (j : List ℕ) → order_of (x ∷ j) [] ≡ Greater
unfolding order_of same_bytes less_bytes
order-longer x j = refl

module _ (x y : ℕ) (j k : List ℕ) where
  pub order-first-same : x ≡ y → order_of (x ∷ j) (y ∷ k) ≡ order_of j k
  unfolding order_of same_bytes less_bytes
  order-first-same h = rw (order_of, eq-eqb x y h, le-ltb x y (omega arith))

  pub order-first-less : x < y → order_of (x ∷ j) (y ∷ k) ≡ Less
  unfolding less_bytes
  order-first-less h = less-order (x ∷ j) (y ∷ k) (rw (lt-ltb x y h))

  pub order-first-more : y < x → order_of (x ∷ j) (y ∷ k) ≡ Greater
  unfolding less_bytes
  order-first-more h = more-order (x ∷ j) (y ∷ k) (rw (lt-ltb y x h))

-- ---- the beginning of a string

pub starts-own : (j k : List ℕ) → starts_with j (j ++ k) ≡ true
unfolding starts_with
starts-own [] k = refl
starts-own (a ∷ j) k = rw (eq-eqb a a refl) (starts-own j k)

pub starts-long : (j k : List ℕ) → starts_with j k ≡ true → length j ≤ length k
unfolding starts_with
starts-long [] k e = zero-le
starts-long (a ∷ j) [] e = absurd (false≢true e)
starts-long (a ∷ j) (b ∷ k) e = go (eqb a b) e (starts-long j k)
  where
    go : (t : Bool) → pick t (starts_with j k) false ≡ true → (starts_with j k ≡ true → length j ≤ length k) → suc (length j) ≤ suc (length k)
    go true e ih = suc-le-suc (ih e)
    go false e ih = absurd (false≢true e)

pub starts-short : (j k : List ℕ) → length k < length j → starts_with j k ≡ false
starts-short j k h = go (starts_with j k) refl
  where
    go : (t : Bool) → starts_with j k ≡ t → t ≡ false
    go true e = let g = starts-long j k e in absurd (omega arith)
    go false e = refl

pub starts-take : (j k : List ℕ) → starts_with j k ≡ true → take (length j) k ≡ j
unfolding starts_with
starts-take [] k e = refl
starts-take (a ∷ j) [] e = absurd (false≢true e)
starts-take (a ∷ j) (b ∷ k) e = go (eqb a b) refl e (starts-take j k)
  where
    go : (t : Bool) → eqb a b ≡ t → pick t (starts_with j k) false ≡ true → (starts_with j k ≡ true → take (length j) k ≡ j) → b ∷ take (length j) k ≡ a ∷ j
    go true q e ih = ap₂ (λ (x : ℕ) (xs : List ℕ). x ∷ xs) (sym (eqb-true a b q)) (ih e)
    go false q e ih = absurd (false≢true e)

pub take-starts : (j k : List ℕ) → take (length j) k ≡ j → starts_with j k ≡ true
take-starts j k e =
    ap (starts_with j) (sym (take-append-drop (length j) k) ∙ ap (λ (r : List ℕ). r ++ drop (length j) k) e) ∙ starts-own j (drop (length j) k)

-- the answer as a test of the first bytes
pub starts_is : (j k : List ℕ) → starts_with j k ≡ same_bytes j (take (length j) k)
starts_is j k =
    same_test (starts_with j k) (same_bytes j (take (length j) k)) (λ e. eq-same j _ (sym (starts-take j k e)))
    (λ e. take-starts j k (sym (same_true j _ e)))

-- a string begins with nothing, and with itself
pub starts-self : (k : List ℕ) → starts_with k k ≡ true
starts-self k = take-starts k k (take-length k)
