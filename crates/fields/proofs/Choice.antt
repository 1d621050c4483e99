-- Laws of tests and of what stands in a list: what a test that holds says of its parts, and how membership goes through `++`, `take`, `drop`,
-- `keep` and `all`. Assumes nothing.
use Prim.Native.Nat.{ℕ, zero, suc, ◌<◌, suc-le-suc, zero-le}
use mathlib.Core.Path.{◌≡◌, refl, sym, ap, ◌∙◌}
use mathlib.Core.Logic.{◌⊎◌, inl, inr}
use mathlib.Core.Bool.{Bool, true, false, ◌&&◌, false≢true, true≢false}
use mathlib.Core.List.{List, [], ◌∷◌, ◌++◌}
use native.Mathlib.Nat.{le_of_suc-le-suc, not-suc-le-zero}
use lib.ListN.{length, get_or, take, drop}
use Rattle.fields.specs.Choice.{pick, every, ◌∈◌, here, later, keep, all}

-- ---- a test holds or fails

pub true-or-false : (t : Bool) → (t ≡ true) ⊎ (t ≡ false)
true-or-false true = inl refl
true-or-false false = inr refl

-- two tests that hold in the same cases are one
pub same_test : (s t : Bool) → (s ≡ true → t ≡ true) → (t ≡ true → s ≡ true) → s ≡ t
same_test true t f g = sym (f refl)
same_test false true f g = g refl
same_test false false f g = refl

pub pick_true {ℓ} : {X : Type ℓ} (t : Bool) (x y : X) → t ≡ true → pick t x y ≡ x
pick_true true x y e = refl
pick_true false x y e = absurd (false≢true e)

pub pick-false {ℓ} : {X : Type ℓ} (t : Bool) (x y : X) → t ≡ false → pick t x y ≡ y
pick-false true x y e = absurd (true≢false e)
pick-false false x y e = refl

-- ---- two tests, and every test of a list

module _ (a b : Bool) where
  pub and_left : a && b ≡ true → a ≡ true
  and_left e = go a e
    where
      go : (t : Bool) → t && b ≡ true → t ≡ true
      go true e = refl
      go false e = absurd (false≢true e)

  pub and_right : a && b ≡ true → b ≡ true
  and_right e = go a e
    where
      go : (t : Bool) → t && b ≡ true → b ≡ true
      go true e = e
      go false e = absurd (false≢true e)

  pub and_yes : a ≡ true → a && b ≡ b
  and_yes e = ap (λ (t : Bool). t && b) e

  pub and_no : a ≡ false → a && b ≡ false
  and_no e = ap (λ (t : Bool). t && b) e

  pub and_intro : a ≡ true → b ≡ true → a && b ≡ true
  and_intro e f = and_yes e ∙ f

pub and_assoc : (a b c : Bool) → (a && b && c) ≡ (a && (b && c))
and_assoc true b c = refl
and_assoc false b c = refl

pub and_last : (a : Bool) → a && true ≡ a
and_last true = refl
and_last false = refl

pub every-at : (ts : List Bool) → every ts ≡ true → (k : ℕ) → get_or ts k true ≡ true
every-at [] e k = refl
every-at (t ∷ ts) e zero = and_left t (every ts) e
every-at (t ∷ ts) e (suc k) = every-at ts (and_right t (every ts) e) k

-- ---- what stands in a list

pub in-none : {A : Type 0} {x : A} → x ∈ [] → ⊥
in-none h = elim h [ ]

pub in-cons : {A : Type 0} {x a : A} {l : List A} → x ∈ a ∷ l → (x ≡ a) ⊎ (x ∈ l)
in-cons (here e) = inl e
in-cons (later m) = inr m

module _ {A : Type 0} where
  pub in_right : {x : A} (xs : List A) {ys : List A} → x ∈ ys → x ∈ xs ++ ys
  in_right [] m = m
  in_right (a ∷ xs) m = later (in_right xs m)

  pub in-append : {x : A} (xs ys : List A) → x ∈ xs ++ ys → (x ∈ xs) ⊎ (x ∈ ys)
  in-append [] ys m = inr m
  in-append {x} (a ∷ xs) ys m = go (in-cons m) (in-append xs ys)
    where
      go : (x ≡ a) ⊎ (x ∈ xs ++ ys) → (x ∈ xs ++ ys → (x ∈ xs) ⊎ (x ∈ ys)) → (x ∈ a ∷ xs) ⊎ (x ∈ ys)
      go (inl e) ih = inl (here e)
      go (inr n) ih = back (ih n)
        where
          back : (x ∈ xs) ⊎ (x ∈ ys) → (x ∈ a ∷ xs) ⊎ (x ∈ ys)
          back (inl k) = inl (later k)
          back (inr k) = inr k

  pub in_take : {x : A} (n : ℕ) (l : List A) → x ∈ take n l → x ∈ l
  in_take zero l m = absurd (in-none m)
  in_take (suc n) [] m = absurd (in-none m)
  in_take {x} (suc n) (a ∷ l) m = go (in-cons m) (in_take n l)
    where
      go : (x ≡ a) ⊎ (x ∈ take n l) → (x ∈ take n l → x ∈ l) → x ∈ a ∷ l
      go (inl e) ih = here e
      go (inr k) ih = later (ih k)

  pub in-drop : {x : A} (n : ℕ) (l : List A) → x ∈ drop n l → x ∈ l
  in-drop zero l m = m
  in-drop (suc n) [] m = absurd (in-none m)
  in-drop (suc n) (a ∷ l) m = later (in-drop n l m)

  -- what stands at a place stands in the list
  pub in-at : (l : List A) (i : ℕ) (d : A) → i < length l → get_or l i d ∈ l
  in-at [] i d h = absurd (not-suc-le-zero h)
  in-at (a ∷ l) zero d h = here refl
  in-at (a ∷ l) (suc i) d h = later (in-at l i d (le_of_suc-le-suc h))

  -- what holds at each place holds of each that stands in the list
  pub at_in : (P : A → Type 0) (l : List A) (d : A) → ((i : ℕ) → i < length l → P (get_or l i d)) → (x : A) → x ∈ l → P x
  at_in P [] d h x m = absurd (in-none m)
  at_in P (a ∷ l) d h x m = go (in-cons m) (at_in P l d (λ i g. h (suc i) (suc-le-suc g)) x)
    where
      go : (x ≡ a) ⊎ (x ∈ l) → (x ∈ l → P x) → P x
      go (inl e) ih = rw e (h 0 (suc-le-suc zero-le))
      go (inr k) ih = ih k

-- ---- those that pass a test

pub keep-from : {A : Type 0} (p : A → Bool) (l : List A) {x : A} → x ∈ keep p l → (x ∈ l) × (p x ≡ true)
unfolding keep
keep-from p [] m = absurd (in-none m)
keep-from {A} p (a ∷ l) {x} m = go (p a) refl m (keep-from p l)
  where
    go : (b : Bool) → p a ≡ b → x ∈ pick b (a ∷ keep p l) (keep p l) → (x ∈ keep p l → (x ∈ l) × (p x ≡ true)) → (x ∈ a ∷ l) × (p x ≡ true)
    go true e m ih = top (in-cons m)
      where
        top : (x ≡ a) ⊎ (x ∈ keep p l) → (x ∈ a ∷ l) × (p x ≡ true)
        top (inl q) = (here q, ap p q ∙ e)
        top (inr n) = (later (ih n).0, (ih n).1)
    go false e m ih = (later (ih m).0, (ih m).1)

pub keep-in : {A : Type 0} (p : A → Bool) {x : A} {l : List A} → x ∈ l → p x ≡ true → x ∈ keep p l
unfolding keep
keep-in p {x} (here {a = a} {l = l} q) e = rw (sym (ap p q) ∙ e) (here q)
keep-in {A} p {x} (later {a = a} {l = l} m) e = go (p a) (keep-in p m e)
  where
    go : (b : Bool) → x ∈ keep p l → x ∈ pick b (a ∷ keep p l) (keep p l)
    go true n = later n
    go false n = n

module _ {A : Type 0} (p : A → Bool) where
  pub all_from : (l : List A) → all p l ≡ true → (x : A) → x ∈ l → p x ≡ true
  unfolding all
  all_from [] e x m = absurd (in-none m)
  all_from (a ∷ l) e x m = go (in-cons m) (all_from l (and_right (p a) (all p l) e) x)
    where
      go : (x ≡ a) ⊎ (x ∈ l) → (x ∈ l → p x ≡ true) → p x ≡ true
      go (inl q) ih = ap p q ∙ and_left (p a) (all p l) e
      go (inr k) ih = ih k

  pub all_in : (l : List A) → ((x : A) → x ∈ l → p x ≡ true) → all p l ≡ true
  unfolding all
  all_in [] h = refl
  all_in (a ∷ l) h = and_intro (p a) (all p l) (h a (here refl)) (all_in l (λ x m. h x (later m)))
