-- Numbers that were seen by their low bits: the marks of `all_differ`. A number whose mark is not set is not among those seen. Assumes nothing.
use Prim.Native.Nat.{ℕ, zero, suc, ◌-◌, ◌%◌, ◌≤◌}
use mathlib.Core.Path.{◌≡◌, refl, sym, ap, ◌∙◌}
use mathlib.Core.Bool.{Bool, true, false, not, ◌&&◌, true≢false}
use mathlib.Core.List.{List, [], ◌∷◌}
use native.Mathlib.Omega.{arith}
use native.Mathlib.Nat.{sub-zero, suc-sub-suc}
use lib.ListN.{length, get_or, set, take, drop}
use lib.Seq.{get_or-set_same, get_or-set_other}
use lib.Dec.{eqb}
use borrow.Author.Tests.{eqb-true, eqb-false, ne_eqb}
use Rattle.rules.specs.Table.{among, differ}

-- every number of the list has its mark
abbrev pub Marked : List ℕ → List ℕ → Type 0
Marked seen ns = (x : ℕ) → among x ns ≡ true → get_or seen (x % 1024) 0 ≡ 1

pub none-among : {A : Type 0} (x : ℕ) → among x [] ≡ true → A
unfolding among
none-among x e = absurd (true≢false (sym e))

module _ (seen ns : List ℕ) (x : ℕ) where
  -- without its mark it is not among them
  pub unmarked : Marked seen ns → (get_or seen (x % 1024) 0 ≡ 1 → ⊥) → among x ns ≡ false
  unmarked m h = go (among x ns) refl
    where
      go : (t : Bool) → among x ns ≡ t → t ≡ false
      go true e = absurd (h (m x e))
      go false e = refl

  -- with one number more
  pub marked : length seen ≡ 1024 → Marked seen ns → Marked (set seen (x % 1024) 1) (x ∷ ns)
  unfolding among
  marked l m y e = go (eqb (y % 1024) (x % 1024)) refl
    where
      go : (t : Bool) → eqb (y % 1024) (x % 1024) ≡ t → get_or (set seen (x % 1024) 1) (y % 1024) 0 ≡ 1
      go true p = ap (λ (k : ℕ). get_or (set seen (x % 1024) 1) k 0) (eqb-true _ _ p) ∙ get_or-set_same seen (x % 1024) 1 0 (omega arith)
      go false p =
          let q : y % 1024 ≡ x % 1024 → ⊥ = eqb-false _ _ p in
          get_or-set_other seen (x % 1024) (y % 1024) 1 0 q ∙ m y (sym (rw (ne_eqb y x (λ r. q (ap (λ (k : ℕ). k % 1024) r))) refl) ∙ e)

pub differ-cons : (x : ℕ) (ns : List ℕ) → among x ns ≡ false → differ ns ≡ true → differ (x ∷ ns) ≡ true
unfolding differ
differ-cons x ns e f = rw (e, f) refl

pub twice-cons : (x : ℕ) (ns : List ℕ) → among x ns ≡ true → differ (x ∷ ns) ≡ false
unfolding differ
twice-cons x ns e = rw e refl

false-not : (t : Bool) → (t && false) ≡ false
false-not true = refl
false-not false = refl

-- where what is left has a number twice, so has the whole
pub differ-rest : (i n : ℕ) (vs : List ℕ) → i ≤ n → n ≤ length vs → differ (take (n - i) (drop i vs)) ≡ false → differ (take n vs) ≡ false
unfolding differ
differ-rest zero n vs h g e = sym (rw (sub-zero n) refl) ∙ e
differ-rest (suc i) zero vs h g e = absurd (omega arith)
differ-rest (suc i) (suc n) [] h g e = absurd (omega arith)
differ-rest (suc i) (suc n) (x ∷ vs) h g e =
    rw (differ-rest i n vs (omega arith) (omega arith) (sym (rw (suc-sub-suc n i) refl) ∙ e)) (false-not (not (among x (take n vs))))
