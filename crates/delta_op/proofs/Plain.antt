-- Going through the operations without the verdict, step by step; and that of an accepted delta they are its operations (`good-plain`).
-- Assumes nothing.
use Prim.Native.Nat.{ℕ, zero, suc, ◌+◌, ◌-◌, ◌≤◌, ◌<◌}
use mathlib.Core.Path.{◌≡◌, refl, ap, sym, ◌∙◌, subst}
use mathlib.Core.List.{List, [], ◌∷◌}
use native.Mathlib.Omega.{arith}
use native.Mathlib.Nat.{not-suc-le-zero, sub-zero}
use lib.ListN.{length, drop, length-drop}
use borrow.Author.Tests.{le-leb, lt-leb}
use mathlib.Core.Logic.{inl, inr}
use Rattle.rules.specs.Sizes.{max_delta}
use Rattle.rules.specs.Delta as rule
use Rattle.rules.specs.declared.Refusal.{Refusal}
use Rattle.rules.specs.declared.Refusal.TheVariants.{TooMany}
use Rattle.delta_op.specs.declared.Op.{Op}
use Rattle.std.specs.Prelude.{Err, Ok, Result}
use Rattle.delta_op.specs.Places.{op_of, meant, op_at}
use Rattle.delta_op.specs.Plain.{on_plain, plain_ops, ops_from}
use Rattle.delta_op.proofs.Reading.{Within, read_at, op-within, le-or-lt}

-- what is left behind an operation is shorter
Shorter : ℕ → rule.OpRead → Type 0
Shorter n (rule.Got o rest) = length rest < n
Shorter n (rule.Bad r) = Unit {0}

pub shorter : (l : List ℕ) {o : rule.Op} {rest : List ℕ} → rule.read_op l ≡ rule.Got o rest → length rest < length l
unfolding Shorter
shorter l {o} {rest} e = subst (Shorter (length l)) (sym (read_at l 0 (omega arith)) ∙ e) (go (op_at l 0) (op-within l 0))
  where
    go : (r : (Result (Op × ℕ) Refusal)) → Within (length l) 0 r → Shorter (length l) (meant l r)
    go (Ok (o, next)) w = rw (length-drop next l) (omega arith)
    go (Err r) w = tt

-- two ways to go on that agree where an operation was read
plain-alike : (f g : List ℕ → List rule.Op) (r : rule.OpRead) → ((o : rule.Op) (rest : List ℕ) → r ≡ rule.Got o rest → f rest ≡ g rest)
    → on_plain f r ≡ on_plain g r
plain-alike f g (rule.Got o rest) h = ap (λ (os : List rule.Op). o ∷ os) (h o rest refl)
plain-alike f g (rule.Bad r) h = refl

no_bytes : (f : List ℕ → List rule.Op) → on_plain f (rule.read_op []) ≡ []
unfolding rule.read_op
no_bytes f = refl

-- from the length on the bound does not matter
plain-enough : (n m : ℕ) (l : List ℕ) → length l ≤ n → length l ≤ m → plain_ops n l ≡ plain_ops m l
unfolding plain_ops
plain-enough zero zero l h g = refl
plain-enough zero (suc m) [] h g = sym (no_bytes (λ rest. plain_ops m rest))
plain-enough zero (suc m) (b ∷ l) h g = absurd (not-suc-le-zero h)
plain-enough (suc n) zero [] h g = no_bytes (λ rest. plain_ops n rest)
plain-enough (suc n) zero (b ∷ l) h g = absurd (not-suc-le-zero g)
plain-enough (suc n) (suc m) l h g =
    plain-alike (λ rest. plain_ops n rest) (λ rest. plain_ops m rest) (rule.read_op l)
    (λ o rest e. let k : length rest < length l = shorter l e in plain-enough n m rest (omega arith) (omega arith))

module _ (l : List ℕ) (at : ℕ) where
  pub plain_end : length l ≤ at → ops_from l at ≡ []
  unfolding ops_from plain_ops
  plain_end h = let e : length l - at ≡ 0 = omega arith in rw (e, plain_ops)

  plain-one : (k : ℕ) → suc k ≡ length l - at → at < length l → ops_from l at ≡ on_plain (λ rest. plain_ops k rest) (meant l (op_at l at))
  unfolding ops_from plain_ops
  plain-one k e h =
      ap (λ (j : ℕ). plain_ops j (drop at l)) (sym e) ∙ ap (on_plain (λ rest. plain_ops k rest)) (read_at l at (omega arith))

  pub plain-bad : (r : Refusal) → at < length l → op_at l at ≡ Err r → ops_from l at ≡ []
  plain-bad r h e = plain-one (length l - at - 1) (omega arith) h ∙ rw e

  pub plain-next : (o : Op) (next : ℕ) → at < length l → op_at l at ≡ (Ok (o, next)) → ops_from l at ≡ op_of l o ∷ ops_from l next
  unfolding ops_from
  plain-next o next h e =
      let w : Within (length l) at (Ok (o, next)) = subst (Within (length l) at) e (op-within l at) in
      let k : ℕ = length l - at - 1 in
      let lo : length l - next ≤ k = omega arith in
      plain-one k (omega arith) h
      ∙ rw e (ap (λ (os : List rule.Op). op_of l o ∷ os) (plain-enough k (length l - next) (drop next l) (rw length-drop lo) (simp length-drop (omega arith))))

-- ---- of an accepted delta

-- what was accepted behind an operation
Behind : rule.Op → List rule.Op → rule.Ops → Type 0
Behind o os (rule.Good rest) = os ≡ o ∷ rest
Behind o os (rule.Faulty r at) = ⊥

behind : (o : rule.Op) (os : List rule.Op) (x : rule.Ops) → rule.and_then o x ≡ rule.Good os → Behind o os x
unfolding Behind
behind o os (rule.Good rest) e = cc
behind o os (rule.Faulty r at) e = let z : ◌≡◌ {A = ℕ} 0 1 = cc in omega arith

pub good-plain-ops : (n at : ℕ) (s : rule.Reading) (l : List ℕ) (os : List rule.Op) → rule.read_ops n at s l ≡ rule.Good os → plain_ops n l ≡ os
unfolding rule.read_ops plain_ops Behind
good-plain-ops zero at s l os e = cc
good-plain-ops (suc n) at s [] os e = no_bytes (λ rest. plain_ops n rest) ∙ cc
good-plain-ops (suc n) at s (b ∷ l) os e = go (rule.read_op (b ∷ l)) e (λ p t rest. good-plain-ops n p t rest)
  where
    go : (r : rule.OpRead) → rule.on_read at s (λ t rest. rule.read_ops n (at + (suc (length l) - length rest)) t rest) r ≡ rule.Good os
        → ((p : ℕ) (t : rule.Reading) (rest : List ℕ) (os : List rule.Op) → rule.read_ops n p t rest ≡ rule.Good os → plain_ops n rest ≡ os)
        → on_plain (λ rest. plain_ops n rest) r ≡ os
    go (rule.Bad r) e ih = let z : ◌≡◌ {A = ℕ} 0 1 = cc in absurd (omega arith)
    go (rule.Got o rest) e ih = more (rule.follow s o) e
      where
        more : (f : rule.Followed) → rule.on_followed at o (λ t. rule.read_ops n (at + (suc (length l) - length rest)) t rest) f ≡ rule.Good os
            → o ∷ plain_ops n rest ≡ os
        more (rule.Fault r) e = let z : ◌≡◌ {A = ℕ} 0 1 = cc in absurd (omega arith)
        more (rule.Next t) e =
            last (rule.read_ops n (at + (suc (length l) - length rest)) t rest) refl
            (behind o os (rule.read_ops n (at + (suc (length l) - length rest)) t rest) e)
          where
            last : (x : rule.Ops) → rule.read_ops n (at + (suc (length l) - length rest)) t rest ≡ x → Behind o os x → o ∷ plain_ops n rest ≡ os
            last (rule.Good rest') q b = ap (λ (xs : List rule.Op). o ∷ xs) (ih (at + (suc (length l) - length rest)) t rest rest' q) ∙ sym b
            last (rule.Faulty r p) q b = absurd b

-- the operations of an accepted delta are those that stand in it
pub good-plain : (l : List ℕ) (os : List rule.Op) → rule.read_delta l ≡ rule.Good os → (ops_from l 0 ≡ os) × (length l ≤ max_delta)
unfolding rule.read_delta ops_from
good-plain l os e = elim (le-or-lt (length l) max_delta) [
  | inl h ↦
      let f : rule.read_ops (length l) 0 rule.nothing_read l ≡ rule.Good os = sym (rw (le-leb (length l) max_delta h)) ∙ e in
      (ap (λ (n : ℕ). plain_ops n l) (sub-zero (length l)) ∙ good-plain-ops (length l) 0 rule.nothing_read l os f, h)
  | inr h ↦
      let f : rule.Faulty TooMany 0 ≡ rule.Good os = sym (rw (lt-leb (length l) max_delta h)) ∙ e in
      let z : ◌≡◌ {A = ℕ} 0 1 = cc in
      absurd (omega arith)
]
