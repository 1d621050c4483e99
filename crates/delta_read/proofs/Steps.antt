-- Reading a whole delta, one operation after the other. The rules bound their recursion by a number; `enough` says that from the length of the
-- bytes on it does not matter. So reading from a place of the bytes (`read_from`) goes by steps that name no bound: at the end, at an operation
-- that is refused, at one that may not follow, and at one that may. Assumes nothing.
use Prim.Native.Nat.{ℕ, zero, suc, ◌+◌, ◌-◌, ◌≤◌, ◌<◌}
use mathlib.Core.Path.{◌≡◌, refl, ap, sym, ◌∙◌, subst}
use mathlib.Core.List.{List, [], ◌∷◌}
use native.Mathlib.Omega.{arith}
use native.Mathlib.Nat.{not-suc-le-zero, sub-zero}
use lib.ListN.{length, drop, length-drop}
use lib.Seq.{drop-cons}
use Rattle.rules.specs.Delta as rule
use Rattle.rules.specs.declared.Refusal.{Refusal}
use Rattle.delta_op.specs.declared.Op.{Op}
use Rattle.std.specs.Prelude.{Err, Ok}
use Rattle.delta_op.specs.Places.{op_of, meant, op_at}
use Rattle.delta_op.proofs.Reading.{Within, read_at, op-within}
use Rattle.delta_op.proofs.Plain.{shorter}

-- two ways to go on that agree where an operation was read
module _ (at : ℕ) (s : rule.Reading) (f g : rule.Reading → List ℕ → rule.Ops) where
  followed-alike : (o : rule.Op) (rest : List ℕ) → ((t : rule.Reading) → f t rest ≡ g t rest) → (r : rule.Followed)
      → rule.on_followed at o (λ t. f t rest) r ≡ rule.on_followed at o (λ t. g t rest) r
  followed-alike o rest h (rule.Next t) = ap (rule.and_then o) (h t)
  followed-alike o rest h (rule.Fault r) = refl

  read_alike : (r : rule.OpRead) → ((o : rule.Op) (rest : List ℕ) → r ≡ rule.Got o rest → (t : rule.Reading) → f t rest ≡ g t rest)
      → rule.on_read at s f r ≡ rule.on_read at s g r
  read_alike (rule.Got o rest) h = followed-alike o rest (h o rest refl) (rule.follow s o)
  read_alike (rule.Bad r) h = refl

-- from the length on the bound does not matter
pub enough : (n m at : ℕ) (s : rule.Reading) (l : List ℕ) → length l ≤ n → length l ≤ m → rule.read_ops n at s l ≡ rule.read_ops m at s l
unfolding rule.read_ops
enough zero zero at s l h g = refl
enough zero (suc m) at s [] h g = refl
enough zero (suc m) at s (b ∷ l) h g = absurd (not-suc-le-zero h)
enough (suc n) zero at s [] h g = refl
enough (suc n) zero at s (b ∷ l) h g = absurd (not-suc-le-zero g)
enough (suc n) (suc m) at s [] h g = refl
enough (suc n) (suc m) at s (b ∷ l) h g =
    read_alike at s
    (λ t rest. rule.read_ops n (at + (suc (length l) - length rest)) t rest)
    (λ t rest. rule.read_ops m (at + (suc (length l) - length rest)) t rest)
    (rule.read_op (b ∷ l))
    (λ o rest e t.
    let k : length rest < suc (length l) = shorter (b ∷ l) e in
    enough n m (at + (suc (length l) - length rest)) t rest (omega arith) (omega arith))

-- ---- from a place of the bytes

unfoldable pub read_from : List ℕ → ℕ → rule.Reading → rule.Ops
read_from l at s = rule.read_ops (length l - at) at s (drop at l)

pub from_start : (l : List ℕ) → rule.read_ops (length l) 0 rule.nothing_read l ≡ read_from l 0 rule.nothing_read
unfolding read_from
from_start l = ap (λ (n : ℕ). rule.read_ops n 0 rule.nothing_read l) (sym (sub-zero (length l)))

module _ (l : List ℕ) (at : ℕ) (s : rule.Reading) where
  pub at-end : length l ≤ at → read_from l at s ≡ rule.Good []
  unfolding read_from rule.read_ops
  at-end h = let e : length l - at ≡ 0 = omega arith in rw (e, rule.read_ops)

  -- one operation, with what is left of the bound
  one : (k : ℕ) → suc k ≡ length l - at → at < length l
      → read_from l at s ≡ rule.on_read at s (λ t rest. rule.read_ops k (at + (length (drop at l) - length rest)) t rest) (meant l (op_at l at))
  unfolding read_from rule.read_ops
  one k e h =
      let go : rule.Reading → List ℕ → rule.Ops = λ t rest. rule.read_ops k (at + (length (drop at l) - length rest)) t rest in
      let full : rule.read_ops (suc k) at s (drop at l) ≡ rule.on_read at s go (rule.read_op (drop at l)) =
      ap (λ (r : List ℕ). rule.unless_end r (rule.on_read at s go (rule.read_op (drop at l)))) (drop-cons l at 0 h) in
      ap (λ (j : ℕ). rule.read_ops j at s (drop at l)) (sym e) ∙ full
      ∙ ap (rule.on_read at s (λ t rest. rule.read_ops k (at + (length (drop at l) - length rest)) t rest)) (read_at l at (omega arith))

  pub at-bad : (r : Refusal) → at < length l → op_at l at ≡ Err r → read_from l at s ≡ rule.Faulty r at
  at-bad r h e = one (length l - at - 1) (omega arith) h ∙ rw e

  module _ (o : Op) (next : ℕ) (h : at < length l) (e : op_at l at ≡ (Ok (o, next))) where
    pub at-fault : (r : Refusal) → rule.follow s (op_of l o) ≡ rule.Fault r → read_from l at s ≡ rule.Faulty r at
    at-fault r f = one (length l - at - 1) (omega arith) h ∙ rw (e, f)

    pub at_next : (t : rule.Reading) → rule.follow s (op_of l o) ≡ rule.Next t → read_from l at s ≡ rule.and_then (op_of l o) (read_from l next t)
    unfolding read_from
    at_next t f =
        let w : Within (length l) at (Ok (o, next)) = subst (Within (length l) at) e (op-within l at) in
        let k : ℕ = length l - at - 1 in
        let lo : length l - next ≤ k = omega arith in
        let place : at + (length (drop at l) - length (drop next l)) ≡ next = simp length-drop (omega arith) in
        one k (omega arith) h
        ∙ rw (e, f)
        (ap (λ (j : ℕ). rule.and_then (op_of l o) (rule.read_ops k j t (drop next l))) place
        ∙ ap (rule.and_then (op_of l o)) (enough k (length l - next) next t (drop next l) (rw length-drop lo) (simp length-drop (omega arith))))
