-- The pass over the operations before a place: what is left of it gives the whole's answer. Assumes nothing.
use Prim.Native.Nat.{ℕ, zero, suc, ◌+◌, ◌-◌, ◌≤◌, ◌<◌}
use mathlib.Core.Bool.{Bool, true, false}
use mathlib.Core.List.{List}
use mathlib.Core.Path.{◌≡◌, refl, ap, sym, subst, ◌∙◌}
use native.Mathlib.Omega.{arith}
use lib.Dec.{ltb}
use lib.ListN.{length, drop, length-drop}
use borrow.Author.Tests.{lt-ltb, le-ltb}
use Rattle.fields.specs.Choice.{pick}
use Rattle.fields.specs.Parts.{part}
use Rattle.fields.proofs.Choice.{pick_true, pick-false}
use Rattle.rules.specs.Delta as rule
use Rattle.rules.specs.Profile.{op_in_form}
use Rattle.rules.specs.declared.Profile.{Profile}
use Rattle.rules.specs.declared.Profile.TheVariants.{Free, Meter, Shared}
use Rattle.rules.specs.declared.Refusal.{Refusal}
use Rattle.rules.specs.declared.Status.{Status}
use Rattle.delta_op.specs.Places.{Inside, meant, op_at, op_of}
use Rattle.delta_op.specs.declared.Op.{Op}
use Rattle.delta_op.specs.declared.Op.TheVariants as op
use Rattle.std.specs.Prelude.{Err, Ok, Result}
use Rattle.delta_op.proofs.Reading.{ends, read_at}
use Rattle.delta_form.specs.Forming.{formed_at, odd_from, odd_place, on_odd}

-- ---- one operation

pub inside : (len : ℕ) (o : Op) (k n v m ver : ℕ) (st : Status) → o ≡ op.KeyValue k n v m ver st → Inside len o → (k + n ≤ len) × (v + m ≤ len)
inside len o k n v m ver st e h = let i : Inside len (op.KeyValue k n v m ver st) = subst (Inside len) e h in (i.0, i.1)

-- the form looks at no version
module _ (k v : List ℕ) (ver : ℕ) (st : Status) where
  no-version : (p : Profile) → formed_at p k v st ≡ op_in_form p (rule.KeyValueOp (record { key = k; value = v; version = ver; status = st }))
  no-version Free = refl
  no-version Meter = refl
  no-version Shared = refl

module _ (p : Profile) (l : List ℕ) (o : Op) where
  pub of-record : (k n v m ver : ℕ) (st : Status) → o ≡ op.KeyValue k n v m ver st → {t : Bool} → t ≡ formed_at p (part k n l) (part v m l) st → t ≡ op_in_form p (op_of l o)
  of-record k n v m ver st e q = q ∙ no-version (part k n l) (part v m l) ver st p ∙ sym (ap (λ (x : Op). op_in_form p (op_of l x)) e)

  pub of_node : (n g f : ℕ) → o ≡ op.Node n g f → true ≡ op_in_form p (op_of l o)
  of_node n g f e = sym (ap (λ (x : Op). op_in_form p (op_of l x)) e)

  pub of-max : (m : ℕ) → o ≡ op.SetMaxVersion m → true ≡ op_in_form p (op_of l o)
  of-max m e = sym (ap (λ (x : Op). op_in_form p (op_of l x)) e)

-- ---- the pass

abbrev pub So-far : (p : Profile) (l : List ℕ) (end at : ℕ) → Type 0
So-far p l end at = (at ≤ length l) × ((k : ℕ) × (length l ≤ k + at) × (odd_from p k at end (drop at l) ≡ odd_place p l end))

pub begin : (p : Profile) (l : List ℕ) (end : ℕ) → So-far p l end 0
begin p l end = (omega arith, (length l, omega arith, refl))

module _ (p : Profile) (l : List ℕ) (end at : ℕ) (s : So-far p l end at) where
  pub over : end ≤ at → end ≡ odd_place p l end
  unfolding odd_from
  over h = go s.1.0 s.1.2
    where
      go : (k : ℕ) → odd_from p k at end (drop at l) ≡ odd_place p l end → end ≡ odd_place p l end
      go zero e = e
      go (suc n) e = sym (pick-false (ltb at end) _ end (le-ltb at end h)) ∙ e

  module _ (h : at < end) (f : end ≤ length l) where
    -- one operation more
    next-op : (n : ℕ) → length l ≤ suc n + at → odd_from p (suc n) at end (drop at l) ≡ odd_place p l end
        → on_odd p at end (λ rest. odd_from p n (at + (length (drop at l) - length rest)) end rest) (meant l (op_at l at)) ≡ odd_place p l end
    unfolding odd_from
    next-op n g e =
        sym (ap (on_odd p at end (λ rest. odd_from p n (at + (length (drop at l) - length rest)) end rest)) (read_at l at (omega arith)))
        ∙ sym (pick_true (ltb at end) (on_odd p at end (λ rest. odd_from p n (at + (length (drop at l) - length rest)) end rest) (rule.read_op (drop at l))) end (lt-ltb at end h))
        ∙ e

    pub bad : (r : Refusal) → op_at l at ≡ Err r → end ≡ odd_place p l end
    bad r e = go s.1.0 s.1.1 s.1.2
      where
        go : (k : ℕ) → length l ≤ k + at → odd_from p k at end (drop at l) ≡ odd_place p l end → end ≡ odd_place p l end
        go zero g q = absurd (omega arith)
        go (suc n) g q = sym (ap (λ (x : (Result (Op × ℕ) Refusal)). on_odd p at end (λ rest. odd_from p n (at + (length (drop at l) - length rest)) end rest) (meant l x)) e) ∙ next-op n g q

    module _ (o : Op) (next : ℕ) (e : op_at l at ≡ (Ok (o, next))) {t : Bool} (is : t ≡ op_in_form p (op_of l o)) where
      got : (n : ℕ) → length l ≤ suc n + at → odd_from p (suc n) at end (drop at l) ≡ odd_place p l end
          → pick t (odd_from p n (at + (length (drop at l) - length (drop next l))) end (drop next l)) at ≡ odd_place p l end
      got n g q =
          ap (λ (x : Bool). pick x (odd_from p n (at + (length (drop at l) - length (drop next l))) end (drop next l)) at) is
          ∙ sym (ap (λ (x : (Result (Op × ℕ) Refusal)). on_odd p at end (λ rest. odd_from p n (at + (length (drop at l) - length rest)) end rest) (meant l x)) e)
          ∙ next-op n g q

      pub is_odd : t ≡ false → at ≡ odd_place p l end
      is_odd c = go s.1.0 s.1.1 s.1.2
        where
          go : (k : ℕ) → length l ≤ k + at → odd_from p k at end (drop at l) ≡ odd_place p l end → at ≡ odd_place p l end
          go zero g q = absurd (omega arith)
          go (suc n) g q = sym (pick-false t (odd_from p n (at + (length (drop at l) - length (drop next l))) end (drop next l)) at c) ∙ got n g q

      pub goes_on : t ≡ true → So-far p l end next
      goes_on c = go s.1.0 s.1.1 s.1.2
        where
          w : (at < next) × (next ≤ length l)
          w = ends l at o next e

          place : at + (length (drop at l) - length (drop next l)) ≡ next
          place = let a = w.0 in let b = w.1 in simp length-drop (omega arith)

          go : (k : ℕ) → length l ≤ k + at → odd_from p k at end (drop at l) ≡ odd_place p l end → So-far p l end next
          go zero g q = absurd (omega arith)
          go (suc n) g q =
              let a = w.0 in
              let b = w.1 in (
                b,
                (
                  n,
                  omega arith,
                  ap (λ (j : ℕ). odd_from p n j end (drop next l)) (sym place)
                      ∙ sym (pick_true t (odd_from p n (at + (length (drop at l) - length (drop next l))) end (drop next l)) at c)
                      ∙ got n g q,
                ),
              )
