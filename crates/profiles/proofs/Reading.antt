-- A delta is read in a profile exactly if document 01 reads it and every record is in form. Assumes nothing.
use Prim.Native.Nat.{ℕ, zero, suc, ◌+◌, ◌-◌}
use mathlib.Core.Bool.{Bool, true, false}
use mathlib.Core.List.{List, [], ◌∷◌, ◌++◌}
use mathlib.Core.Path.{◌≡◌, refl, ap, sym, ◌∙◌, subst}
use native.Mathlib.Omega.{arith}
use lib.ListN.{length}
use lib.Dec.{leb}
use Rattle.fields.specs.Choice.{pick, all}
use Rattle.fields.proofs.Choice.{and_intro, and_left, and_right}
use Rattle.rules.specs.Sizes.{max_delta}
use Rattle.rules.specs.Delta.{Op, NodeOp, KeyValueOp, SetMaxVersionOp, OpRead, Got, Bad, Reading, nothing_read, Followed, Next, Fault, follow, Ops, Good, Faulty, and_then, on_followed, on_read, read_op, read_ops, read_delta}
use Rattle.rules.specs.declared.Refusal.{Refusal}
use Rattle.rules.specs.declared.Refusal.TheVariants.{TooMany}
use Rattle.rules.specs.Profile.{op_in_form, odd_number, and_form, on_read_as, read_ops_as, read_delta_as}
use Rattle.rules.specs.declared.Profile.{Profile}
use Rattle.rules.specs.declared.Profile.TheVariants.{Free}

bad-good : {A : Type 0} (r : Refusal) (at : ℕ) (ops : List Op) → Faulty r at ≡ Good ops → A
bad-good r at ops e = let z : ◌≡◌ {A = ℕ} 0 1 = cc in absurd (omega arith)

good-is : (a b : List Op) → Good a ≡ Good b → a ≡ b
good-is a b e = cc

module _ (p : Profile) where
  abbrev Both : (plain : Ops) (ops : List Op) → Type 0
  Both x ops = (x ≡ Good ops) × (all (op_in_form p) ops ≡ true)

  -- one operation more
  and-then : (o : Op) (x y : Ops) (ops : List Op) → op_in_form p o ≡ true → ((os : List Op) → x ≡ Good os → Both y os) → and_then o x ≡ Good ops → Both (and_then o y) ops
  unfolding all
  and-then o (Faulty r at) y ops f ih e = bad-good r at ops e
  and-then o (Good os) y ops f ih e =
      let z = ih os refl in
      subst (λ (l : List Op). Both (and_then o y) l) (good-is (o ∷ os) ops e) (ap (and_then o) z.0, and_intro (op_in_form p o) (all (op_in_form p) os) f z.1)

  -- what is read in the profile is read by document 01, and in form
  pub read_plain : (n at : ℕ) (s : Reading) (l : List ℕ) (ops : List Op) → read_ops_as p n at s l ≡ Good ops → Both (read_ops n at s l) ops
  unfolding read_ops_as read_ops all
  read_plain zero at s l ops e = subst (Both (Good [])) (good-is [] ops e) (refl, refl)
  read_plain (suc n) at s [] ops e = subst (Both (Good [])) (good-is [] ops e) (refl, refl)
  read_plain (suc n) at s (b ∷ l) ops e = go (read_op (b ∷ l)) e (λ s' rest. read_plain n (at + (length (b ∷ l) - length rest)) s' rest)
    where
      Next-one : Type 0
      Next-one = (s' : Reading) (rest : List ℕ) (os : List Op) → read_ops_as p n (at + (length (b ∷ l) - length rest)) s' rest ≡ Good os → Both (read_ops n (at + (length (b ∷ l) - length rest)) s' rest) os

      on : (o : Op) (rest : List ℕ) (f : Followed) (x : Bool) → op_in_form p o ≡ x
          → on_followed at o (λ s'. read_ops_as p n (at + (length (b ∷ l) - length rest)) s' rest) (and_form p x f) ≡ Good ops → Next-one
          → Both (on_followed at o (λ s'. read_ops n (at + (length (b ∷ l) - length rest)) s' rest) f) ops
      on o rest (Fault r) x q e ih = bad-good r at ops e
      on o rest (Next s') true q e ih = and-then o _ _ ops q (ih s' rest) e
      on o rest (Next s') false q e ih = bad-good (odd_number p) at ops e

      go : (r : OpRead) → on_read_as p at s (λ s' rest. read_ops_as p n (at + (length (b ∷ l) - length rest)) s' rest) r ≡ Good ops → Next-one
          → Both (on_read at s (λ s' rest. read_ops n (at + (length (b ∷ l) - length rest)) s' rest) r) ops
      go (Bad r) e ih = bad-good r at ops e
      go (Got o rest) e ih = on o rest (follow s o) (op_in_form p o) refl e ih

  and-back : (o : Op) (x y : Ops) (ops : List Op) → all (op_in_form p) ops ≡ true → ((os : List Op) → all (op_in_form p) os ≡ true → x ≡ Good os → y ≡ Good os) → and_then o x ≡ Good ops
      → (op_in_form p o ≡ true) × (and_then o y ≡ Good ops)
  unfolding all
  and-back o (Faulty r at) y ops f ih e = bad-good r at ops e
  and-back o (Good os) y ops f ih e =
      let same : o ∷ os ≡ ops = good-is (o ∷ os) ops e in
      let all_in = subst (λ (k : List Op). all (op_in_form p) k ≡ true) (sym same) f in (
        and_left (op_in_form p o) (all (op_in_form p) os) all_in,
        ap (and_then o) (ih os (and_right (op_in_form p o) (all (op_in_form p) os) all_in) refl) ∙ ap Good same,
      )

  -- and what document 01 reads in form is read in the profile
  pub read-formed : (n at : ℕ) (s : Reading) (l : List ℕ) (ops : List Op) → all (op_in_form p) ops ≡ true → read_ops n at s l ≡ Good ops → read_ops_as p n at s l ≡ Good ops
  unfolding read_ops_as read_ops
  read-formed zero at s l ops f e = e
  read-formed (suc n) at s [] ops f e = e
  read-formed (suc n) at s (b ∷ l) ops f e = go (read_op (b ∷ l)) e (λ s' rest. read-formed n (at + (length (b ∷ l) - length rest)) s' rest)
    where
      Next-one : Type 0
      Next-one = (s' : Reading) (rest : List ℕ) (os : List Op) → all (op_in_form p) os ≡ true → read_ops n (at + (length (b ∷ l) - length rest)) s' rest ≡ Good os → read_ops_as p n (at + (length (b ∷ l) - length rest)) s' rest ≡ Good os

      on : (o : Op) (rest : List ℕ) (g : Followed)
          → on_followed at o (λ s'. read_ops n (at + (length (b ∷ l) - length rest)) s' rest) g ≡ Good ops → Next-one
          → on_followed at o (λ s'. read_ops_as p n (at + (length (b ∷ l) - length rest)) s' rest) (and_form p (op_in_form p o) g) ≡ Good ops
      on o rest (Fault r) e ih = bad-good r at ops e
      on o rest (Next s') e ih = let z = and-back o (read_ops n (at + (length (b ∷ l) - length rest)) s' rest) (read_ops_as p n (at + (length (b ∷ l) - length rest)) s' rest) ops f (ih s' rest) e in rw z.0 z.1

      go : (r : OpRead) → on_read at s (λ s' rest. read_ops n (at + (length (b ∷ l) - length rest)) s' rest) r ≡ Good ops → Next-one
          → on_read_as p at s (λ s' rest. read_ops_as p n (at + (length (b ∷ l) - length rest)) s' rest) r ≡ Good ops
      go (Bad r) e ih = bad-good r at ops e
      go (Got o rest) e ih = on o rest (follow s o) e ih

  -- of a whole delta
  pub delta-plain : (l : List ℕ) (ops : List Op) → read_delta_as p l ≡ Good ops → Both (read_delta l) ops
  unfolding read_delta_as read_delta
  delta-plain l ops e = go (leb (length l) max_delta) e
    where
      go : (b : Bool) → pick b (read_ops_as p (length l) 0 nothing_read l) (Faulty TooMany 0) ≡ Good ops → Both (pick b (read_ops (length l) 0 nothing_read l) (Faulty TooMany 0)) ops
      go true e = read_plain (length l) 0 nothing_read l ops e
      go false e = bad-good TooMany 0 ops e

  pub delta-formed : (l : List ℕ) (ops : List Op) → all (op_in_form p) ops ≡ true → read_delta l ≡ Good ops → read_delta_as p l ≡ Good ops
  unfolding read_delta_as read_delta
  delta-formed l ops f e = go (leb (length l) max_delta) e
    where
      go : (b : Bool) → pick b (read_ops (length l) 0 nothing_read l) (Faulty TooMany 0) ≡ Good ops → pick b (read_ops_as p (length l) 0 nothing_read l) (Faulty TooMany 0) ≡ Good ops
      go true e = read-formed (length l) 0 nothing_read l ops f e
      go false e = e

  pub form-first : (xs ys : List Op) → all (op_in_form p) (xs ++ ys) ≡ true → all (op_in_form p) xs ≡ true
  unfolding all
  form-first [] ys f = refl
  form-first (o ∷ xs) ys f = and_intro (op_in_form p o) (all (op_in_form p) xs) (and_left (op_in_form p o) (all (op_in_form p) (xs ++ ys)) f) (form-first xs ys (and_right (op_in_form p o) (all (op_in_form p) (xs ++ ys)) f))

  pub form-second : (xs ys : List Op) → all (op_in_form p) (xs ++ ys) ≡ true → all (op_in_form p) ys ≡ true
  unfolding all
  form-second [] ys f = f
  form-second (o ∷ xs) ys f = form-second xs ys (and_right (op_in_form p o) (all (op_in_form p) (xs ++ ys)) f)

-- ---- the free profile

free-follows : (f : Followed) → and_form Free true f ≡ f
free-follows (Next s) = refl
free-follows (Fault r) = refl

free-op : (o : Op) → op_in_form Free o ≡ true
free-op (NodeOp n g f) = refl
free-op (KeyValueOp r) = refl
free-op (SetMaxVersionOp m) = refl

-- it reads as document 01 does
pub read-free : (n at : ℕ) (s : Reading) (l : List ℕ) → read_ops_as Free n at s l ≡ read_ops n at s l
unfolding read_ops_as read_ops
read-free zero at s l = refl
read-free (suc n) at s [] = refl
read-free (suc n) at s (b ∷ l) = go (read_op (b ∷ l)) (λ s' rest. read-free n (at + (length (b ∷ l) - length rest)) s' rest)
  where
    on : (o : Op) (rest : List ℕ) (f : Followed) → ((s' : Reading) (rest : List ℕ) → read_ops_as Free n (at + (length (b ∷ l) - length rest)) s' rest ≡ read_ops n (at + (length (b ∷ l) - length rest)) s' rest)
        → on_followed at o (λ s'. read_ops_as Free n (at + (length (b ∷ l) - length rest)) s' rest) f ≡ on_followed at o (λ s'. read_ops n (at + (length (b ∷ l) - length rest)) s' rest) f
    on o rest (Next s') ih = ap (and_then o) (ih s' rest)
    on o rest (Fault r) ih = refl

    go : (r : OpRead) → ((s' : Reading) (rest : List ℕ) → read_ops_as Free n (at + (length (b ∷ l) - length rest)) s' rest ≡ read_ops n (at + (length (b ∷ l) - length rest)) s' rest)
        → on_read_as Free at s (λ s' rest. read_ops_as Free n (at + (length (b ∷ l) - length rest)) s' rest) r ≡ on_read at s (λ s' rest. read_ops n (at + (length (b ∷ l) - length rest)) s' rest) r
    go (Bad r) ih = refl
    go (Got o rest) ih =
        ap (λ (x : Bool). on_followed at o (λ s'. read_ops_as Free n (at + (length (b ∷ l) - length rest)) s' rest) (and_form Free x (follow s o))) (free-op o)
        ∙ ap (on_followed at o (λ s'. read_ops_as Free n (at + (length (b ∷ l) - length rest)) s' rest)) (free-follows (follow s o))
        ∙ on o rest (follow s o) ih

pub free-reads : (l : List ℕ) → read_delta_as Free l ≡ read_delta l
unfolding read_delta_as read_delta
free-reads l = ap (λ (x : Ops). pick (leb (length l) max_delta) x (Faulty TooMany 0)) (read-free (length l) 0 nothing_read l)
