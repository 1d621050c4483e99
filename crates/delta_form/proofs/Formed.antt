-- Document 01's verdict and a pass over the records before the fault come to the rules' own reading in a profile. Assumes nothing.
use Prim.Native.Nat.{ℕ, zero, suc, ◌+◌, ◌-◌, ◌≤◌, ◌<◌}
use mathlib.Core.Bool.{Bool, true, false}
use mathlib.Core.List.{List, [], ◌∷◌}
use mathlib.Core.Path.{◌≡◌, refl, ap, sym, ◌∙◌}
use native.Mathlib.Omega.{arith}
use lib.Dec.{leb, ltb}
use lib.ListN.{length}
use borrow.Author.Tests.{lt-ltb, le-ltb}
use Rattle.fields.specs.Choice.{pick}
use Rattle.fields.proofs.Choice.{pick_true, pick-false}
use Rattle.rules.specs.Sizes.{max_delta}
use Rattle.rules.specs.Delta.{Op, OpRead, Got, Bad, Reading, nothing_read, Followed, Next, Fault, follow, Ops, Good, Faulty, and_then, on_followed, on_read, read_answer, read_op, read_ops, read_delta, delta_read}
use Rattle.rules.specs.Profile.{and_form, odd_number, op_in_form, on_read_as, read_delta_as, read_ops_as}
use Rattle.std.specs.Prelude.{Err, Ok}
use Rattle.rules.specs.declared.Profile.{Profile}
use Rattle.rules.specs.declared.Profile.TheVariants.{Free}
use Rattle.rules.specs.declared.Refusal.{Refusal}
use Rattle.rules.specs.declared.Refusal.TheVariants.{TooMany}
use Rattle.delta_op.proofs.Plain.{shorter}
use Rattle.profiles.proofs.Reading.{delta-plain, free-reads}
use Rattle.delta_form.specs.Forming.{delta_read_as, end_of, odd_from, odd_place, on_odd, unless_odd}

-- ---- where the reading ends

-- from a place on, of bytes up to the place `long`
abbrev end_at : (long : ℕ) (read : Ops) → ℕ
end_at n (Good ops) = n
end_at n (Faulty r f) = f

abbrev odd : (p : Profile) (o end : ℕ) (read : Ops) → Ops
odd p o end x = pick (ltb o end) (Faulty (odd_number p) o) x

faulty-at : (r q : Refusal) (a b : ℕ) → Faulty r a ≡ Faulty q b → a ≡ b
faulty-at r q a b e = cc

good-faulty : {A : Type 0} (os : List Op) (r : Refusal) (f : ℕ) → Good os ≡ Faulty r f → A
good-faulty os r f e = let z : ◌≡◌ {A = ℕ} 0 1 = cc in absurd (omega arith)

-- a fault stands within the bytes
then-faulty : (o : Op) (x : Ops) (r : Refusal) (f : ℕ) → and_then o x ≡ Faulty r f → x ≡ Faulty r f
then-faulty o (Good os) r f e = good-faulty (o ∷ os) r f e
then-faulty o (Faulty q g) r f e = e

within : (n at : ℕ) (s : Reading) (l : List ℕ) (r : Refusal) (f : ℕ) → read_ops n at s l ≡ Faulty r f → (at ≤ f) × (f ≤ at + length l)
unfolding read_ops
within zero at s l r f e = good-faulty [] r f e
within (suc n) at s [] r f e = good-faulty [] r f e
within (suc n) at s (b ∷ l) r f e = go (read_op (b ∷ l)) refl e (λ t rest. within n (at + (suc (length l) - length rest)) t rest r f)
  where
    In : Type 0
    In = (at ≤ f) × (f ≤ at + suc (length l))

    On : Type 0
    On = (t : Reading) (rest : List ℕ) → read_ops n (at + (suc (length l) - length rest)) t rest ≡ Faulty r f → (at + (suc (length l) - length rest) ≤ f) × (f ≤ (at + (suc (length l) - length rest)) + length rest)

    here-is : (q : Refusal) (g : ℕ) → Faulty q g ≡ Faulty r f → g ≡ at → In
    here-is q g e p = let z = faulty-at q r g f e in (omega arith, omega arith)

    followed : (o : Op) (rest : List ℕ) → length rest < suc (length l) → (x : Followed) → on_followed at o (λ t. read_ops n (at + (suc (length l) - length rest)) t rest) x ≡ Faulty r f → On → In
    followed o rest h (Next t) e ih = let z = ih t rest (then-faulty o _ r f e) in let a = z.0 in let c = z.1 in (omega arith, omega arith)
    followed o rest h (Fault q) e ih = here-is q at e refl

    go : (x : OpRead) → read_op (b ∷ l) ≡ x → on_read at s (λ t rest. read_ops n (at + (suc (length l) - length rest)) t rest) x ≡ Faulty r f → On → In
    go (Got o rest) q e ih = followed o rest (shorter (b ∷ l) q) (follow s o) e ih
    go (Bad q) p e ih = here-is q at e refl

-- ---- the two readings

module _ (p : Profile) (long : ℕ) where
  -- one operation in form more
  then-odd : (o : Op) (x : Ops) (k end : ℕ) → and_then o (odd p k end x) ≡ odd p k end (and_then o x)
  then-odd o x k end = go (ltb k end)
    where
      go : (b : Bool) → and_then o (pick b (Faulty (odd_number p) k) x) ≡ pick b (Faulty (odd_number p) k) (and_then o x)
      go true = refl
      go false = refl

  end-then : (o : Op) (x : Ops) → end_at long (and_then o x) ≡ end_at long x
  end-then o (Good os) = refl
  end-then o (Faulty r f) = refl

  not-before : (n : ℕ) (x : Ops) → x ≡ odd p n n x
  not-before n x = sym (pick-false (ltb n n) (Faulty (odd_number p) n) x (le-ltb n n (omega arith)))

  -- from a place on, whose bytes reach to `long`
  as-odd : (n at : ℕ) (s : Reading) (l : List ℕ) → at + length l ≡ long → length l ≤ n
      → read_ops_as p n at s l ≡ odd p (odd_from p n at (end_at long (read_ops n at s l)) l) (end_at long (read_ops n at s l)) (read_ops n at s l)
  unfolding read_ops read_ops_as odd_from
  as-odd zero at s l e h = not-before long (Good [])
  as-odd (suc n) at s [] e h =
      let z : long ≡ at = omega arith in
      not-before long (Good [])
      ∙ ap (λ (k : ℕ). odd p k long (Good [])) (sym (pick-false (ltb at long) _ long (le-ltb at long (omega arith))))
  as-odd (suc n) at s (b ∷ l) e h = go (read_op (b ∷ l)) refl (λ t rest p q. as-odd n (at + (suc (length l) - length rest)) t rest p q)
    where
      On : Type 0
      On = (t : Reading) (rest : List ℕ) → (at + (suc (length l) - length rest)) + length rest ≡ long → length rest ≤ n
          → read_ops_as p n (at + (suc (length l) - length rest)) t rest
          ≡ odd p (odd_from p n (at + (suc (length l) - length rest)) (end_at long (read_ops n (at + (suc (length l) - length rest)) t rest)) rest) (end_at long (read_ops n (at + (suc (length l) - length rest)) t rest)) (read_ops n (at + (suc (length l) - length rest)) t rest)

      -- the place is before the end, where the operation may follow
      before : (o : Op) (rest : List ℕ) → length rest < suc (length l) → (t : Reading) → at < end_at long (read_ops n (at + (suc (length l) - length rest)) t rest)
      before o rest g t = at-end (read_ops n (at + (suc (length l) - length rest)) t rest) refl
        where
          at-end : (x : Ops) → read_ops n (at + (suc (length l) - length rest)) t rest ≡ x → at < end_at long x
          at-end (Good os) q = omega arith
          at-end (Faulty r f) q = let z = within n (at + (suc (length l) - length rest)) t rest r f q in let a = z.0 in omega arith

      followed : (o : Op) (rest : List ℕ) → length rest < suc (length l) → (x : Followed) (f : Bool) → op_in_form p o ≡ f → On
          → on_followed at o (λ t. read_ops_as p n (at + (suc (length l) - length rest)) t rest) (and_form p f x)
          ≡ odd p (pick (ltb at (end_at long (on_followed at o (λ t. read_ops n (at + (suc (length l) - length rest)) t rest) x))) (pick f (odd_from p n (at + (suc (length l) - length rest)) (end_at long (on_followed at o (λ t. read_ops n (at + (suc (length l) - length rest)) t rest) x)) rest) at) (end_at long (on_followed at o (λ t. read_ops n (at + (suc (length l) - length rest)) t rest) x)))
          (end_at long (on_followed at o (λ t. read_ops n (at + (suc (length l) - length rest)) t rest) x)) (on_followed at o (λ t. read_ops n (at + (suc (length l) - length rest)) t rest) x)
      followed o rest g (Fault r) f q ih =
          not-before at (Faulty r at)
          ∙ ap (λ (k : ℕ). odd p k at (Faulty r at)) (sym (pick-false (ltb at at) (pick f (odd_from p n (at + (suc (length l) - length rest)) at rest) at) at (le-ltb at at (omega arith))))
      followed o rest g (Next t) true q ih =
          let x : Ops = read_ops n (at + (suc (length l) - length rest)) t rest in
          let end : ℕ = end_at long x in
          ap (and_then o) (ih t rest (omega arith) (omega arith))
          ∙ then-odd o x (odd_from p n (at + (suc (length l) - length rest)) end rest) end
          ∙ ap (λ (k : ℕ). odd p k end (and_then o x)) (sym (pick_true (ltb at end) (odd_from p n (at + (suc (length l) - length rest)) end rest) end (lt-ltb at end (before o rest g t))))
          ∙ ap (λ (e : ℕ). odd p (pick (ltb at e) (odd_from p n (at + (suc (length l) - length rest)) e rest) e) e (and_then o x)) (sym (end-then o x))
      followed o rest g (Next t) false q ih =
          let x : Ops = read_ops n (at + (suc (length l) - length rest)) t rest in
          let end : ℕ = end_at long x in
          let lt : ltb at end ≡ true = lt-ltb at end (before o rest g t) in
          sym (pick_true (ltb at end) (Faulty (odd_number p) at) (and_then o x) lt)
          ∙ ap (λ (k : ℕ). odd p k end (and_then o x)) (sym (pick_true (ltb at end) at end lt))
          ∙ ap (λ (e : ℕ). odd p (pick (ltb at e) at e) e (and_then o x)) (sym (end-then o x))

      go : (x : OpRead) → read_op (b ∷ l) ≡ x → On
          → on_read_as p at s (λ t rest. read_ops_as p n (at + (suc (length l) - length rest)) t rest) x
          ≡ odd p (pick (ltb at (end_at long (on_read at s (λ t rest. read_ops n (at + (suc (length l) - length rest)) t rest) x))) (on_odd p at (end_at long (on_read at s (λ t rest. read_ops n (at + (suc (length l) - length rest)) t rest) x)) (λ rest. odd_from p n (at + (suc (length l) - length rest)) (end_at long (on_read at s (λ t rest. read_ops n (at + (suc (length l) - length rest)) t rest) x)) rest) x) (end_at long (on_read at s (λ t rest. read_ops n (at + (suc (length l) - length rest)) t rest) x)))
          (end_at long (on_read at s (λ t rest. read_ops n (at + (suc (length l) - length rest)) t rest) x)) (on_read at s (λ t rest. read_ops n (at + (suc (length l) - length rest)) t rest) x)
      go (Got o rest) q ih = followed o rest (shorter (b ∷ l) q) (follow s o) (op_in_form p o) refl ih
      go (Bad r) q ih =
          not-before at (Faulty r at)
          ∙ ap (λ (k : ℕ). odd p k at (Faulty r at)) (sym (pick-false (ltb at at) at at (le-ltb at at (omega arith))))

-- ---- the verdict

end_is : (n : ℕ) (x : Ops) → end_of n (read_answer x) ≡ end_at n x
end_is n (Good os) = refl
end_is n (Faulty r f) = refl

answer-odd : (p : Profile) (k end : ℕ) (x : Ops) → read_answer (odd p k end x) ≡ unless_odd p k end (read_answer x)
answer-odd p k end x = go (ltb k end)
  where
    go : (b : Bool) → read_answer (pick b (Faulty (odd_number p) k) x) ≡ pick b (Err (record { why = (odd_number p); at = k })) (read_answer x)
    go true = refl
    go false = refl

-- nothing is looked at before the first place
none_before : (p : Profile) (n : ℕ) (l : List ℕ) → odd_from p n 0 0 l ≡ 0
unfolding odd_from
none_before p zero l = refl
none_before p (suc n) l = refl

pub formed-read : (p : Profile) (l : List ℕ) → delta_read_as p l ≡ unless_odd p (odd_place p l (end_of (length l) (delta_read l))) (end_of (length l) (delta_read l)) (delta_read l)
unfolding delta_read_as delta_read read_delta_as read_delta
formed-read p l = go (leb (length l) max_delta)
  where
    go : (b : Bool)
        → read_answer (pick b (read_ops_as p (length l) 0 nothing_read l) (Faulty TooMany 0))
        ≡ unless_odd p (odd_from p (length l) 0 (end_of (length l) (read_answer (pick b (read_ops (length l) 0 nothing_read l) (Faulty TooMany 0)))) l) (end_of (length l) (read_answer (pick b (read_ops (length l) 0 nothing_read l) (Faulty TooMany 0))))
        (read_answer (pick b (read_ops (length l) 0 nothing_read l) (Faulty TooMany 0)))
    go true =
        ap read_answer (as-odd p (length l) (length l) 0 nothing_read l (omega arith) (omega arith))
        ∙ answer-odd p (odd_from p (length l) 0 (end_at (length l) (read_ops (length l) 0 nothing_read l)) l) (end_at (length l) (read_ops (length l) 0 nothing_read l)) (read_ops (length l) 0 nothing_read l)
        ∙ ap (λ (e : ℕ). unless_odd p (odd_from p (length l) 0 e l) e (read_answer (read_ops (length l) 0 nothing_read l))) (sym (end_is (length l) (read_ops (length l) 0 nothing_read l)))
    go false = sym (ap (λ (k : ℕ). pick (ltb k 0) (Err (record { why = (odd_number p); at = k })) (Err (record { why = TooMany; at = 0 }))) (none_before p (length l) l))

-- it ends within the bytes
pub end-within : (l : List ℕ) → end_of (length l) (delta_read l) ≤ length l
unfolding delta_read read_delta
end-within l = go (leb (length l) max_delta)
  where
    at : (x : Ops) → read_ops (length l) 0 nothing_read l ≡ x → end_of (length l) (read_answer x) ≤ length l
    at (Good os) q = omega arith
    at (Faulty r f) q = let z = within (length l) 0 nothing_read l r f q in let a = z.1 in omega arith

    go : (b : Bool) → end_of (length l) (read_answer (pick b (read_ops (length l) 0 nothing_read l) (Faulty TooMany 0))) ≤ length l
    go true = at (read_ops (length l) 0 nothing_read l) refl
    go false = omega arith

-- ---- any profile

-- what is read in the free profile is read by document 01, and the other way round
pub free-read : (l : List ℕ) → delta_read_as Free l ≡ delta_read l
unfolding delta_read_as delta_read
free-read l = ap read_answer (free-reads l)

-- what is accepted in a profile is accepted by document 01, with the same counts
pub as-good : (p : Profile) (l : List ℕ) (ops nodes : ℕ) → delta_read_as p l ≡ (Ok (record { ops = ops; nodes = nodes })) → delta_read l ≡ (Ok (record { ops = ops; nodes = nodes }))
unfolding delta_read_as delta_read
as-good p l ops nodes e = go (read_delta_as p l) refl e
  where
    go : (x : Ops) → read_delta_as p l ≡ x → read_answer x ≡ (Ok (record { ops = ops; nodes = nodes })) → read_answer (read_delta l) ≡ (Ok (record { ops = ops; nodes = nodes }))
    go (Good os) q e = ap read_answer (delta-plain p l os q).0 ∙ e
    go (Faulty r f) q e = let z : ◌≡◌ {A = ℕ} 0 1 = cc in absurd (omega arith)
