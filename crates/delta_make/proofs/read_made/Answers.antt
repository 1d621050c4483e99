-- `delta_make::read_made` meets its contract: too long a delta, or what reading it answers. Assumes nothing.
use Prim.Native.Nat.{ℕ, ◌≤◌, ◌<◌}
use mathlib.Core.Path.{◌≡◌, refl, ap, sym, ◌∙◌}
use mathlib.Core.List.{List}
use mathlib.Core.Logic.{inl, inr}
use native.Mathlib.Omega.{arith}
use lib.ListN.{length, take}
use lib.Seq.{length-take-le}
use borrow.Author.Tests.{le-leb, lt-leb}
use Rattle.rules.specs.Answers.{read_told}
use Rattle.rules.specs.Delta as rule
use Rattle.rules.specs.Delta.{delta_read, read_answer, read_delta}
use Rattle.rules.specs.Given.{Says}
use Rattle.rules.specs.Sizes.{max_delta}
use Rattle.std.specs.Prelude.{Err, Ok, Result}
use Rattle.rules.specs.declared.DeltaFault.{DeltaFault}
use Rattle.rules.specs.declared.DeltaRead.{DeltaRead}
use Rattle.delta_make.specs.declared.NotMade.TheVariants as not_made
use Rattle.rules.specs.declared.Refusal.TheVariants.{TooMany}
use Rattle.rules.proofs.Results.{err-is}
use Rattle.rules.proofs.Told.{same_read}
use Rattle.std.specs.Result.{is_err}
use Rattle.std.proofs.lemmas.Bool.{false≢true}
use Rattle.std.proofs.lemmas.Result.{err_from_is_err_and}
use Rattle.delta_make.specs.Making.{made_of, read_made, refused_at}
use Rattle.delta_make.proofs.read_made.Goals as goal

over : (n : ℕ) (delta : List ℕ) → max_delta < n → refused_at TooMany 0 ≡ read_made n delta
unfolding read_made
over n delta h = rw (lt-leb n max_delta h)

missing : (n : ℕ) (delta : List ℕ) → n ≤ max_delta → length delta < n → refused_at TooMany 0 ≡ read_made n delta
unfolding read_made
missing n delta h g = rw (le-leb n max_delta h, lt-leb n (length delta) g)

module _ (n : ℕ) (delta : List ℕ) (r : Result DeltaRead DeltaFault) (h : n ≤ max_delta) (g : n ≤ length delta) (e : Says read_told (delta_read (take n delta)) r) where
  within : read_made n delta ≡ made_of n (read_delta (take n delta))
  unfolding read_made
  within = rw (le-leb n max_delta h, le-leb n (length delta) g)

  answer : r ≡ read_answer (read_delta (take n delta))
  unfolding delta_read
  answer = same_read _ _ e

  accepted : (x : DeltaRead) → r ≡ Ok x → Ok n ≡ read_made n delta
  accepted x q = go (read_delta (take n delta)) (sym answer ∙ q) ∙ sym within
    where
      go : (y : rule.Ops) → read_answer y ≡ Ok x → Ok n ≡ made_of n y
      go (rule.Good ops) p = refl
      go (rule.Faulty why at) p = absurd (false≢true (sym (ap is_err p)))

  refused : (x : DeltaFault) → r ≡ Err x → Err (not_made.Refused x) ≡ read_made n delta
  refused x q = go (read_delta (take n delta)) (sym answer ∙ q) ∙ sym within
    where
      go : (y : rule.Ops) → read_answer y ≡ Err x → Err (not_made.Refused x) ≡ made_of n y
      go (rule.Good ops) p = absurd (false≢true (ap is_err p))
      go (rule.Faulty why at) p = ap (λ (f : DeltaFault). Err (not_made.Refused f)) (sym (err-is _ _ p))

pub returns-then-bytes-gt-LONGEST_DELTA : goal.returns-then-bytes-gt-LONGEST_DELTA
returns-then-bytes-gt-LONGEST_DELTA c =
    elim c.then-bytes-gt-LONGEST_DELTA.either [
      | inl h ↦ over _ _ h
      | inr h ↦ missing _ _ h.0 h.1
    ]

pub slice_bounds-read_delta-end : goal.slice_bounds-read_delta-end
slice_bounds-read_delta-end c =
    sym (length-take-le _ _ c.if-delta-bytes.false)

pub returns-in_err-read_delta : goal.returns-in_err-read_delta
returns-in_err-read_delta c =
    let p = err_from_is_err_and c.from_residual.result c.from_residual.ensures.1 in
    let a = c.args in
    rw (p.1, p.2) (refused a.bytes a.delta.now _ (omega arith) (omega arith) c.read_delta.ensures _ c.in_err-read_delta.was)

pub returns : goal.returns
returns c =
    let a = c.args in
    accepted a.bytes a.delta.now _ (omega arith) (omega arith) c.read_delta.ensures _ c.in_ok-read_delta.was
