-- Laws of the listing: the listing by what reading the delta has answered, at the front of a buffer, and how long it is at most. Assumes nothing.
use Prim.Native.Nat.{ℕ, ◌+◌, ◌-◌, ◌≤◌, ◌<◌}
use mathlib.Core.Path.{◌≡◌, refl, ap, sym, ◌∙◌}
use mathlib.Core.Bool.{Bool, true, false}
use mathlib.Core.List.{List, [], ◌++◌}
use native.Mathlib.Omega.{arith}
use lib.Dec.{eqb}
use lib.ListN.{length, length-append}
use borrow.Author.Tests.{le-leb, lt-leb}
use Rattle.fields.specs.Choice.{pick}
use Rattle.fields.specs.Parts.{put}
use Rattle.rules.specs.Answers.{number_of, need_of}
use Rattle.rules.specs.Sizes.{max_delta}
use Rattle.rules.specs.Given.{Gives}
use Rattle.rules.specs.Delta as rule
use Rattle.rules.specs.Digest.{write_bytes}
use Rattle.rules.specs.Listing.{ascii, decimal, list_delta, line_feed, listing, listing_of}
use Rattle.rules.specs.declared.Refusal.{Refusal}
use Rattle.rules.specs.declared.Refusal.TheVariants.{NoPlace}
use Rattle.std.specs.Prelude.{Err, Ok, Result}
use Rattle.rules.specs.declared.DeltaFault.{DeltaFault}
use Rattle.rules.specs.declared.DeltaRead.{DeltaRead}
use Rattle.rules.proofs.Results.{err-is, ok-is}
use Rattle.std.specs.Result.{is_err}
use Rattle.std.proofs.lemmas.Bool.{false≢true}
use Rattle.delta_op.proofs.Plain.{good-plain}
use Rattle.listing_text.proofs.Texts.{decimal-long}
use Rattle.listing_ops.specs.Lines.{lines_from}
use Rattle.listing_ops.proofs.Lines.{lines-most}
use Rattle.listing.specs.Shapes.{cut_text, fault_text, good_text, longest_listing, refused_text}

-- ---- by what reading has answered

pub listing-good : (l : List ℕ) (x : DeltaRead) → rule.delta_read l ≡ Ok x → (listing l ≡ good_text l x.ops) × (length l ≤ max_delta)
unfolding rule.delta_read listing listing_of good_text lines_from
listing-good l x e = go (rule.read_delta l) refl e
  where
    go : (y : rule.Ops) → rule.read_delta l ≡ y → rule.read_answer y ≡ Ok x → (listing_of y (length l) ≡ good_text l x.ops) × (length l ≤ max_delta)
    go (rule.Good os) q a =
        let p = good-plain l os q in
        let k : length os ≡ x.ops = ap (λ (z : DeltaRead). z.ops) (ok-is _ _ a) in
        (rw (← k, ← p.0), p.1)
    go (rule.Faulty r at) q a = absurd (false≢true (sym (ap is_err a)))

pub listing-refused : (l : List ℕ) (x : DeltaFault) → rule.delta_read l ≡ Err x → listing l ≡ refused_text (number_of x.why) x.at (need_of x.why)
unfolding rule.delta_read listing listing_of fault_text cut_text
listing-refused l x e = go (rule.read_delta l) e
  where
    with-need : (r : Refusal) (at : ℕ) (t : Bool)
        → ascii "end=refused code=" ++ (decimal (number_of r) ++ (ascii " at=" ++ (decimal at ++ (pick t (ascii " need=" ++ decimal (need_of r)) [] ++ line_feed))))
        ≡ pick t (cut_text (number_of r) at (need_of r)) (fault_text (number_of r) at)
    with-need r at true = refl
    with-need r at false = refl

    go : (y : rule.Ops) → rule.read_answer y ≡ Err x → listing_of y (length l) ≡ refused_text (number_of x.why) x.at (need_of x.why)
    go (rule.Good os) a = absurd (false≢true (ap is_err a))
    go (rule.Faulty r at) a =
        with-need r at (eqb (number_of r) 9)
        ∙ ap (λ (z : DeltaFault). refused_text (number_of z.why) z.at (need_of z.why)) (err-is _ _ a)

-- ---- a text at the front of a buffer

module _ (text l : List ℕ) where
  pub front-none : length l < length text → Gives (write_bytes text 0 l) (Err NoPlace) l
  front-none h =
      let a = le-leb 0 (length l) (omega arith) in
      let b = lt-leb (length text) (length l - 0) (omega arith) in
      (rw (a, b), rw (a, b))

  pub front-whole : (n : ℕ) (m : List ℕ) → length text ≤ length l → n ≡ length text → m ≡ put 0 text l → Gives (write_bytes text 0 l) (Ok n) m
  front-whole n m h p q =
      let a = le-leb 0 (length l) (omega arith) in
      let b = le-leb (length text) (length l - 0) (omega arith) in
      (rw (a, b, p), rw (a, b, q))

pub fault-long : (code at : ℕ) → length (fault_text code at) ≡ 22 + length (decimal code) + length (decimal at)
unfolding fault_text
fault-long code at = simp length-append (omega arith)

pub cut-long : (code at need : ℕ) → length (cut_text code at need) ≡ 28 + length (decimal code) + length (decimal at) + length (decimal need)
unfolding cut_text
cut-long code at need = simp length-append (omega arith)

refused-most : (code at need : ℕ) → length (refused_text code at need) ≤ 88
refused-most code at need = go (eqb code 9)
  where
    go : (t : Bool) → length (pick t (cut_text code at need) (fault_text code at)) ≤ 88
    go true = omega (arith, cut-long code at need, decimal-long code, decimal-long at, decimal-long need)
    go false = omega (arith, fault-long code at, decimal-long code, decimal-long at)

pub good-long : (l : List ℕ) (ops : ℕ) → length (good_text l ops) ≡ length (lines_from l 0) + 19 + length (decimal ops) + length (decimal (length l))
unfolding good_text
good-long l ops = simp length-append (omega arith)

-- ---- how long a listing is at most

pub listing-most : (l : List ℕ) → length (listing l) ≤ longest_listing
listing-most l = go (rule.delta_read l) refl
  where
    go : (r : Result DeltaRead DeltaFault) → rule.delta_read l ≡ r → length (listing l) ≤ longest_listing
    go (Ok x) e =
        let g = listing-good l x e in
        omega (arith, ap length g.0, g.1, good-long l x.ops, lines-most (length l) 0 l (omega arith), decimal-long x.ops, decimal-long (length l))
    go (Err x) e = omega (arith, ap length (listing-refused l x e), refused-most (number_of x.why) x.at (need_of x.why))

-- so a buffer of that size is never refused, and the answer is within it
module _ (l out : List ℕ) (h : longest_listing ≤ length out) where
  answered : (list_delta l out).answer ≡ Ok (length (listing l))
  answered =
      let most = listing-most l in
      rw (le-leb 0 (length out) (omega arith), le-leb (length (listing l)) (length out - 0) (omega arith))

  pub front_fits : (r : Refusal) → (list_delta l out).answer ≡ Err r → ⊥
  front_fits r e = false≢true (ap is_err (sym answered ∙ e))

  pub front-within : (k : ℕ) → (list_delta l out).answer ≡ Ok k → k ≤ length out
  front-within k e = omega (arith, listing-most l, ok-is _ _ (sym answered ∙ e))
