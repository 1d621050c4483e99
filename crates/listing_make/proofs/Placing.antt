-- What the steps through a whole text come to, and what is placed then. Assumes nothing.
use Prim.Native.Nat.{ℕ, zero, suc, ◌≤◌, ◌<◌}
use mathlib.Core.Path.{◌≡◌, refl, ap, sym, ◌∙◌, subst}
use mathlib.Core.List.{[], ◌∷◌}
use native.Mathlib.Omega.{arith}
use lib.ListN.{length, take}
use lib.Seq.{length-take-le}
use lib.Dec.{leb}
use borrow.Author.Tests.{le-leb, lt-leb}
use Rattle.fields.specs.Numbers.{Bytes}
use Rattle.fields.specs.Parts.{put}
use Rattle.fields.proofs.Choice.{pick-false, pick_true}
use Rattle.rules.specs.Given.{Given, Gives, given}
use Rattle.rules.specs.Sizes.{max_delta, numbers}
use Rattle.rules.specs.declared.Refusal.TheVariants.{NoPlace}
use Rattle.listing_read.specs.Unlist.{Delta, Faulty, NotInForm, Unlisted, unlist}
use Rattle.rules.proofs.Results.{ok-is}
use Rattle.std.specs.Result.{is_err}
use Rattle.std.proofs.lemmas.Bool.{false≢true}
use Rattle.delta_make.specs.Making.{LineAndDelta, Outcome, both, finished, kept, longest_line, refused_at, started, taken_in}
use Rattle.delta_make.specs.declared.Making.{Making}
use Rattle.std.specs.Prelude.{Err, Ok, Result}
use Rattle.delta_make.specs.declared.NotMade.{NotMade}
use Rattle.delta_make.proofs.Whole.{made-of-text}
use Rattle.listing_make.specs.Make.{lent_unlisted, placed}

-- ---- placing

module _ (n : ℕ) (delta out : Bytes) (h : n ≤ length delta) where
  size : length (take n delta) ≡ n
  size = length-take-le n delta h

  pub no_room : length out < n → Gives (placed (take n delta) out) (refused_at NoPlace 0) out
  unfolding placed
  no_room g =
      let long : length out < length (take n delta) = omega (arith, size) in
      let e =
      pick-false (leb (length (take n delta)) (length out)) (given (Ok (length (take n delta))) (put 0 (take n delta) out))
      (given (refused_at NoPlace 0) out) (lt-leb (length (take n delta)) (length out) long) in
      (ap (λ (x : Given (Result ℕ NotMade) Bytes). x.answer) (sym e), ap (λ (x : Given (Result ℕ NotMade) Bytes). x.lent) (sym e))

  pub room : (left : Bytes) → n ≤ length out → left ≡ put 0 (take n delta) out → Gives (placed (take n delta) out) (Ok n) left
  unfolding placed
  room left g q =
      let fits : length (take n delta) ≤ length out = omega (arith, size) in
      let e =
      pick_true (leb (length (take n delta)) (length out)) (given (Ok (length (take n delta))) (put 0 (take n delta) out))
      (given (refused_at NoPlace 0) out) (le-leb (length (take n delta)) (length out) fits) in
      (ap Ok (sym size) ∙ ap (λ (x : Given (Result ℕ NotMade) Bytes). x.answer) (sym e), q ∙ ap (λ (x : Given (Result ℕ NotMade) Bytes). x.lent) (sym e))

-- ---- the steps

-- what the calls give is the outcome of the text
pub outcome : (t line delta : Bytes) (begun m : Making) (line-left delta-left : Bytes) (r : Result ℕ NotMade) → length t < numbers → longest_line ≤ length line
    → max_delta ≤ length delta → begun ≡ started → Gives (taken_in t (kept begun line delta)) m (both line-left delta-left) → r ≡ finished m delta-left
    → Outcome (unlist t) r delta-left
outcome t line delta begun m line-left delta-left r small p q e g f =
    let after : Given Making LineAndDelta = taken_in t (kept started line delta) in
    let is : taken_in t (kept begun line delta) ≡ after = ap (λ (x : Making). taken_in t (kept x line delta)) e in
    let m-is : m ≡ after.answer = g.0 ∙ ap (λ (x : Given Making LineAndDelta). x.answer) is in
    let left_is : delta-left ≡ after.lent.delta =
    ap (λ (x : LineAndDelta). x.delta) g.1 ∙ ap (λ (x : Given Making LineAndDelta). x.lent.delta) is in
    let r-is : r ≡ finished after.answer after.lent.delta =
    f ∙ ap (λ (x : Making). finished x delta-left) m-is ∙ ap (finished after.answer) left_is in
    subst (λ (x : Result ℕ NotMade). Outcome (unlist t) x delta-left) (sym r-is)
    (subst (λ (x : Bytes). Outcome (unlist t) (finished after.answer after.lent.delta) x) (sym left_is) (made-of-text t line delta small p q))

-- so many there are only where there are so many
front-there : (n : ℕ) (l : Bytes) → length (take n l) ≡ n → n ≤ length l
front-there zero l e = omega arith
front-there (suc n) [] e = absurd (omega arith)
front-there (suc n) (b ∷ l) e = let q = front-there n l (omega arith) in omega arith

-- ---- the answer

module _ (x : Unlisted) (r : Result ℕ NotMade) (delta out : Bytes) (o : Outcome x r delta) where
  abbrev Told : (n : ℕ) (y : Unlisted) → Type 0
  Told n y = (n ≤ length delta) × (y ≡ Delta (take n delta))

  bytes-told : (n : ℕ) → r ≡ Ok n → Told n x
  bytes-told n e = go x o
    where
      go : (y : Unlisted) → Outcome y r delta → Told n y
      go (Delta b) w =
          let same : n ≡ length b = ok-is _ _ (sym e ∙ w.0) in
          let front : take n delta ≡ b = ap (λ (k : ℕ). take k delta) same ∙ w.1 in
          (front-there n delta (ap length front ∙ sym same), ap Delta (sym front))
      go (NotInForm k) w = absurd (false≢true (ap is_err (sym e ∙ w)))
      go (Faulty why at) w = absurd (false≢true (ap is_err (sym e ∙ w)))

  pub made-within : (n : ℕ) → r ≡ Ok n → n ≤ length delta
  made-within n e = (bytes-told n e).0

  pub made_bytes : (n : ℕ) (answer : Result ℕ NotMade) (left : Bytes) → r ≡ Ok n → Gives (placed (take n delta) out) answer left → Gives (lent_unlisted x out) answer left
  made_bytes n answer left e g = subst (λ (y : Unlisted). Gives (lent_unlisted y out) answer left) (sym (bytes-told n e).1) g

  pub not-made : (why : NotMade) → r ≡ Err why → Gives (lent_unlisted x out) (Err why) out
  not-made why e = go x o
    where
      go : (y : Unlisted) → Outcome y r delta → Gives (lent_unlisted y out) (Err why) out
      go (Delta b) w = absurd (false≢true (ap is_err (sym w.0 ∙ e)))
      go (NotInForm n) w = (sym e ∙ w, refl)
      go (Faulty cause at) w = (sym e ∙ w, refl)
