-- The form of a promise (specs/Given) admits one outcome: no second answer, and no second content of what is lent, meets it. So this holds of every
-- contract that cites the form. A contract that gives the answer alone, or the lent memory alone, is one equation, and one equation admits one side.
-- Assumes nothing.
use mathlib.Core.Path.{◌∙◌, ◌≡◌, ap, sym}
use Rattle.rules.specs.Answers.{Told}
use Rattle.rules.specs.Given.{Given, Gives, Says, Tells}

pub one_answer : {A : Type 0} (f : A) {a b : A} → a ≡ f → b ≡ f → a ≡ b
one_answer f p q = p ∙ sym q

pub one-outcome : {A M : Type 0} (of : Given A M) {a b : A} {m n : M} → Gives of a m → Gives of b n → (a ≡ b) × (m ≡ n)
one-outcome of p q = (one_answer of.answer p.0 q.0, one_answer of.lent p.1 q.1)

-- ---- the promises of the entry points, in numbers and values

-- what a function gives, in numbers and values
pub tells : {A X : Type 0} (told : A → Told) {a b : A} → (a ≡ b) × X → (told a ≡ told b) × X
tells told p = (ap told p.0, p.1)

-- Where the numbers and values tell the answer (proofs/Told, for every type of answers), they promise no less than the answer itself.
module _ {A : Type 0} (told : A → Told) (same : (a b : A) → told a ≡ told b → a ≡ b) where
  pub one-said : (of : A) {a b : A} → Says told of a → Says told of b → a ≡ b
  one-said of {a} {b} p q = same a b (p ∙ sym q)

  pub one_told : {M : Type 0} (of : Given A M) {a b : A} {m n : M} → Tells told of a m → Tells told of b n → (a ≡ b) × (m ≡ n)
  one_told of {a} {b} p q = (one-said of.answer p.0 q.0, one_answer of.lent p.1 q.1)
