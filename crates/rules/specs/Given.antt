-- What a call gives: its answer, and what is lent to it as the call leaves it. One form serves every promise: a contract says that the answer and the
-- lent memory afterwards are those of one definition. That no second outcome fits is proved of the form (proofs/Unique), and so of every contract
-- that cites it.
use Rattle.std.specs.Prelude.{◌≡◌}
use Rattle.rules.specs.Answers.{Told}

-- an answer of type A, and the lent memory afterwards: bytes, a list, or several of them
pub record Given (A M : Type 0) : Type 0 where
  pub answer : A
  pub lent : M

abbrev pub given : {A M : Type 0} (answer : A) (lent : M) → Given A M
given a m = record { answer = a; lent = m }

-- the promise: this answer and this memory are what the call gives
abbrev pub Gives : {A M : Type 0} (of : Given A M) (answer : A) (lent : M) → Type 0
Gives of a m = (a ≡ of.answer) × (m ≡ of.lent)

-- The promise of an entry point, which a hub calls: the number and the values of this answer (Answers has them, case by case), and this memory, are
-- what the call gives. As they tell the answer (proofs/Told), there is no second answer here either.
abbrev pub Tells : {A M : Type 0} (told : A → Told) (of : Given A M) (answer : A) (lent : M) → Type 0
Tells told of a m = (told a ≡ told of.answer) × (m ≡ of.lent)

-- the same where nothing is lent that could change
abbrev pub Says : {A : Type 0} (told : A → Told) (of answer : A) → Type 0
Says told of a = told a ≡ told of
