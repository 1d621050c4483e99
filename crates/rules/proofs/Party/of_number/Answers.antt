-- `rules::Party::of_number` meets its contract. Assumes nothing.
use Prim.Native.Nat.{ℕ}
use mathlib.Core.Bool.{Bool, true, false}
use mathlib.Core.Path.{◌≡◌, refl, sym, ap}
use lib.Dec.{eqb}
use borrow.Author.Tests.{eqb-true}
use Rattle.fields.specs.Choice.{pick}
use Rattle.rules.specs.Answers.{party_of}
use Rattle.rules.specs.declared.Party.TheVariants.{Metering, Building, Nobody}
use Rattle.rules.proofs.Party.of_number.Goals as goal

other : (n : ℕ) → (n ≡ 1 → ⊥) → (n ≡ 2 → ⊥) → Nobody ≡ party_of n
other n a b = go (eqb n 1) refl (eqb n 2) refl
  where
    go : (x : Bool) → eqb n 1 ≡ x → (y : Bool) → eqb n 2 ≡ y → Nobody ≡ pick x Metering (pick y Building Nobody)
    go true p y q = absurd (a (eqb-true n 1 p))
    go false p true q = absurd (b (eqb-true n 2 q))
    go false p false q = refl

pub returns-then-n-eq1 : goal.returns-then-n-eq1
returns-then-n-eq1 c =
    ap party_of (sym c.if-n-eq1.true)

pub returns-then-n-eq2 : goal.returns-then-n-eq2
returns-then-n-eq2 c =
    ap party_of (sym c.if-n-eq2.true)

pub returns : goal.returns
returns c =
    other c.args.n c.if-n-eq1.false c.if-n-eq2.false
