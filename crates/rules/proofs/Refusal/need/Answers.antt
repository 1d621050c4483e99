-- `rules::Refusal::need` meets its contract: every number but 9 lacks nothing. Assumes nothing.
use Prim.Native.Nat.{ℕ}
use mathlib.Core.Path.{◌≡◌, ap, sym, refl}
use Rattle.rules.specs.Answers.{need_of}
use Rattle.rules.specs.declared.Refusal.{Refusal}
use Rattle.rules.specs.declared.Refusal.TheVariants.{Cut}
use Rattle.rules.proofs.Refusal.need.Goals as goal

nothing-lacks : (r : Refusal) → ((n : ℕ) → r ≡ Cut n → ⊥) → 0 ≡ need_of r
nothing-lacks (Cut n) h = absurd (h n refl)
nothing-lacks r h = refl

pub returns-in-Cut : goal.returns-in-Cut
returns-in-Cut c =
    sym (ap need_of c.in-Cut.is)

pub returns-in_default : goal.returns-in_default
returns-in_default c =
    nothing-lacks c.args.self c.in_default.not-Cut
