-- The number and the values that are told of what is said of a plan tell it. Assumes nothing.
use Prim.Native.Nat.{ℕ}
use mathlib.Core.Path.{◌∙◌, ◌≡◌, ap, ap₂, refl, sym}
use native.Mathlib.Omega.{arith}
use lib.Dec.{eqb}
use Rattle.fields.specs.Choice.{pick}
use Rattle.rules.proofs.Told.{need-is, not-refused, number_is, same-refusal, value-is, values-long}
use Rattle.rules.specs.declared.Refusal.TheVariants.{BadPlan}
use Rattle.plan.specs.Faults.{fault_code, judged_told}
use Rattle.plan.specs.declared.Fault.{Fault}
use Rattle.plan.specs.declared.Fault.TheVariants.{Alone, Excluded, NamedBefore, NoFit, NotHeld, TooFew, TooMany, UpToDate}
use Rattle.std.specs.Prelude.{Err, Ok, Result}
use Rattle.plan.specs.declared.NotSent.{NotSent}
use Rattle.plan.specs.declared.NotSent.TheVariants as not_sent

-- the fault of a number
abbrev fault_of : ℕ → Fault
fault_of n =
    pick (eqb n 1) NotHeld
    (pick (eqb n 2) Excluded
    (pick (eqb n 3) NamedBefore (pick (eqb n 4) UpToDate (pick (eqb n 5) TooMany (pick (eqb n 6) TooFew (pick (eqb n 7) NoFit Alone))))))

coded : (f : Fault) → fault_of (fault_code f) ≡ f
coded NotHeld = refl
coded Excluded = refl
coded NamedBefore = refl
coded UpToDate = refl
coded TooMany = refl
coded TooFew = refl
coded NoFit = refl
coded Alone = refl

pub same-fault : (a b : Fault) → fault_code a ≡ fault_code b → a ≡ b
same-fault a b e = sym (coded a) ∙ ap fault_of e ∙ coded b

pub same-judged : (a b : (Result (Unit {0}) NotSent)) → judged_told a ≡ judged_told b → a ≡ b
unfolding judged_told
same-judged (Ok _) (Ok _) e = refl
same-judged (Ok _) (Err (not_sent.AtFault j f)) e = not-refused BadPlan (number_is e)
same-judged (Ok _) (Err (not_sent.Refused r)) e = not-refused r (number_is e)
same-judged (Err (not_sent.AtFault j f)) (Ok _) e = not-refused BadPlan (sym (number_is e))
same-judged (Err (not_sent.AtFault j f)) (Err (not_sent.AtFault k g)) e = ap₂ (λ a b. Err (not_sent.AtFault a b)) (value-is e 0) (same-fault f g (value-is e 1))
same-judged (Err (not_sent.AtFault j f)) (Err (not_sent.Refused r)) e = absurd (omega (arith, values-long e))
same-judged (Err (not_sent.Refused r)) (Ok _) e = not-refused r (sym (number_is e))
same-judged (Err (not_sent.Refused r)) (Err (not_sent.AtFault j f)) e = absurd (omega (arith, values-long e))
same-judged (Err (not_sent.Refused r)) (Err (not_sent.Refused s)) e = ap (λ a. Err (not_sent.Refused a)) (same-refusal r s (number_is e) (need-is e))
