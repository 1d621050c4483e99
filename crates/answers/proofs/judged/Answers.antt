-- `answers::judged` meets its contract, case by case. Assumes nothing.
use Prim.Native.Nat.{ℕ}
use mathlib.Core.List.{[], ◌∷◌}
use mathlib.Core.Path.{◌≡◌, ◌∙◌, ap, ap₂, sym}
use Rattle.plan.specs.Faults.{judged_told}
use Rattle.std.specs.Prelude.{Err, Result}
use Rattle.plan.specs.declared.NotSent.{NotSent}
use Rattle.answers.specs.Shown.{judged_shown}
use Rattle.plan.specs.declared.NotSent.TheVariants as not_sent
use Rattle.answers.proofs.judged.Goals as goal

pub returns-in-Ok : goal.returns-in-Ok
unfolding judged_told
returns-in-Ok c =
    sym (ap (λ (a : (Result (Unit {0}) NotSent)). judged_shown (judged_told a)) c.in-Ok.is)

pub returns-in-Err-AtFault : goal.returns-in-Err-AtFault
unfolding judged_told
returns-in-Err-AtFault c =
    let f : c.in-Err-AtFault.field-0 ≡ not_sent.AtFault c.in-Err-AtFault.line c.in-Err-AtFault.why = rw c.in-Err-AtFault.is at c.in-Err-AtFault.field-0-is in
    ap₂ (λ (k n : ℕ). judged_shown (record { number = k; values = c.in-Err-AtFault.line ∷ n ∷ []; need = 0 })) c.number.ensures c.code.ensures
    ∙ sym (ap (λ (a : (Result (Unit {0}) NotSent)). judged_shown (judged_told a)) (c.in-Err-AtFault.is ∙ ap Err f))

pub returns-in-Err-Refused : goal.returns-in-Err-Refused
unfolding judged_told
returns-in-Err-Refused c =
    let f : c.in-Err-Refused.field-0 ≡ not_sent.Refused c.in-Err-Refused.refusal = rw c.in-Err-Refused.is at c.in-Err-Refused.field-0-is in
    ap₂ (λ (k n : ℕ). judged_shown (record { number = k; values = []; need = n })) c.number-in-Err-Refused.ensures c.need.ensures
    ∙ sym (ap (λ (a : (Result (Unit {0}) NotSent)). judged_shown (judged_told a)) (c.in-Err-Refused.is ∙ ap Err f))
