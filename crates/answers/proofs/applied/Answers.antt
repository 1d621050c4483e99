-- `answers::applied` meets its contract, case by case. Assumes nothing.
use Prim.Native.Nat.{ℕ}
use mathlib.Core.Path.{ap, ap₂, sym, ◌∙◌}
use Rattle.rules.specs.Answers.{applied_told}
use Rattle.std.specs.Prelude.{Result}
use Rattle.rules.specs.declared.DeltaFault.{DeltaFault}
use Rattle.answers.specs.Shown.{applied_shown}
use Rattle.answers.proofs.Shown.{applied-refused}
use Rattle.answers.proofs.applied.Goals as goal

pub returns-in-Ok : goal.returns-in-Ok
unfolding applied_told
returns-in-Ok c =
    sym (ap (λ (a : (Result ℕ DeltaFault)). applied_shown (applied_told a)) c.in-Ok.is)

pub returns-in-Err : goal.returns-in-Err
unfolding applied_told
returns-in-Err c =
    ap₂ (λ (k n : ℕ). record { number = k; nodes = 0; at = c.in-Err.field-0.at; need = n }) c.number.ensures c.need.ensures
    ∙ applied-refused c.in-Err.field-0.why c.in-Err.field-0.at
    ∙ sym (ap (λ (a : (Result ℕ DeltaFault)). applied_shown (applied_told a)) c.in-Err.is)
