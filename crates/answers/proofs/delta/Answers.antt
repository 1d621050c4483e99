-- `answers::delta` meets its contract, case by case. Assumes nothing.
use Prim.Native.Nat.{ℕ}
use mathlib.Core.Path.{ap, ap₂, sym, ◌∙◌}
use Rattle.rules.specs.Answers.{read_told}
use Rattle.std.specs.Prelude.{Result}
use Rattle.rules.specs.declared.DeltaFault.{DeltaFault}
use Rattle.rules.specs.declared.DeltaRead.{DeltaRead}
use Rattle.answers.specs.Shown.{delta_shown}
use Rattle.answers.proofs.Shown.{delta-refused}
use Rattle.answers.proofs.delta.Goals as goal

pub returns-in-Ok : goal.returns-in-Ok
unfolding read_told
returns-in-Ok c =
    sym (ap (λ (a : (Result DeltaRead DeltaFault)). delta_shown (read_told a)) c.in-Ok.is)

pub returns-in-Err : goal.returns-in-Err
unfolding read_told
returns-in-Err c =
    ap₂ (λ (k n : ℕ). record { number = k; ops = 0; nodes = 0; at = c.in-Err.field-0.at; need = n }) c.number.ensures c.need.ensures
    ∙ delta-refused c.in-Err.field-0.why c.in-Err.field-0.at
    ∙ sym (ap (λ (a : (Result DeltaRead DeltaFault)). delta_shown (read_told a)) c.in-Err.is)
