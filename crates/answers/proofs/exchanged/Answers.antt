-- `answers::exchanged` meets its contract, case by case. Assumes nothing.
use Prim.Native.Nat.{ℕ}
use mathlib.Core.Path.{ap, ap₂, sym, ◌∙◌}
use Rattle.exchange.specs.Exchanging.{exchanged_told}
use Rattle.std.specs.Prelude.{Result}
use Rattle.exchange.specs.declared.Exchanged.{Exchanged}
use Rattle.exchange_ask.specs.declared.Stopped.{Stopped}
use Rattle.answers.specs.Shown.{exchanged_shown}
use Rattle.answers.proofs.Shown.{exchanged-refused}
use Rattle.answers.proofs.exchanged.Goals as goal

pub returns-in-Ok : goal.returns-in-Ok
unfolding exchanged_told
returns-in-Ok c =
    sym (ap (λ (a : (Result Exchanged Stopped)). exchanged_shown (exchanged_told a)) c.in-Ok.is)

pub returns-in-Err : goal.returns-in-Err
unfolding exchanged_told
returns-in-Err c =
    ap₂ (λ (k s : ℕ). record { number = k; ops = 0; bytes = 0; nodes = 0; step = s }) c.number.ensures c.step_code.ensures
    ∙ exchanged-refused c.in-Err.field-0.step c.in-Err.field-0.why
    ∙ sym (ap (λ (a : (Result Exchanged Stopped)). exchanged_shown (exchanged_told a)) c.in-Err.is)
