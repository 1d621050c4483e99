-- `answers::rows` meets its contract, case by case. Assumes nothing.
use Prim.Native.Nat.{ℕ}
use mathlib.Core.Path.{ap, sym, ◌∙◌}
use mathlib.Core.List.{[]}
use Rattle.inspect.specs.Told.{rows_told}
use Rattle.std.specs.Prelude.{Result}
use Rattle.inspect.specs.declared.Rows.{Rows}
use Rattle.rules.specs.declared.Refusal.{Refusal}
use Rattle.answers.specs.Shown.{rows_shown}
use Rattle.answers.proofs.rows.Goals as goal

pub returns-in-Ok : goal.returns-in-Ok
unfolding rows_told
returns-in-Ok c =
    sym (ap (λ (a : (Result Rows Refusal)). rows_shown (rows_told a)) c.in-Ok.is)

pub returns-in-Err : goal.returns-in-Err
unfolding rows_told
returns-in-Err c =
    ap (λ (k : ℕ). rows_shown (record { number = k; values = []; need = 0 })) c.number.ensures
    ∙ sym (ap (λ (a : (Result Rows Refusal)). rows_shown (rows_told a)) c.in-Err.is)
