-- `answers::number` meets its contract, case by case. Assumes nothing.
use Prim.Native.Nat.{ℕ}
use mathlib.Core.Path.{ap, sym, ◌∙◌}
use mathlib.Core.List.{[]}
use Rattle.rules.specs.Answers.{answer_told}
use Rattle.std.specs.Prelude.{Result}
use Rattle.rules.specs.declared.Refusal.{Refusal}
use Rattle.answers.specs.Shown.{number_shown}
use Rattle.answers.proofs.number.Goals as goal

pub returns-in-Ok : goal.returns-in-Ok
unfolding answer_told
returns-in-Ok c =
    sym (ap (λ (a : (Result (Unit {0}) Refusal)). number_shown (answer_told a)) c.in-Ok.is)

pub returns-in-Err : goal.returns-in-Err
unfolding answer_told
returns-in-Err c =
    ap (λ (k : ℕ). number_shown (record { number = k; values = []; need = 0 })) c.number.ensures
    ∙ sym (ap (λ (a : (Result (Unit {0}) Refusal)). number_shown (answer_told a)) c.in-Err.is)
