-- `answers::count` meets its contract, case by case. Assumes nothing.
use Prim.Native.Nat.{ℕ}
use mathlib.Core.Path.{ap, sym, ◌∙◌}
use mathlib.Core.List.{[]}
use Rattle.inspect.specs.Told.{count_told}
use Rattle.std.specs.Prelude.{Result}
use Rattle.rules.specs.declared.Refusal.{Refusal}
use Rattle.answers.specs.Shown.{count_shown}
use Rattle.answers.proofs.count.Goals as goal

pub returns-in-Ok : goal.returns-in-Ok
unfolding count_told
returns-in-Ok c =
    sym (ap (λ (a : (Result ℕ Refusal)). count_shown (count_told a)) c.in-Ok.is)

pub returns-in-Err : goal.returns-in-Err
unfolding count_told
returns-in-Err c =
    ap (λ (k : ℕ). count_shown (record { number = k; values = []; need = 0 })) c.number.ensures
    ∙ sym (ap (λ (a : (Result ℕ Refusal)). count_shown (count_told a)) c.in-Err.is)
