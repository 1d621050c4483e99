-- `answers::computed` meets its contract, case by case. Assumes nothing.
use Prim.Native.Nat.{ℕ}
use mathlib.Core.Path.{ap, ap₂, sym, ◌∙◌}
use mathlib.Core.List.{[]}
use Rattle.rules.specs.Answers.{computed_told}
use Rattle.std.specs.Prelude.{Result}
use Rattle.rules.specs.declared.Refusal.{Refusal}
use Rattle.rules.specs.declared.Sent.{Sent}
use Rattle.answers.specs.Shown.{computed_shown}
use Rattle.answers.proofs.computed.Goals as goal

pub returns-in-Ok : goal.returns-in-Ok
unfolding computed_told
returns-in-Ok c =
    sym (ap (λ (a : (Result Sent Refusal)). computed_shown (computed_told a)) c.in-Ok.is)

pub returns-in-Err : goal.returns-in-Err
unfolding computed_told
returns-in-Err c =
    ap₂ (λ (k n : ℕ). computed_shown (record { number = k; values = []; need = n })) c.number.ensures c.need.ensures
    ∙ sym (ap (λ (a : (Result Sent Refusal)). computed_shown (computed_told a)) c.in-Err.is)
