-- `answers_peers::told` meets its contract, case by case. Assumes nothing.
use Prim.Native.Nat.{ℕ}
use mathlib.Core.Path.{ap, ap₂, sym, ◌∙◌}
use mathlib.Core.List.{[]}
use Rattle.rules.specs.Answers.{answer_told}
use Rattle.std.specs.Prelude.{Result}
use Rattle.rules.specs.declared.Refusal.{Refusal}
use Rattle.answers_peers.specs.ShownPeers.{told_shown}
use Rattle.answers_peers.proofs.told.Goals as goal

pub returns-in-Ok : goal.returns-in-Ok
unfolding answer_told
returns-in-Ok c =
    sym (ap (λ (a : (Result (Unit {0}) Refusal)). told_shown (answer_told a)) c.in-Ok.is)

pub returns-in-Err : goal.returns-in-Err
unfolding answer_told
returns-in-Err c =
    ap₂ (λ (k n : ℕ). told_shown (record { number = k; values = []; need = n })) c.number.ensures c.need.ensures
    ∙ sym (ap (λ (a : (Result (Unit {0}) Refusal)). told_shown (answer_told a)) c.in-Err.is)
