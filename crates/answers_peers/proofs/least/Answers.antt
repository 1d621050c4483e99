-- `answers_peers::least` meets its contract, case by case. Assumes nothing.
use Prim.Native.Nat.{ℕ}
use mathlib.Core.Path.{ap, sym, ◌∙◌}
use mathlib.Core.List.{[]}
use Rattle.grid.specs.LentGrid.{least_told}
use Rattle.std.specs.Prelude.{Result}
use Rattle.rules.specs.declared.Refusal.{Refusal}
use Rattle.answers_peers.specs.ShownPeers.{least_shown}
use Rattle.answers_peers.proofs.least.Goals as goal

pub returns-in-Ok : goal.returns-in-Ok
unfolding least_told
returns-in-Ok c =
    sym (ap (λ (a : (Result ℕ Refusal)). least_shown (least_told a)) c.in-Ok.is)

pub returns-in-Err : goal.returns-in-Err
unfolding least_told
returns-in-Err c =
    ap (λ (k : ℕ). least_shown (record { number = k; values = []; need = 0 })) c.number.ensures
    ∙ sym (ap (λ (a : (Result ℕ Refusal)). least_shown (least_told a)) c.in-Err.is)
