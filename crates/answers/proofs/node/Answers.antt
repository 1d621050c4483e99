-- `answers::node` meets its contract, case by case. Assumes nothing.
use Prim.Native.Nat.{ℕ}
use mathlib.Core.Path.{ap, sym, ◌∙◌}
use mathlib.Core.List.{[]}
use Rattle.inspect.specs.Told.{node_number_told}
use Rattle.std.specs.Prelude.{Result}
use Rattle.rules.specs.declared.Refusal.{Refusal}
use Rattle.answers.specs.Shown.{node_shown}
use Rattle.answers.proofs.node.Goals as goal

pub returns-in-Ok : goal.returns-in-Ok
unfolding node_number_told
returns-in-Ok c =
    sym (ap (λ (a : (Result ℕ Refusal)). node_shown (node_number_told a)) c.in-Ok.is)

pub returns-in-Err : goal.returns-in-Err
unfolding node_number_told
returns-in-Err c =
    ap (λ (k : ℕ). node_shown (record { number = k; values = []; need = 0 })) c.number.ensures
    ∙ sym (ap (λ (a : (Result ℕ Refusal)). node_shown (node_number_told a)) c.in-Err.is)
