-- `answers::header` meets its contract, case by case. Assumes nothing.
use Prim.Native.Nat.{ℕ}
use mathlib.Core.Path.{ap, sym, ◌∙◌}
use mathlib.Core.List.{[]}
use Rattle.inspect.specs.Told.{node_header_told}
use Rattle.std.specs.Prelude.{Result}
use Rattle.rules.specs.declared.Header.{Header}
use Rattle.rules.specs.declared.Refusal.{Refusal}
use Rattle.answers.specs.Shown.{header_shown}
use Rattle.answers.proofs.header.Goals as goal

pub returns-in-Ok : goal.returns-in-Ok
unfolding node_header_told
returns-in-Ok c =
    sym (ap (λ (a : (Result Header Refusal)). header_shown (node_header_told a)) c.in-Ok.is)

pub returns-in-Err : goal.returns-in-Err
unfolding node_header_told
returns-in-Err c =
    ap (λ (k : ℕ). header_shown (record { number = k; values = []; need = 0 })) c.number.ensures
    ∙ sym (ap (λ (a : (Result Header Refusal)). header_shown (node_header_told a)) c.in-Err.is)
