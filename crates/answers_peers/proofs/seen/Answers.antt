-- `answers_peers::seen` meets its contract, case by case. Assumes nothing.
use Prim.Native.Nat.{ℕ}
use mathlib.Core.Path.{◌≡◌, ap, sym, ◌∙◌}
use mathlib.Core.List.{[]}
use Rattle.grid.specs.LentGrid.{seen_told}
use Rattle.std.specs.Prelude.{None, Ok, Option, Result, Some}
use Rattle.rules.specs.declared.Pair.{Pair}
use Rattle.rules.specs.declared.Refusal.{Refusal}
use Rattle.answers_peers.specs.ShownPeers.{seen_shown}
use Rattle.answers_peers.proofs.seen.Goals as goal

pub returns-in-Ok-Some : goal.returns-in-Ok-Some
unfolding seen_told
returns-in-Ok-Some c =
    let f : c.in-Ok-Some.field-0 ≡ Some c.in-Ok-Some.row = rw c.in-Ok-Some.is at c.in-Ok-Some.field-0-is in
    sym (ap (λ (a : (Result (Option Pair) Refusal)). seen_shown (seen_told a)) (c.in-Ok-Some.is ∙ ap Ok f))

pub returns-in-Ok-None : goal.returns-in-Ok-None
unfolding seen_told
returns-in-Ok-None c =
    let f : c.in-Ok-None.field-0 ≡ None = rw c.in-Ok-None.is at c.in-Ok-None.field-0-is in
    sym (ap (λ (a : (Result (Option Pair) Refusal)). seen_shown (seen_told a)) (c.in-Ok-None.is ∙ ap Ok f))

pub returns-in-Err : goal.returns-in-Err
unfolding seen_told
returns-in-Err c =
    ap (λ (k : ℕ). seen_shown (record { number = k; values = []; need = 0 })) c.number.ensures
    ∙ sym (ap (λ (a : (Result (Option Pair) Refusal)). seen_shown (seen_told a)) c.in-Err.is)
