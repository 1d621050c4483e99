-- `answers::found` meets its contract, case by case. Assumes nothing.
use Prim.Native.Nat.{ℕ}
use mathlib.Core.Path.{◌≡◌, ap, sym, ◌∙◌}
use mathlib.Core.List.{[]}
use Rattle.lookup.specs.Told.{found_told}
use Rattle.std.specs.Prelude.{None, Ok, Option, Result, Some}
use Rattle.lookup.specs.declared.Found.{Found}
use Rattle.rules.specs.declared.Refusal.{Refusal}
use Rattle.answers.specs.Shown.{found_shown}
use Rattle.answers.proofs.found.Goals as goal

pub returns-in-Ok-Some : goal.returns-in-Ok-Some
unfolding found_told
returns-in-Ok-Some c =
    let f : c.in-Ok-Some.field-0 ≡ Some c.in-Ok-Some.text = rw c.in-Ok-Some.is at c.in-Ok-Some.field-0-is in
    sym (ap (λ (a : (Result (Option Found) Refusal)). found_shown (found_told a)) (c.in-Ok-Some.is ∙ ap Ok f))

pub returns-in-Ok-None : goal.returns-in-Ok-None
unfolding found_told
returns-in-Ok-None c =
    let f : c.in-Ok-None.field-0 ≡ None = rw c.in-Ok-None.is at c.in-Ok-None.field-0-is in
    sym (ap (λ (a : (Result (Option Found) Refusal)). found_shown (found_told a)) (c.in-Ok-None.is ∙ ap Ok f))

pub returns-in-Err : goal.returns-in-Err
unfolding found_told
returns-in-Err c =
    ap (λ (k : ℕ). found_shown (record { number = k; values = []; need = 0 })) c.number.ensures
    ∙ sym (ap (λ (a : (Result (Option Found) Refusal)). found_shown (found_told a)) c.in-Err.is)
