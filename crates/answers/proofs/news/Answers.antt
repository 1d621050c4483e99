-- `answers::news` meets its contract, case by case. Assumes nothing.
use Prim.Native.Nat.{ℕ}
use mathlib.Core.Path.{ap, sym, ◌∙◌}
use mathlib.Core.List.{[]}
use Rattle.rules.specs.Answers.{offered_told}
use Rattle.std.specs.Prelude.{Bool, Ok, Result}
use Rattle.rules.specs.declared.Refusal.{Refusal}
use Rattle.answers.specs.Shown.{count_shown}
use Rattle.answers.proofs.news.Goals as goal

pub returns-in-Ok-true : goal.returns-in-Ok-true
unfolding offered_told
returns-in-Ok-true c =
    sym (ap (λ (a : (Result Bool Refusal)). count_shown (offered_told a)) (c.in-Ok-true.is ∙ ap Ok c.in-Ok-true.field-0-test))

pub returns-in-Ok-false : goal.returns-in-Ok-false
unfolding offered_told
returns-in-Ok-false c =
    sym (ap (λ (a : (Result Bool Refusal)). count_shown (offered_told a)) (c.in-Ok-false.is ∙ ap Ok c.in-Ok-false.field-0-test))

pub returns-in-Err : goal.returns-in-Err
unfolding offered_told
returns-in-Err c =
    ap (λ (k : ℕ). count_shown (record { number = k; values = []; need = 0 })) c.number.ensures
    ∙ sym (ap (λ (a : (Result Bool Refusal)). count_shown (offered_told a)) c.in-Err.is)
