-- `answers::hits_over` meets its contract, case by case. Assumes nothing.
use Prim.Native.Nat.{ℕ}
use mathlib.Core.Path.{ap, ap₂, sym, ◌∙◌}
use Rattle.over_list.specs.Told.{listed_over_told}
use Rattle.std.specs.Prelude.{Result}
use Rattle.overrides.specs.declared.RefusedOver.{RefusedOver}
use Rattle.answers.specs.Shown.{listed_over_shown}
use Rattle.answers.proofs.Shown.{listed-over-refused}
use Rattle.answers.proofs.hits_over.Goals as goal

pub returns-in-Ok : goal.returns-in-Ok
unfolding listed_over_told
returns-in-Ok c =
    sym (ap (λ (a : (Result ℕ RefusedOver)). listed_over_shown (listed_over_told a)) c.in-Ok.is)

pub returns-in-Err : goal.returns-in-Err
returns-in-Err c =
    ap₂ (λ (k w : ℕ). record { number = k; count = 0; which = w }) c.number.ensures c.code.ensures
    ∙ listed-over-refused c.in-Err.field-0.which c.in-Err.field-0.why
    ∙ sym (ap (λ (a : (Result ℕ RefusedOver)). listed_over_shown (listed_over_told a)) c.in-Err.is)
