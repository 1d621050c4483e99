-- `answers::found_over` meets its contract, case by case. Assumes nothing.
use Prim.Native.Nat.{ℕ}
use mathlib.Core.Path.{◌≡◌, ap, ap₂, sym, ◌∙◌}
use Rattle.over_find.specs.Told.{found_over_told}
use Rattle.std.specs.Prelude.{None, Ok, Option, Result, Some}
use Rattle.over_find.specs.declared.FoundOver.{FoundOver}
use Rattle.overrides.specs.declared.RefusedOver.{RefusedOver}
use Rattle.answers.specs.Shown.{found_over_shown}
use Rattle.answers.proofs.Shown.{found-over-refused}
use Rattle.over_find.specs.declared.FoundOver.TheVariants as over
use Rattle.answers.proofs.found_over.Goals as goal

pub returns-in-Ok-Some-InOverrides : goal.returns-in-Ok-Some-InOverrides
unfolding found_over_told
returns-in-Ok-Some-InOverrides c =
    let f : c.in-Ok-Some-InOverrides.field-0 ≡ Some c.in-Ok-Some-InOverrides.field-0-0 = rw c.in-Ok-Some-InOverrides.is at c.in-Ok-Some-InOverrides.field-0-is in
    let g : c.in-Ok-Some-InOverrides.field-0-0 ≡ over.InOverrides c.in-Ok-Some-InOverrides.start c.in-Ok-Some-InOverrides.len = rw (c.in-Ok-Some-InOverrides.is, f) at c.in-Ok-Some-InOverrides.field-0-0-is in
    sym (ap (λ (a : (Result (Option FoundOver) RefusedOver)). found_over_shown (found_over_told a)) (c.in-Ok-Some-InOverrides.is ∙ ap Ok (f ∙ ap Some g)))

pub returns-in-Ok-Some-InTable : goal.returns-in-Ok-Some-InTable
unfolding found_over_told
returns-in-Ok-Some-InTable c =
    let f : c.in-Ok-Some-InTable.field-0 ≡ Some c.in-Ok-Some-InTable.field-0-0 = rw c.in-Ok-Some-InTable.is at c.in-Ok-Some-InTable.field-0-is in
    let g : c.in-Ok-Some-InTable.field-0-0 ≡ over.InTable c.in-Ok-Some-InTable.start c.in-Ok-Some-InTable.len = rw (c.in-Ok-Some-InTable.is, f) at c.in-Ok-Some-InTable.field-0-0-is in
    sym (ap (λ (a : (Result (Option FoundOver) RefusedOver)). found_over_shown (found_over_told a)) (c.in-Ok-Some-InTable.is ∙ ap Ok (f ∙ ap Some g)))

pub returns-in-Ok-None : goal.returns-in-Ok-None
unfolding found_over_told
returns-in-Ok-None c =
    let f : c.in-Ok-None.field-0 ≡ None = rw c.in-Ok-None.is at c.in-Ok-None.field-0-is in
    sym (ap (λ (a : (Result (Option FoundOver) RefusedOver)). found_over_shown (found_over_told a)) (c.in-Ok-None.is ∙ ap Ok f))

pub returns-in-Err : goal.returns-in-Err
returns-in-Err c =
    ap₂ (λ (k w : ℕ). record { number = k; found = 0; over = 0; start = 0; len = 0; which = w }) c.number.ensures c.code.ensures
    ∙ found-over-refused c.in-Err.field-0.which c.in-Err.field-0.why
    ∙ sym (ap (λ (a : (Result (Option FoundOver) RefusedOver)). found_over_shown (found_over_told a)) c.in-Err.is)
