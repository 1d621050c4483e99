-- `answers::made` meets its contract, case by case. Assumes nothing.
use Prim.Native.Nat.{ℕ}
use mathlib.Core.Path.{◌≡◌, ap, ap₂, sym, ◌∙◌}
use Rattle.std.specs.Prelude.{Err, Result}
use Rattle.delta_make.specs.declared.NotMade.{NotMade}
use Rattle.listing_make.specs.Make.{made_told}
use Rattle.answers.specs.Shown.{made_shown}
use Rattle.answers.proofs.Shown.{made-refused}
use Rattle.delta_make.specs.declared.NotMade.TheVariants as not_made
use Rattle.answers.proofs.made.Goals as goal

pub returns-in-Ok : goal.returns-in-Ok
unfolding made_told
returns-in-Ok c =
    sym (ap (λ (a : (Result ℕ NotMade)). made_shown (made_told a)) c.in-Ok.is)

pub returns-in-Err-BadLine : goal.returns-in-Err-BadLine
unfolding made_told
returns-in-Err-BadLine c =
    let f : c.in-Err-BadLine.field-0 ≡ not_made.BadLine c.in-Err-BadLine.line = rw c.in-Err-BadLine.is at c.in-Err-BadLine.field-0-is in
    sym (ap (λ (a : (Result ℕ NotMade)). made_shown (made_told a)) (c.in-Err-BadLine.is ∙ ap Err f))

pub returns-in-Err-Refused : goal.returns-in-Err-Refused
returns-in-Err-Refused c =
    let f : c.in-Err-Refused.field-0 ≡ not_made.Refused c.in-Err-Refused.fault = rw c.in-Err-Refused.is at c.in-Err-Refused.field-0-is in
    ap₂ (λ (k n : ℕ). record { number = k; bytes = 0; line = 0; at = c.in-Err-Refused.fault.at; need = n }) c.number.ensures c.need.ensures
    ∙ made-refused c.in-Err-Refused.fault.why c.in-Err-Refused.fault.at
    ∙ sym (ap (λ (a : (Result ℕ NotMade)). made_shown (made_told a)) (c.in-Err-Refused.is ∙ ap Err f))
