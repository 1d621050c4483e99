-- The number and the values that are told of a merged listing tell it. Assumes nothing.
use mathlib.Core.Path.{◌≡◌, ap, ap₂, sym}
use Rattle.rules.proofs.Told.{number_is, value-is, need-is, not-refused, same-refusal}
use Rattle.overrides.proofs.Both.{same-which}
use Rattle.over_list.specs.Told.{listed_over_told}
use Rattle.std.specs.Prelude.{Err, Ok, Result, ℕ}
use Rattle.overrides.specs.declared.RefusedOver.{RefusedOver}

pub same-listed-over : (a b : (Result ℕ RefusedOver)) → listed_over_told a ≡ listed_over_told b → a ≡ b
unfolding listed_over_told
same-listed-over (Ok n) (Ok m) e = ap Ok (value-is e 0)
same-listed-over (Ok n) (Err rr) e = not-refused rr.why (number_is e)
same-listed-over (Err r) (Ok m) e = not-refused r.why (sym (number_is e))
same-listed-over (Err rr) (Err rrr) e = ap₂ (λ a b. Err (record { which = a; why = b })) (same-which rr.which rrr.which (value-is e 0)) (same-refusal rr.why rrr.why (number_is e) (need-is e))
