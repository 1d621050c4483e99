-- The number and the values that are told of what a lookup over both finds tell it. Assumes nothing.
use mathlib.Core.Path.{◌≡◌, refl, ap₂, sym}
use native.Mathlib.Omega.{arith}
use Rattle.rules.proofs.Told.{number_is, value-is, values-long, need-is, not-refused, same-refusal}
use Rattle.overrides.proofs.Both.{same-which}
use Rattle.over_find.specs.Told.{found_over_told}
use Rattle.std.specs.Prelude.{Err, None, Ok, Option, Result, Some}
use Rattle.over_find.specs.declared.FoundOver.{FoundOver}
use Rattle.overrides.specs.declared.RefusedOver.{RefusedOver}
use Rattle.over_find.specs.declared.FoundOver.TheVariants as place

pub same-found-over : (a b : (Result (Option FoundOver) RefusedOver)) → found_over_told a ≡ found_over_told b → a ≡ b
unfolding found_over_told
same-found-over (Ok (Some (place.InOverrides s n))) (Ok (Some (place.InOverrides t m))) e = ap₂ (λ a b. Ok (Some (place.InOverrides a b))) (value-is e 1) (value-is e 2)
same-found-over (Ok (Some (place.InOverrides s n))) (Ok (Some (place.InTable t m))) e = absurd (omega (arith, value-is e 0))
same-found-over (Ok (Some (place.InOverrides s n))) (Ok None) e = absurd (omega (arith, values-long e))
same-found-over (Ok (Some (place.InOverrides s n))) (Err rr) e = not-refused rr.why (number_is e)
same-found-over (Ok (Some (place.InTable s n))) (Ok (Some (place.InOverrides t m))) e = absurd (omega (arith, value-is e 0))
same-found-over (Ok (Some (place.InTable s n))) (Ok (Some (place.InTable t m))) e = ap₂ (λ a b. Ok (Some (place.InTable a b))) (value-is e 1) (value-is e 2)
same-found-over (Ok (Some (place.InTable s n))) (Ok None) e = absurd (omega (arith, values-long e))
same-found-over (Ok (Some (place.InTable s n))) (Err rr) e = not-refused rr.why (number_is e)
same-found-over (Ok None) (Ok (Some (place.InOverrides t m))) e = absurd (omega (arith, values-long e))
same-found-over (Ok None) (Ok (Some (place.InTable t m))) e = absurd (omega (arith, values-long e))
same-found-over (Ok None) (Ok None) e = refl
same-found-over (Ok None) (Err rr) e = not-refused rr.why (number_is e)
same-found-over (Err r) (Ok (Some (place.InOverrides t m))) e = not-refused r.why (sym (number_is e))
same-found-over (Err r) (Ok (Some (place.InTable t m))) e = not-refused r.why (sym (number_is e))
same-found-over (Err r) (Ok None) e = not-refused r.why (sym (number_is e))
same-found-over (Err rr) (Err rrr) e = ap₂ (λ a b. Err (record { which = a; why = b })) (same-which rr.which rrr.which (value-is e 0)) (same-refusal rr.why rrr.why (number_is e) (need-is e))
