-- The number and the values that are told of what a lookup finds tell it. Assumes nothing.
use mathlib.Core.Path.{◌≡◌, refl, ap, ap₂, sym}
use native.Mathlib.Omega.{arith}
use Rattle.rules.proofs.Told.{number_is, value-is, values-long, need-is, not-refused, same-refusal}
use Rattle.lookup.specs.Told.{found_told}
use Rattle.std.specs.Prelude.{Err, None, Ok, Option, Result, Some}
use Rattle.lookup.specs.declared.Found.{Found}
use Rattle.rules.specs.declared.Refusal.{Refusal}

pub same-found : (a b : (Result (Option Found) Refusal)) → found_told a ≡ found_told b → a ≡ b
unfolding found_told
same-found (Ok (Some f)) (Ok (Some ff)) e = ap₂ (λ a b. Ok (Some (record { start = a; len = b }))) (value-is e 0) (value-is e 1)
same-found (Ok (Some f)) (Ok None) e = absurd (omega (arith, values-long e))
same-found (Ok None) (Ok (Some f)) e = absurd (omega (arith, values-long e))
same-found (Ok None) (Ok None) e = refl
same-found (Ok (Some f)) (Err r) e = not-refused r (number_is e)
same-found (Ok None) (Err r) e = not-refused r (number_is e)
same-found (Err r) (Ok (Some f)) e = not-refused r (sym (number_is e))
same-found (Err r) (Ok None) e = not-refused r (sym (number_is e))
same-found (Err r) (Err s) e = ap Err (same-refusal r s (number_is e) (need-is e))
