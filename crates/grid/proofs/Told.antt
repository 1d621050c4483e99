-- The number and the values that are told of an answer tell it. Assumes nothing.
use mathlib.Core.Path.{◌≡◌, refl, ap, ap₂, sym}
use native.Mathlib.Omega.{arith}
use Rattle.rules.proofs.Told.{number_is, value-is, values-long, need-is, not-refused, same-refusal}
use Rattle.grid.specs.LentGrid.{least_told, seen_told}
use Rattle.std.specs.Prelude.{Err, None, Ok, Option, Result, Some, ℕ}
use Rattle.rules.specs.declared.Pair.{Pair}
use Rattle.rules.specs.declared.Refusal.{Refusal}

pub same-least : (a b : (Result ℕ Refusal)) → least_told a ≡ least_told b → a ≡ b
unfolding least_told
same-least (Ok n) (Ok m) e = ap Ok (value-is e 0)
same-least (Ok n) (Err r) e = not-refused r (number_is e)
same-least (Err r) (Ok n) e = not-refused r (sym (number_is e))
same-least (Err r) (Err s) e = ap Err (same-refusal r s (number_is e) (need-is e))

pub same_seen : (a b : (Result (Option Pair) Refusal)) → seen_told a ≡ seen_told b → a ≡ b
unfolding seen_told
same_seen (Ok (Some p)) (Ok (Some pp)) e = ap₂ (λ a b. Ok (Some (record { last_gc = a; max = b }))) (value-is e 0) (value-is e 1)
same_seen (Ok (Some p)) (Ok None) e = absurd (omega (arith, values-long e))
same_seen (Ok (Some p)) (Err r) e = not-refused r (number_is e)
same_seen (Ok None) (Ok (Some p)) e = absurd (omega (arith, values-long e))
same_seen (Ok None) (Ok None) e = refl
same_seen (Ok None) (Err r) e = not-refused r (number_is e)
same_seen (Err r) (Ok (Some p)) e = not-refused r (sym (number_is e))
same_seen (Err r) (Ok None) e = not-refused r (sym (number_is e))
same_seen (Err r) (Err s) e = ap Err (same-refusal r s (number_is e) (need-is e))
