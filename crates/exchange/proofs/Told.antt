-- The number and the values that are told of an exchange's answer tell it. Assumes nothing.
use Prim.Native.Nat.{ℕ}
use mathlib.Core.Path.{◌≡◌, refl, ap, ap₂, sym, ◌∙◌}
use native.Mathlib.Omega.{arith}
use Rattle.rules.proofs.Told.{number_is, value-is, need-is, not-refused, same-refusal}
use Rattle.exchange.specs.Exchanging.{exchanged_told, step_code}
use Rattle.exchange_ask.specs.declared.Step.{Step}
use Rattle.exchange_ask.specs.declared.Step.TheVariants.{Digest, Delta, Applying}
use Rattle.std.specs.Prelude.{Err, Ok, Result}
use Rattle.exchange.specs.declared.Exchanged.{Exchanged}
use Rattle.exchange_ask.specs.declared.Stopped.{Stopped}

same_step : (s t : Step) → step_code s ≡ step_code t → s ≡ t
same_step Digest Digest e = refl
same_step Delta Delta e = refl
same_step Applying Applying e = refl
same_step Digest Delta e = absurd (omega (arith, e))
same_step Digest Applying e = absurd (omega (arith, e))
same_step Delta Digest e = absurd (omega (arith, e))
same_step Delta Applying e = absurd (omega (arith, e))
same_step Applying Digest e = absurd (omega (arith, e))
same_step Applying Delta e = absurd (omega (arith, e))

pub same-exchanged : (a b : (Result Exchanged Stopped)) → exchanged_told a ≡ exchanged_told b → a ≡ b
unfolding exchanged_told
same-exchanged (Ok xx) (Ok xxx) e = ap₂ (λ (x y : ℕ). (Ok (record { ops = x; bytes = y; nodes = xx.nodes }))) (value-is e 0) (value-is e 1) ∙ ap (λ (n : ℕ). Ok (record { ops = xxx.ops; bytes = xxx.bytes; nodes = n })) (value-is e 2)
same-exchanged (Ok x) (Err s) e = not-refused s.why (number_is e)
same-exchanged (Err s) (Ok x) e = not-refused s.why (sym (number_is e))
same-exchanged (Err ss) (Err s) e = ap₂ (λ a b. Err (record { step = a; why = b })) (same_step ss.step s.step (value-is e 0)) (same-refusal ss.why s.why (number_is e) (need-is e))
