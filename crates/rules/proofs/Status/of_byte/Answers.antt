-- `rules::Status::of_byte` meets its contract. Assumes nothing.
use Prim.Native.Nat.{ℕ, zero, suc}
use mathlib.Core.Path.{◌≡◌, refl}
use Rattle.rules.specs.Layout.{status_of_byte}
use Rattle.rules.specs.declared.Status.TheVariants.{Ttl}
use Rattle.rules.proofs.Status.of_byte.Goals as goal

other : (n : ℕ) → (n ≡ 0 → ⊥) → (n ≡ 1 → ⊥) → Ttl ≡ status_of_byte n
other zero h g = absurd (h refl)
other (suc zero) h g = absurd (g refl)
other (suc (suc n)) h g = refl

pub returns-in_default : goal.returns-in_default
returns-in_default c =
    other _ c.in_default.in_default-own.rest.0.0.1 c.in_default.in_default-own.rest.0.1
