use Prim.Native.Nat.{ℕ, ◌≤◌, ◌<◌}
use Prim.Native.Nat.{ℕ, ◌≤◌, ◌<◌}
use mathlib.Core.Path.{◌≡◌}
use borrow.Author.Tests.{lt-ltb, le-ltb}
use native.Mathlib.Omega.{arith}
use Rattle.rules.specs.Apply.{newer_of}
use Rattle.rules.specs.declared.DeltaStatus.TheVariants.{Reject, Apply}
use Rattle.delta_status.proofs.check_newer.Goals as goal

module _ (m max : ℕ) where
  is : m < max → Apply ≡ newer_of m max
  unfolding newer_of
  is h = rw (lt-ltb m max h)

  is-not : max ≤ m → Reject ≡ newer_of m max
  unfolding newer_of
  is-not h = rw (le-ltb m max h)

pub returns-then-own_max-max : goal.returns-then-own_max-max
returns-then-own_max-max c =
    is _ _ (omega arith)

pub returns : goal.returns
returns c =
    is-not _ _ (omega arith)
