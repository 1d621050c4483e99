-- `answers::no_entry` meets its contract, case by case. Assumes nothing.
use Prim.Native.Nat.{ℕ}
use mathlib.Core.Path.{ap₂}
use Rattle.answers.proofs.no_entry.Goals as goal

pub returns : goal.returns
returns c =
    ap₂ (λ (k n : ℕ). record { number = k; node = 0; heartbeat = 0; last_gc = 0; max = 0; need = n }) c.number.ensures c.need.ensures
