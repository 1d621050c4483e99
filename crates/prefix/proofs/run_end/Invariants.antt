-- `prefix::run_end` meets its contract: a key that begins with the prefix says it of those before it, and one that does not of those behind it. Assumes nothing.
use Prim.Native.Nat.{ℕ, ◌-◌, ◌≤◌, ◌<◌}
use mathlib.Core.Path.{◌≡◌}
use mathlib.Core.Bool.{true, false}
use Rattle.fields.specs.Order.{starts_with}
use Rattle.table.specs.Tests.{count_of}
use Rattle.prefix.specs.Run.{key_at}
use Rattle.prefix.proofs.run_end.Given as goal

abbrev pub invariant-loop-low : goal.invariant-loop-low
invariant-loop-low l = (l.from ≤ l.low)
    × (l.low ≤ l.high)
    × (l.high ≤ count_of l.node)
    × ((i : ℕ) → l.from ≤ i → i < l.low → starts_with l.prefix (key_at i l.node) ≡ true)
    × ((i : ℕ) → l.high ≤ i → i < count_of l.node → starts_with l.prefix (key_at i l.node) ≡ false)

abbrev pub decreases-loop-low : goal.decreases-loop-low
decreases-loop-low l = l.high - l.low
