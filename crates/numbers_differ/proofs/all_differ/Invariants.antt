-- `numbers_differ::all_differ` meets its contract: the numbers from i on differ, and each has its mark. Assumes nothing.
use Prim.Native.Nat.{◌-◌, ◌≤◌}
use mathlib.Core.Path.{◌≡◌}
use mathlib.Core.Bool.{true}
use lib.ListN.{length, take, drop}
use Rattle.rules.specs.Table.{differ}
use Rattle.numbers_differ.proofs.Seen.{Marked}
use Rattle.numbers_differ.proofs.all_differ.Given as goal

abbrev pub invariant-loop-i : goal.invariant-loop-i
invariant-loop-i l = (l.i ≤ l.n) × (length l.seen ≡ 1024) × (differ (take (l.n - l.i) (drop l.i l.ns)) ≡ true) × Marked l.seen (take (l.n - l.i) (drop l.i l.ns))
