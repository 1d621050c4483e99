-- `prefix::count_shown` meets its contract: what was counted and what is left are the whole. Assumes nothing.
use Prim.Native.Nat.{◌+◌, ◌≤◌}
use mathlib.Core.Path.{◌≡◌}
use lib.ListN.{length}
use Rattle.prefix.specs.Run.{shown_in}
use Rattle.prefix.proofs.count_shown.Given as goal

abbrev pub invariant-loop-j : goal.invariant-loop-j
invariant-loop-j l = (l.j ≤ l.high) × (l.found ≤ l.j) × (l.found + length (shown_in 0 l.j l.high l.node) ≡ length (shown_in 0 l.low l.high l.node))
