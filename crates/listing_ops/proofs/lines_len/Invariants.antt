use Prim.Native.Nat.{◌+◌, ◌-◌, ◌*◌, ◌≤◌}
use mathlib.Core.Path.{◌≡◌}
use lib.ListN.{length}
use Rattle.listing_ops.specs.Lines.{lines_from}
use Rattle.listing_ops.proofs.lines_len.Given as goal

abbrev pub invariant-loop-at : goal.invariant-loop-at
invariant-loop-at l = (l.at ≤ length l.delta) × (l.n ≤ 5 * l.at) × (l.n + length (lines_from l.delta l.at) ≡ length (lines_from l.delta 0))

abbrev pub decreases-loop-at : goal.decreases-loop-at
decreases-loop-at l = length l.delta - l.at
