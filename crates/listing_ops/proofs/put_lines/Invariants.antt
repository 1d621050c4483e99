use Prim.Native.Nat.{◌+◌, ◌-◌, ◌≤◌}
use mathlib.Core.Path.{◌≡◌}
use lib.ListN.{length}
use Rattle.fields.specs.Parts.{put}
use Rattle.listing_ops.specs.Lines.{lines_from}
use Rattle.listing_ops.proofs.put_lines.Given as goal

abbrev pub invariant-loop-at : goal.invariant-loop-at
invariant-loop-at l = (l.at ≤ length l.delta)
    × (length l.out ≡ length l.initial.out)
    × (l.n + length (lines_from l.delta l.at) ≡ length (lines_from l.delta 0))
    × (put l.n (lines_from l.delta l.at) l.out ≡ put 0 (lines_from l.delta 0) l.initial.out)

abbrev pub decreases-loop-at : goal.decreases-loop-at
decreases-loop-at l = length l.delta - l.at
