-- `delta_read::read_heads` meets its contract: what is left to be read has the whole's answer, and brings the rest of the last node delta. Assumes nothing.
use Prim.Native.Nat.{◌-◌, ◌≤◌}
use mathlib.Core.Path.{◌≡◌}
use lib.ListN.{length}
use Rattle.delta_read.proofs.Counted.{So-far}
use Rattle.delta_read.proofs.NodeDeltas.{Gathering}
use Rattle.delta_read.proofs.read_heads.Given as goal

abbrev pub invariant-loop-at : goal.invariant-loop-at
invariant-loop-at l = So-far l.delta l.seen l.nodes l.running l.ops l.at × Gathering l.delta l.places l.counts l.maxes l.nodes (l.ops - l.first) l.running l.at × (l.first ≤ l.ops) × (l.last ≡ l.nodes - 1)

abbrev pub decreases-loop-at : goal.decreases-loop-at
decreases-loop-at l = length l.delta - l.at
