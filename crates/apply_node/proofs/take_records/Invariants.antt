-- `apply_node::take_records` meets its contract: what is left to take gives the whole's outcome. Assumes nothing.
use Prim.Native.Nat.{◌-◌}
use lib.ListN.{length}
use Rattle.apply_node.proofs.Taken.{So-far}
use Rattle.apply_node.proofs.take_records.Given as goal

abbrev pub invariant-loop-i : goal.invariant-loop-i
invariant-loop-i l = So-far l.held l.last_gc l.clock l.delta l.at l.initial.node l.node l.i

abbrev pub decreases-loop-i : goal.decreases-loop-i
decreases-loop-i l = length l.delta - l.i
