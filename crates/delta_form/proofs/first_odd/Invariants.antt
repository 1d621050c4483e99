-- `delta_form::first_odd` meets its contract: what is left of the pass gives the whole's answer. Assumes nothing.
use Prim.Native.Nat.{◌-◌}
use lib.ListN.{length}
use Rattle.delta_form.proofs.Odd.{So-far}
use Rattle.delta_form.proofs.first_odd.Given as goal

abbrev pub invariant-loop-at : goal.invariant-loop-at
invariant-loop-at l = So-far l.profile l.delta l.end l.at

abbrev pub decreases-loop-at : goal.decreases-loop-at
decreases-loop-at l = length l.delta - l.at
