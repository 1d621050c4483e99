-- `compute::line_up` meets its contract: the nodes from i on stand in line. Assumes nothing.
use Rattle.rules.specs.Layout.{decode}
use Rattle.digest_read.specs.Held.{entries_in}
use Rattle.compute.proofs.Lining.{Upto}
use Rattle.compute.proofs.line_up.Given as goal

abbrev pub invariant-loop-i : goal.invariant-loop-i
invariant-loop-i l = Upto l.excluded (entries_in l.digest) l.ties (decode l.table) l.n l.i l.line l.froms l.counts
