-- `plan_lines::write_lines` meets its contract: the lines that are left, behind those that are written, have the whole's outcome. Assumes nothing.
use Prim.Native.Nat.{◌≤◌}
use lib.ListN.{drop, length}
use Rattle.rules.specs.Layout.{decode}
use Rattle.digest_read.specs.Held.{entries_in}
use Rattle.plan.specs.Plan.{plan_ops, stale_for}
use Rattle.plan_lines.proofs.Sums.{Summed}
use Rattle.plan_lines.proofs.write_lines.Given as goal

abbrev pub invariant-loop-j : goal.invariant-loop-j
invariant-loop-j l = (l.j ≤ length l.nodes)
    × Summed (plan_ops (stale_for l.excluded (entries_in l.digest) (decode l.table)) l.nodes l.counts) l.initial.datagram l.ops l.used
    (plan_ops (stale_for l.excluded (entries_in l.digest) (decode l.table)) (drop l.j l.nodes) (drop l.j l.counts)) l.datagram
