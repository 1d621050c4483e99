-- `plan_lines::write_records` meets its contract: what is left to be written, behind what has been, has the whole's outcome. Assumes nothing.
use Prim.Native.Nat.{◌-◌, ◌≤◌}
use lib.ListN.{length, take}
use Rattle.rules.specs.Layout.{decode}
use Rattle.table_read.specs.Find.{entry_at}
use Rattle.compute_stale.specs.Arranged.{AllBelow, listed}
use Rattle.compute_write.proofs.Steps.{Reached, writing}
use Rattle.plan_lines.specs.Lines.{records_at}
use Rattle.plan_lines.proofs.write_records.Given as goal

abbrev pub invariant-loop-k : goal.invariant-loop-k
invariant-loop-k l = (l.k ≤ l.n)
    × (l.end ≤ l.k)
    × AllBelow (length (entry_at (decode l.table) l.p).node.recs) (listed l.k l.at)
    × Reached (writing 0 0 (records_at (decode l.table) l.p (take (l.n - l.end) (listed l.n l.at))) l.initial.datagram) (writing l.ops l.used (records_at (decode l.table) l.p (take (l.k - l.end) (listed l.k l.at))) l.datagram)
