-- `plan_lines::size_of` meets its contract: what is summed and what is left are the line's bytes. Assumes nothing.
use Prim.Native.Nat.{◌+◌, ◌*◌, ◌-◌, ◌≤◌}
use mathlib.Core.Path.{◌≡◌}
use lib.ListN.{length, take}
use Rattle.rules.specs.Delta.{delta_bytes}
use Rattle.rules.specs.Layout.{decode}
use Rattle.table_read.specs.Find.{entry_at}
use Rattle.compute_stale.specs.Arranged.{AllBelow, listed}
use Rattle.plan_lines.specs.Lines.{records_at}
use Rattle.plan_lines.proofs.size_of.Given as goal

abbrev pub invariant-loop-k : goal.invariant-loop-k
invariant-loop-k l = (l.k ≤ l.n)
    × (l.end ≤ l.k)
    × (l.size ≤ 25 + 110 * (l.n - l.k))
    × AllBelow (length (entry_at (decode l.table) l.p).node.recs) (listed l.k l.at)
    × (l.size + length (delta_bytes (records_at (decode l.table) l.p (take (l.k - l.end) (listed l.k l.at))))
    ≡ 25 + length (delta_bytes (records_at (decode l.table) l.p (take (l.n - l.end) (listed l.n l.at)))))
