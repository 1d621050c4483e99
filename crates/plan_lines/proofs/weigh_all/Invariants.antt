-- `plan_lines::weigh_all` meets its contract: those summed and those that are left are all. Assumes nothing.
use Prim.Native.Nat.{◌+◌, ◌*◌, ◌≤◌}
use mathlib.Core.Path.{◌≡◌}
use lib.ListN.{length}
use Rattle.rules.specs.Layout.{decode}
use Rattle.table_read.specs.Find.{entry_at}
use Rattle.plan_lines.proofs.First.{bytes_from, many_from}
use Rattle.plan_lines.proofs.weigh_all.Given as goal

abbrev pub invariant-loop-i : goal.invariant-loop-i
invariant-loop-i l = (l.i ≤ l.n)
    × (l.n ≡ length (entry_at (decode l.table) l.p).node.recs)
    × (l.count ≤ l.i)
    × (l.bytes ≤ 110 * l.i)
    × (l.count + many_from l.from l.i (entry_at (decode l.table) l.p).node.recs ≡ many_from l.from 0 (entry_at (decode l.table) l.p).node.recs)
    × (l.bytes + bytes_from l.from l.i (entry_at (decode l.table) l.p).node.recs ≡ bytes_from l.from 0 (entry_at (decode l.table) l.p).node.recs)
