-- `compute_write::write_nodes` meets its contract: in both loops what is left to be written, behind what has been, has the whole's outcome. Each step
-- is a law of proofs/Steps. Assumes nothing.
use Prim.Native.Nat.{◌≤◌}
use mathlib.Core.Path.{◌≡◌}
use mathlib.Core.List.{◌++◌}
use lib.ListN.{length}
use Rattle.rules.specs.Sizes.{max_records}
use Rattle.rules.specs.Layout.{decode}
use Rattle.table.specs.Tests.{nodes_of}
use Rattle.table_read.specs.Find.{entry_at}
use Rattle.compute_stale.specs.Arranged.{listed, AllBelow}
use Rattle.compute_write.specs.Sending.{ops_at}
use Rattle.compute_write.proofs.Steps.{writing, Reached}
use Rattle.compute_write.proofs.Lines.{record_ops}
use Rattle.compute_write.proofs.write_nodes.Given as goal

-- ---- what the loops keep
-- the loop over a node's records: the places are those of its records, and writing has come on from where the loop began
abbrev pub invariant-loop-k : goal.invariant-loop-k
invariant-loop-k l = (l.k ≤ max_records)
    × (length l.at ≡ max_records)
    × AllBelow (length (entry_at (decode l.table) l.p).node.recs) (listed l.k l.at)
    × Reached (writing l.initial.ops l.initial.used (record_ops (decode l.table) l.p (listed l.initial.k l.at) ++ ops_at (decode l.table) l.froms (listed l.j l.line)) l.initial.datagram)
    (writing l.ops l.used (record_ops (decode l.table) l.p (listed l.k l.at) ++ ops_at (decode l.table) l.froms (listed l.j l.line)) l.datagram)

-- the loop over the nodes: the places are those of nodes, and writing has come on from the function's entry
abbrev pub invariant-nodes : goal.invariant-nodes
invariant-nodes l = (l.j ≤ l.n)
    × AllBelow (nodes_of l.table) (listed l.j l.line)
    × Reached (writing 0 0 (ops_at (decode l.table) l.froms (listed l.n l.line)) l.initial.datagram) (writing l.ops l.used (ops_at (decode l.table) l.froms (listed l.j l.line)) l.datagram)
