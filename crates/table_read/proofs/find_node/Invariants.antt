-- `table_read::find_node` meets its contract: what is left to be searched has the whole's answer. Assumes nothing.
use mathlib.Core.Path.{◌≡◌}
use lib.ListN.{drop}
use Rattle.rules.specs.Layout.{decode}
use Rattle.table_read.specs.Find.{further, find_node}
use Rattle.table_read.proofs.find_node.Given as goal

abbrev pub invariant-loop-i : goal.invariant-loop-i
invariant-loop-i l = further l.i (find_node l.number (drop l.i (decode l.table))) ≡ find_node l.number (decode l.table)
