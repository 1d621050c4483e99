-- `table_nodes::lower_behind` meets its contract: from the first place on, those below are filled and those above are as they were. Assumes nothing.
use mathlib.Core.Path.{◌≡◌}
use lib.ListN.{length}
use Rattle.table_nodes.proofs.Moves.{down_to}
use Rattle.table_nodes.proofs.lower_behind.Given as goal

abbrev pub invariant-loop-k : goal.invariant-loop-k
invariant-loop-k l = (length l.table ≡ length l.initial.table) × (l.table ≡ down_to l.i l.k l.initial.table)
