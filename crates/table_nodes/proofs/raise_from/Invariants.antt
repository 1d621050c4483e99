-- `table_nodes::raise_from` meets its contract: from the last place down, those above are raised and those below are as they were. Assumes nothing.
use Prim.Native.Nat.{◌≤◌}
use mathlib.Core.Path.{◌≡◌}
use lib.ListN.{length}
use Rattle.table_nodes.proofs.Moves.{up_from}
use Rattle.table_nodes.proofs.raise_from.Given as goal

abbrev pub invariant-loop-k : goal.invariant-loop-k
invariant-loop-k l = (l.i ≤ l.k) × (length l.table ≡ length l.initial.table) × (l.table ≡ up_from l.n l.k l.initial.table)
