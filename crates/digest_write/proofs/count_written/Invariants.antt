use mathlib.Core.Path.{◌≡◌}
use Rattle.table.specs.Tests.{nodes_of}
use Rattle.digest_write.proofs.Entries.{Counts}
use Rattle.digest_write.proofs.count_written.Given as goal

-- The count so far and the nodes not yet passed give the whole count. Assumes nothing.
abbrev pub invariant-loop-i : goal.invariant-loop-i
invariant-loop-i l = (l.nodes ≡ nodes_of l.table) × Counts l.excluded l.table l.count l.i
