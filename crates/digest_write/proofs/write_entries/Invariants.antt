use mathlib.Core.Path.{◌≡◌}
use Rattle.table.specs.Tests.{nodes_of}
use Rattle.digest_write.proofs.Entries.{Writes}
use Rattle.digest_write.proofs.write_entries.Given as goal

-- The entries of the nodes not yet passed, put behind those written, give the whole. Assumes nothing.
abbrev pub invariant-loop-i : goal.invariant-loop-i
invariant-loop-i l = (l.nodes ≡ nodes_of l.table) × Writes l.excluded l.table l.initial.datagram l.at l.i l.datagram
