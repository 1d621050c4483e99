-- `removal::remove_within` meets its contract: what is in front of node `i` is done, and the rest gives the whole. Assumes nothing.
use mathlib.Core.Path.{◌≡◌}
use Rattle.rules.specs.Layout.{decode}
use Rattle.table.specs.Tests.{nodes_of}
use Rattle.table.specs.Fits.{LaidTable}
use Rattle.removal.specs.Removals.{remove_within}
use Rattle.removal.proofs.Removing.{nodes_from}
use Rattle.removal.proofs.remove_within.Given as goal

abbrev pub invariant-loop-i : goal.invariant-loop-i
invariant-loop-i l = record {
  laid : LaidTable l.table;
  many : nodes_of l.table ≡ l.n;
  left : nodes_from l.clock l.grace l.bounds l.i (decode l.table) ≡ remove_within l.clock l.grace l.bounds (decode l.initial.table);
}
