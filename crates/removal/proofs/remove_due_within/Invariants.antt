-- `removal::remove_due_within` meets its contract: of what is in front of `j`, those that stay stand in the first places, and the rest gives the whole.
-- Assumes nothing.
use Prim.Native.Nat.{◌≤◌}
use mathlib.Core.Path.{◌≡◌}
use Rattle.rules.specs.Layout.{decode_node}
use Rattle.table.specs.Tests.{count_of}
use Rattle.table.specs.Fits.{LaidNode}
use Rattle.removal.specs.Removals.{due_within, removed}
use Rattle.removal.proofs.Removing.{done_from}
use Rattle.removal.proofs.remove_due_within.Given as goal

abbrev pub invariant-loop-j : goal.invariant-loop-j
invariant-loop-j l = record {
  laid : LaidNode l.node;
  many : count_of l.node ≡ l.n;
  low : l.kept ≤ l.j;
  within : l.j ≤ l.n;
  left : done_from (due_within l.bound l.clock l.grace) l.kept l.j (decode_node l.node) ≡ removed (due_within l.bound l.clock l.grace) (decode_node l.initial.node);
}
