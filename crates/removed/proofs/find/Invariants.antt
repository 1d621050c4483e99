-- `removed::find` meets its contract: what was passed over and where it stands in the rest is where it stands. Assumes nothing.
use Prim.Native.Nat.{◌+◌}
use mathlib.Core.Path.{◌≡◌}
use lib.ListN.{drop}
use Rattle.rules.specs.Whole.{decode_memory}
use Rattle.removed.specs.Find.{index_of}
use Rattle.removed.proofs.find.Given as goal

abbrev pub invariant-loop-i : goal.invariant-loop-i
invariant-loop-i l = l.i + index_of l.number (drop l.i (decode_memory l.tail)) ≡ index_of l.number (decode_memory l.tail)
