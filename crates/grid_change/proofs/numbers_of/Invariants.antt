-- `grid_change::numbers_of` meets its contract: the first places have the numbers, and the others 0. Assumes nothing.
use Prim.Native.Nat.{◌≤◌}
use mathlib.Core.Path.{◌≡◌}
use lib.ListN.{length, take}
use Rattle.fields.specs.Blocks.{fit}
use Rattle.rules.specs.Sizes.{max_nodes}
use Rattle.rules.specs.Table.{numbers_of}
use Rattle.rules.specs.Layout.{decode}
use Rattle.grid_change.proofs.numbers_of.Given as goal

abbrev pub invariant-loop-i : goal.invariant-loop-i
invariant-loop-i l = record {
  few : l.n ≤ max_nodes;
  many : l.n ≡ length (numbers_of (decode l.area));
  filled : l.numbers ≡ fit max_nodes (take l.i (numbers_of (decode l.area)));
}
