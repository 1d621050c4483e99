-- `grid_check::columns_fit` meets its contract: the columns and the nodes that are left decide. Assumes nothing.
use Prim.Native.Nat.{◌≤◌}
use mathlib.Core.Path.{◌≡◌}
use lib.ListN.{length, take, drop}
use Rattle.fields.specs.Order.{same_bytes}
use Rattle.rules.specs.Table.{numbers_of}
use Rattle.rules.specs.Layout.{decode}
use Rattle.grid_check.proofs.columns_fit.Given as goal

abbrev pub invariant-loop-i : goal.invariant-loop-i
invariant-loop-i l = record {
  few : l.n ≤ length l.numbers;
  many : l.n ≡ length (numbers_of (decode l.area));
  left : same_bytes (drop l.i (take l.n l.numbers)) (drop l.i (numbers_of (decode l.area))) ≡ same_bytes (take l.n l.numbers) (numbers_of (decode l.area));
}
