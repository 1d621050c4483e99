-- `fields::compare_bytes` meets its contract: what is left stands as the wholes do. Assumes nothing.
use mathlib.Core.Path.{◌≡◌}
use lib.ListN.{drop}
use Rattle.fields.specs.Order.{order_of}
use Rattle.fields.proofs.compare_bytes.Given as goal

abbrev pub invariant-loop-i : goal.invariant-loop-i
invariant-loop-i l = order_of (drop l.i l.a) (drop l.i l.b) ≡ order_of l.a l.b
