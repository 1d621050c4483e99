-- `fields::same` meets its contract: what was passed and what is left are the same where the wholes are. Assumes nothing.
use mathlib.Core.Path.{◌≡◌}
use mathlib.Core.Bool.{◌&&◌}
use lib.Dec.{eqb}
use lib.ListN.{drop}
use Rattle.fields.specs.Order.{same_bytes}
use Rattle.fields.proofs.same.Given as goal

abbrev pub invariant-loop-i : goal.invariant-loop-i
invariant-loop-i l = (eqb l.differ 0 && same_bytes (drop l.i l.a) (drop l.i l.b)) ≡ same_bytes l.a l.b
