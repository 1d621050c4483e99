-- `fields::is_zero` meets its contract: the bytes passed and those that are left are all zero where the whole is. Assumes nothing.
use mathlib.Core.Path.{◌≡◌}
use mathlib.Core.Bool.{◌&&◌}
use lib.Dec.{eqb}
use lib.ListN.{drop}
use Rattle.fields.specs.Blocks.{all_zero}
use Rattle.fields.proofs.is_zero.Given as goal

abbrev pub invariant-loop-b : goal.invariant-loop-b
invariant-loop-b l = (eqb l.seen 0 && all_zero (drop l.b-index l.s)) ≡ all_zero l.s
