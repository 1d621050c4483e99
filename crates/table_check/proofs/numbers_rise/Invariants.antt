-- `table_check::numbers_rise` meets its contract: the numbers that are left rise where all do, by `rising-turn` of the rules. Assumes nothing.
use Prim.Native.Nat.{◌-◌}
use mathlib.Core.Path.{◌≡◌}
use lib.ListN.{drop}
use Rattle.rules.specs.Table.{rising, numbers_of}
use Rattle.rules.specs.Layout.{decode}
use Rattle.table_check.proofs.numbers_rise.Given as goal

abbrev pub invariant-loop-i : goal.invariant-loop-i
invariant-loop-i l = rising (drop (l.i - 1) (numbers_of (decode l.table))) ≡ rising (numbers_of (decode l.table))
