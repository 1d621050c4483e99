-- `table_check::keys_rise` meets its contract: the keys that are left rise where all do. The loop is that of `numbers_rise`; its needs are its own, and
-- so is the order, for which the rules' law of rising numbers says nothing. Assumes nothing.
use Prim.Native.Nat.{◌-◌}
use mathlib.Core.Path.{◌≡◌}
use lib.ListN.{drop}
use Rattle.rules.specs.Table.{keys_rise}
use Rattle.table.specs.Tests.{recs_in}
use Rattle.table_check.proofs.keys_rise.Given as goal

abbrev pub invariant-loop-i : goal.invariant-loop-i
invariant-loop-i l = keys_rise (drop (l.i - 1) (recs_in l.node)) ≡ keys_rise (recs_in l.node)
