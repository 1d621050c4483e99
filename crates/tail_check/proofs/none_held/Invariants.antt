-- `tail_check::none_held` meets its contract: none of those that are left is remembered where none of all is. Assumes nothing.
use mathlib.Core.Path.{◌≡◌}
use lib.ListN.{take, drop}
use Rattle.rules.specs.Table.{numbers_of}
use Rattle.rules.specs.Memory.{apart}
use Rattle.rules.specs.Layout.{decode}
use Rattle.tail_check.proofs.none_held.Given as goal

abbrev pub invariant-loop-i : goal.invariant-loop-i
invariant-loop-i l = apart (numbers_of (drop l.i (decode l.area))) (take l.n l.ns) ≡ apart (numbers_of (decode l.area)) (take l.n l.ns)
