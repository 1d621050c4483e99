-- `over_list::merge` meets its contract: what is listed and what is left are the whole listing. Assumes nothing.
use Prim.Native.Nat.{◌+◌, ◌-◌, ◌≤◌}
use mathlib.Core.Path.{◌≡◌}
use mathlib.Core.List.{◌++◌}
use lib.ListN.{length, take}
use Rattle.over_list.specs.Turns.{left_in}
use Rattle.over_list.proofs.merge.Given as goal

abbrev pub invariant-loop-a : goal.invariant-loop-a
invariant-loop-a l = (l.a ≤ l.a_end)
    × (l.base ≤ l.b)
    × (l.b ≤ l.b_end)
    × (l.next ≤ l.a + l.b)
    × (length l.out ≡ length l.initial.out)
    × (take l.next l.out ++ left_in l.overrides l.a l.a_end l.node l.base l.b l.b_end ≡ left_in l.overrides l.initial.a l.a_end l.node l.base l.initial.b l.b_end)

abbrev pub decreases-loop-a : goal.decreases-loop-a
decreases-loop-a l = l.a_end + l.b_end - (l.a + l.b)
