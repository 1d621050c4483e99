-- `prefix::write_shown` meets its contract: what is left to be written gives the whole list. Assumes nothing.
use Prim.Native.Nat.{◌+◌, ◌≤◌}
use mathlib.Core.Path.{◌≡◌}
use lib.ListN.{length}
use Rattle.fields.specs.Parts.{put}
use Rattle.prefix.specs.Run.{shown_in}
use Rattle.prefix.proofs.write_shown.Given as goal

abbrev pub invariant-loop-j : goal.invariant-loop-j
invariant-loop-j l =
    (l.j ≤ l.high)
    × (l.next ≤ l.j)
    × (length l.out ≡ length l.initial.out)
    × (l.next + length (shown_in l.base l.j l.high l.node) ≡ length (shown_in l.base l.low l.high l.node))
    × (put l.next (shown_in l.base l.j l.high l.node) l.out ≡ put 0 (shown_in l.base l.low l.high l.node) l.initial.out)
    × (l.base ≤ l.j)
