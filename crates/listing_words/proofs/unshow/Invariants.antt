-- `listing_words::unshow` meets its contract: what is stored and what is left stands for the whole. Assumes nothing.
use Prim.Native.Nat.{◌-◌, ◌≤◌}
use mathlib.Core.Path.{◌≡◌}
use mathlib.Core.Bool.{true}
use mathlib.Core.List.{◌++◌}
use lib.ListN.{length, drop, take}
use Rattle.fields.specs.Choice.{all}
use Rattle.listing_read.specs.Unlist.{is_byte, unshown}
use Rattle.listing_words.proofs.unshow.Given as goal

abbrev pub invariant-loop-i : goal.invariant-loop-i
invariant-loop-i l = (l.i ≤ length l.piece)
    × (length l.out ≡ length l.initial.out)
    × (l.n ≤ length l.out)
    × (take l.n l.out ++ unshown (drop l.i l.piece) ≡ unshown l.piece)
    × (all is_byte (take l.n l.out) ≡ true)

abbrev pub decreases-loop-i : goal.decreases-loop-i
decreases-loop-i l = length l.piece - l.i
