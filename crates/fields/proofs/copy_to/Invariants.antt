-- `fields::copy_to` meets its contract: what is left of `src`, put now, gives what the contract says. Assumes nothing.
use Prim.Native.Nat.{◌+◌}
use mathlib.Core.Path.{◌≡◌}
use lib.ListN.{drop}
use Rattle.fields.specs.Parts.{put}
use Rattle.fields.proofs.copy_to.Given as goal

abbrev pub invariant-loop-i : goal.invariant-loop-i
invariant-loop-i l = put (l.at + l.i) (drop l.i l.src) l.s ≡ put l.at l.src l.initial.s
