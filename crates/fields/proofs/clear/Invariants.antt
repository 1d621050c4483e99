-- `fields::clear` meets its contract: the zeros that are left, put now, give what the contract says. Assumes nothing.
use Prim.Native.Nat.{◌+◌, ◌-◌}
use mathlib.Core.Path.{◌≡◌}
use Rattle.fields.specs.Blocks.{zeros}
use Rattle.fields.specs.Parts.{put}
use Rattle.fields.proofs.clear.Given as goal

abbrev pub invariant-loop-i : goal.invariant-loop-i
invariant-loop-i l = put (l.at + l.i) (zeros (l.n - l.i)) l.s ≡ put l.at (zeros l.n) l.initial.s
