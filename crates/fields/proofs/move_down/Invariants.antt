-- `fields::move_down` meets its contract: the bytes that are left to move are not yet written over, and put now they give what the contract says.
-- Assumes nothing.
use Prim.Native.Nat.{◌+◌, ◌-◌}
use mathlib.Core.Path.{◌≡◌}
use Rattle.fields.specs.Parts.{part, put}
use Rattle.fields.proofs.move_down.Given as goal

abbrev pub invariant-loop-i : goal.invariant-loop-i
invariant-loop-i l = put (l.to + l.i) (part (l.from + l.i) (l.n - l.i) l.s) l.s ≡ put l.to (part l.from l.n l.initial.s) l.initial.s
