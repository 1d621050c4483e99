-- `fields::move_down` meets its contract: the bytes that are left to move are not yet written over, and put now they give what the contract says.
-- Assumes nothing.
use Prim.Native.Nat.{ℕ, ◌+◌, ◌-◌, ◌≤◌, ◌<◌}
use mathlib.Core.Path.{◌≡◌, sym, ◌∙◌}
use mathlib.Core.List.{List}
use native.Mathlib.Omega.{arith}
use lib.ListN.{length, get_or, set}
use Rattle.fields.specs.Parts.{part, put}
use Rattle.fields.proofs.Parts.{part-next, part-set-after, put_next, put-nil}
use Rattle.fields.proofs.move_down.Goals as goal

turn : (l : List ℕ) (from to n i : ℕ) (t : List ℕ) → i < n → to ≤ from → from + n ≤ length l → put (to + i) (part (from + i) (n - i) l) l ≡ t
    → let v : ℕ = get_or l (from + i) 0 in put (to + (i + 1)) (part (from + (i + 1)) (n - (i + 1)) (set l (to + i) v)) (set l (to + i) v) ≡ t
turn l from to n i t h g f e =
    rw (part-set-after (from + (i + 1)) (n - (i + 1)) (to + i) _ l (omega arith))
    (put_next to i (get_or l (from + i) 0) _ l (omega arith) ∙ (rw (part-next from i n l h f) at e))

pub loop-i-preserved : goal.loop-i-preserved
loop-i-preserved c =
    let a = c.args in
    turn c.loop-i.s a.from a.to a.n c.loop-i.i _ c.loop-i-test.true (omega arith) (omega arith) c.loop-i.invariant

pub returns : goal.returns
unfolding part
returns c =
    let z : c.args.n - c.loop-i.i ≡ 0 = omega arith in
    sym (put-nil _ _) ∙ (rw z at c.loop-i.invariant)
