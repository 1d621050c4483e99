-- `fields::move_up` meets its contract: from the last byte down, those that are left to move are not yet written over, and put now they give
-- what the contract says. Assumes nothing.
use Prim.Native.Nat.{ℕ, suc, ◌+◌, ◌-◌, ◌≤◌, ◌<◌}
use mathlib.Core.Path.{◌≡◌, sym, ◌∙◌, subst}
use mathlib.Core.List.{List}
use native.Mathlib.Omega.{arith}
use lib.ListN.{length, get_or, set}
use Rattle.fields.specs.Parts.{part, put}
use Rattle.fields.proofs.Parts.{put-nil}
use Rattle.fields.proofs.move_up.Goals as goal
use Rattle.fields.proofs.move_up.Invariants.{last}

turn : (l : List ℕ) (from to i : ℕ) (t : List ℕ) → 0 < i → from ≤ to → to + i ≤ length l → put to (part from i l) l ≡ t
    → let v : ℕ = get_or l (from + (i - 1)) 0 in put to (part from (i - 1) (set l (to + (i - 1)) v)) (set l (to + (i - 1)) v) ≡ t
turn l from to i t h g f e =
    let p : i ≡ suc (i - 1) = omega arith in
    last l from to (i - 1) t g (omega arith) (subst (λ (k : ℕ). put to (part from k l) l ≡ t) p e)

pub loop-i-preserved : goal.loop-i-preserved
loop-i-preserved c =
    let a = c.args in
    turn c.loop-i.s a.from a.to c.loop-i.i _ c.loop-i-test.true (omega arith) (omega arith) c.loop-i.invariant

pub returns : goal.returns
unfolding part
returns c =
    let z : c.loop-i.i ≡ 0 = omega arith in
    sym (put-nil _ _) ∙ (rw z at c.loop-i.invariant)
