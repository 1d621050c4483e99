-- `fields::clear` meets its contract: the zeros that are left, put now, give what the contract says. Assumes nothing.
use Prim.Native.Nat.{ℕ, ◌+◌, ◌-◌, ◌≤◌, ◌<◌}
use mathlib.Core.Path.{◌≡◌, sym, ◌∙◌}
use mathlib.Core.List.{List}
use native.Mathlib.Omega.{arith}
use lib.ListN.{length, set}
use Rattle.fields.specs.Blocks.{zeros}
use Rattle.fields.specs.Parts.{put}
use Rattle.fields.proofs.Blocks.{zeros-next}
use Rattle.fields.proofs.Parts.{put_next, put-nil}
use Rattle.fields.proofs.clear.Goals as goal

turn : (l : List ℕ) (at n i : ℕ) (t : List ℕ) → i < n → at + n ≤ length l → put (at + i) (zeros (n - i)) l ≡ t
    → put (at + (i + 1)) (zeros (n - (i + 1))) (set l (at + i) 0) ≡ t
turn l at n i t h g e = put_next at i 0 (zeros (n - (i + 1))) l (omega arith) ∙ (rw (zeros-next i n h) at e)

pub loop-i-preserved : goal.loop-i-preserved
loop-i-preserved c =
    let a = c.args in
    turn c.loop-i.s a.at a.n c.loop-i.i _ c.loop-i-test.true (omega arith) c.loop-i.invariant

pub returns : goal.returns
unfolding zeros
returns c =
    let z : c.args.n - c.loop-i.i ≡ 0 = omega arith in
    sym (put-nil _ _) ∙ (rw z at c.loop-i.invariant)
