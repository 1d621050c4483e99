-- `fields::copy_to` meets its contract: what is left of `src`, put now, gives what the contract says. Assumes nothing.
use Prim.Native.Nat.{ℕ, ◌+◌, ◌≤◌, ◌<◌}
use mathlib.Core.Path.{◌≡◌, sym, ◌∙◌}
use mathlib.Core.List.{List, []}
use native.Mathlib.Omega.{arith}
use native.Mathlib.Numerals.{add-one}
use lib.ListN.{length, get_or, set, drop, drop_of_length-le}
use lib.Seq.{drop-cons}
use Rattle.fields.specs.Parts.{put}
use Rattle.fields.proofs.Parts.{put_next, put-nil}
use Rattle.fields.proofs.copy_to.Goals as goal

turn : (src l : List ℕ) (at i : ℕ) (t : List ℕ) → i < length src → at + length src ≤ length l → put (at + i) (drop i src) l ≡ t
    → put (at + (i + 1)) (drop (i + 1) src) (set l (at + i) (get_or src i 0)) ≡ t
turn src l at i t h g e =
    put_next at i (get_or src i 0) (drop (i + 1) src) l (omega arith) ∙ (rw (drop-cons src i 0 h, ← add-one i) at e)

pub loop-i-preserved : goal.loop-i-preserved
loop-i-preserved c =
    let a = c.args in
    turn a.src.now c.loop-i.s a.at c.loop-i.i _ c.loop-i-test.true (omega arith) c.loop-i.invariant

pub returns : goal.returns
returns c =
    let z : drop c.loop-i.i c.args.src.now ≡ [] = drop_of_length-le c.args.src.now c.loop-i-test.false in
    sym (put-nil _ _) ∙ (rw z at c.loop-i.invariant)
