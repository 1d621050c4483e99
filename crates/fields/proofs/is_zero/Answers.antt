-- `fields::is_zero` meets its contract: the bytes passed and those that are left are all zero where the whole is. Assumes nothing.
use Prim.Native.Nat.{ℕ, suc, ◌+◌, ◌<◌}
use mathlib.Core.Path.{◌≡◌, sym, ap, ◌∙◌}
use mathlib.Core.Bool.{Bool, ◌&&◌}
use mathlib.Core.List.{List}
use native.Mathlib.Numerals.{add-one}
use lib.Bits.{bit_or}
use lib.Dec.{eqb}
use lib.ListN.{length, get_or, drop, drop_of_length-le}
use lib.Seq.{drop-cons}
use Rattle.fields.specs.Blocks.{all_zero}
use Rattle.fields.proofs.Bits.{or-none}
use Rattle.fields.proofs.Choice.{and_assoc, and_last}
use Rattle.fields.proofs.is_zero.Goals as goal

-- one byte more is seen
turn : (l : List ℕ) (i d : ℕ) (t : Bool) → i < length l → (eqb d 0 && all_zero (drop i l)) ≡ t
    → (eqb (bit_or d (get_or l i 0)) 0 && all_zero (drop (i + 1) l)) ≡ t
unfolding all_zero
turn l i d t h e =
    let x : ℕ = get_or l i 0 in
    ap (λ (k : ℕ). eqb (bit_or d x) 0 && all_zero (drop k l)) (add-one i)
    ∙ ap (λ (b : Bool). b && all_zero (drop (suc i) l)) (or-none d x)
    ∙ and_assoc (eqb d 0) (eqb x 0) (all_zero (drop (suc i) l))
    ∙ ap (λ (m : List ℕ). eqb d 0 && all_zero m) (sym (drop-cons l i 0 h))
    ∙ e

pub loop-b-preserved : goal.loop-b-preserved
loop-b-preserved c =
    let s = c.args.s.now in
    turn s c.loop-b.b-index c.loop-b.seen (all_zero s) c.loop-b-test.true c.loop-b.invariant

pub returns : goal.returns
unfolding all_zero
returns c =
    let none = drop_of_length-le c.args.s.now c.loop-b-test.false in
    sym (and_last (eqb c.loop-b.seen 0)) ∙ (rw none at c.loop-b.invariant)
