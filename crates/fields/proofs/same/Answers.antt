-- `fields::same` meets its contract: what was passed and what is left are the same where the wholes are. Assumes nothing.
use Prim.Native.Nat.{ℕ, suc, ◌+◌, ◌<◌}
use mathlib.Core.Path.{◌≡◌, sym, ap, ap₂, ◌∙◌}
use mathlib.Core.Bool.{Bool, ◌&&◌}
use mathlib.Core.List.{List, []}
use native.Mathlib.Omega.{arith}
use native.Mathlib.Numerals.{add-one}
use lib.Bits.{bit_or, bit_xor}
use lib.Dec.{eqb}
use lib.ListN.{length, get_or, drop, drop_of_length-le}
use lib.Seq.{drop-cons}
use Rattle.fields.specs.Order.{same_bytes}
use Rattle.fields.proofs.Bits.{or-none, xor-none}
use Rattle.fields.proofs.Choice.{and_assoc, and_last}
use Rattle.fields.proofs.Ordered.{same_first, same_length}
use Rattle.fields.proofs.same.Goals as goal

-- one byte more of each is seen
turn : (j k : List ℕ) (i d : ℕ) (t : Bool) → i < length j → i < length k → (eqb d 0 && same_bytes (drop i j) (drop i k)) ≡ t
    → (eqb (bit_or d (bit_xor (get_or j i 0) (get_or k i 0))) 0 && same_bytes (drop (i + 1) j) (drop (i + 1) k)) ≡ t
turn j k i d t h g e =
    let x : ℕ = get_or j i 0 in
    let y : ℕ = get_or k i 0 in
    let rest : Bool = same_bytes (drop (suc i) j) (drop (suc i) k) in
    ap (λ (n : ℕ). eqb (bit_or d (bit_xor x y)) 0 && same_bytes (drop n j) (drop n k)) (add-one i)
    ∙ ap (λ (b : Bool). b && rest) (or-none d (bit_xor x y) ∙ ap (λ (b : Bool). eqb d 0 && b) (xor-none x y))
    ∙ and_assoc (eqb d 0) (eqb x y) rest
    ∙ ap (λ (b : Bool). eqb d 0 && b) (sym (same_first x y (drop (suc i) j) (drop (suc i) k)) ∙ sym (ap₂ same_bytes (drop-cons j i 0 h) (drop-cons k i 0 g)))
    ∙ e

pub returns-then-a-b : goal.returns-then-a-b
returns-then-a-b c =
    sym (same_length _ _ c.if-a-b.true)

pub loop-i-preserved : goal.loop-i-preserved
loop-i-preserved c =
    let a = c.args in
    let i : ℕ = c.loop-i.i in
    turn a.a.now a.b.now i c.loop-i.differ _ (omega arith) (omega arith) c.loop-i.invariant

pub returns : goal.returns
unfolding same_bytes
returns c =
    let a = c.args in
    let i : ℕ = c.loop-i.i in
    let none : drop i a.a.now ≡ [] = drop_of_length-le a.a.now {i = i} (omega arith) in
    let none-b : drop i a.b.now ≡ [] = drop_of_length-le a.b.now {i = i} (omega arith) in
    sym (and_last (eqb c.loop-i.differ 0)) ∙ (rw (none, none-b) at c.loop-i.invariant)
