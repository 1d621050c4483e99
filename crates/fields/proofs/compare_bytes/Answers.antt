-- `fields::compare_bytes` meets its contract: what is left stands as the wholes do. Assumes nothing.
use Prim.Native.Nat.{ℕ, suc, ◌+◌, ◌≤◌, ◌<◌}
use mathlib.Core.Path.{◌≡◌, sym, ap, ap₂, ◌∙◌}
use mathlib.Core.List.{List, ◌∷◌}
use native.Mathlib.Omega.{arith}
use native.Mathlib.Numerals.{add-one}
use lib.ListN.{length, get_or, drop, drop_of_length-le}
use lib.Seq.{drop-cons}
use Rattle.fields.specs.Order.{order_of}
use Rattle.fields.proofs.Ordered.{order-none, order-shorter, order-longer, order-first-same, order-first-less, order-first-more}
use Rattle.std.specs.declared.cmp.Ordering.{Ordering}
use Rattle.std.specs.declared.cmp.Ordering.TheVariants.{Less, Equal, Greater}
use Rattle.fields.proofs.compare_bytes.Goals as goal

-- what is left of the two from i on stands as o says
module _ (j k : List ℕ) (i : ℕ) (o : Ordering) where
  longer : i < length j → length k ≤ i → order_of (drop i j) (drop i k) ≡ o → Greater ≡ o
  longer h g e =
      sym (order-longer (get_or j i 0) (drop (suc i) j)) ∙ sym (ap₂ order_of (drop-cons j i 0 h) (drop_of_length-le k g)) ∙ e

  shorter : length j ≤ i → i < length k → order_of (drop i j) (drop i k) ≡ o → Less ≡ o
  shorter h g e =
      sym (order-shorter (get_or k i 0) (drop (suc i) k)) ∙ sym (ap₂ order_of (drop_of_length-le j h) (drop-cons k i 0 g)) ∙ e

  ended : length j ≤ i → length k ≤ i → order_of (drop i j) (drop i k) ≡ o → Equal ≡ o
  ended h g e = sym order-none ∙ sym (ap₂ order_of (drop_of_length-le j h) (drop_of_length-le k g)) ∙ e

  module _ (h : i < length j) (g : i < length k) (e : order_of (drop i j) (drop i k) ≡ o) where
    split : order_of (get_or j i 0 ∷ drop (suc i) j) (get_or k i 0 ∷ drop (suc i) k) ≡ o
    split = sym (ap₂ order_of (drop-cons j i 0 h) (drop-cons k i 0 g)) ∙ e

    less : get_or j i 0 < get_or k i 0 → Less ≡ o
    less p = sym (order-first-less _ _ (drop (suc i) j) (drop (suc i) k) p) ∙ split

    more : get_or k i 0 < get_or j i 0 → Greater ≡ o
    more p = sym (order-first-more _ _ (drop (suc i) j) (drop (suc i) k) p) ∙ split

    next : get_or k i 0 ≤ get_or j i 0 → get_or j i 0 ≤ get_or k i 0 → order_of (drop (i + 1) j) (drop (i + 1) k) ≡ o
    next p q =
        ap (λ (n : ℕ). order_of (drop n j) (drop n k)) (add-one i)
        ∙ sym (order-first-same (get_or j i 0) (get_or k i 0) (drop (suc i) j) (drop (suc i) k) (omega arith))
        ∙ split

pub returns-then-x-y : goal.returns-then-x-y
returns-then-x-y c =
    let a = c.args in
    less a.a.now a.b.now c.loop-i.i _ (omega arith) (omega arith) c.loop-i.invariant c.if-x-y.true

pub returns-then-y-x : goal.returns-then-y-x
returns-then-y-x c =
    let a = c.args in
    more a.a.now a.b.now c.loop-i.i _ (omega arith) (omega arith) c.loop-i.invariant c.if-y-x.true

pub loop-i-preserved : goal.loop-i-preserved
loop-i-preserved c =
    let a = c.args in
    next a.a.now a.b.now c.loop-i.i _ (omega arith) (omega arith) c.loop-i.invariant c.if-x-y.false c.if-y-x.false

pub returns-then-a-b : goal.returns-then-a-b
returns-then-a-b c =
    let a = c.args in
    shorter a.a.now a.b.now c.loop-i.i _ (omega arith) (omega arith) c.loop-i.invariant

pub returns-then-b-a : goal.returns-then-b-a
returns-then-b-a c =
    let a = c.args in
    longer a.a.now a.b.now c.loop-i.i _ (omega arith) (omega arith) c.loop-i.invariant

pub returns : goal.returns
returns c =
    let a = c.args in
    ended a.a.now a.b.now c.loop-i.i _ (omega arith) (omega arith) c.loop-i.invariant
