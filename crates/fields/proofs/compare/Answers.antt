-- `fields::compare` meets its contract: what is left stands as the wholes do. Assumes nothing.
use Prim.Native.Nat.{ℕ, ◌+◌, ◌-◌, ◌*◌, ◌/◌, ◌≤◌, ◌<◌}
use mathlib.Core.Path.{◌≡◌, refl, sym, ap, ap₂, ◌∙◌}
use mathlib.Core.List.{List, [], ◌∷◌, ◌++◌}
use mathlib.Core.Logic.{inl, inr}
use native.Mathlib.Omega.{arith}
use lib.ListN.{length, take, drop, length-append, length-drop}
use lib.Seq.{take_at, drop_at, drop-drop}
use Rattle.std.specs.Iterator.Adapters.{zip_first, zip_second}
use Rattle.std.specs.Slice.Iter.{chunks_exact_rest, chunks_exact_size}
use Rattle.fields.specs.Numbers.{AreBytes}
use Rattle.fields.specs.Order.{order_of, rank_of}
use Rattle.fields.specs.Parts.{part}
use Rattle.std.specs.declared.cmp.Ordering.{Ordering}
use Rattle.std.specs.declared.cmp.Ordering.TheVariants.{Less, Greater}
use Rattle.fields.proofs.Lent.{seen-rest}
use Rattle.fields.proofs.Numbers.{at-bytes}
use Rattle.fields.proofs.Parts.{part-whole}
use Rattle.fields.proofs.Ranks.{ranked-less, ranked-more, ranked-same}
use Rattle.fields.proofs.compare.Goals as goal

-- a turn takes n elements x off what is left of l from i on
module _ (l rest x next : List ℕ) (i n : ℕ) (e : rest ≡ drop i l) (s : rest ≡ x ++ next) (d : length x ≡ n) where
  taken : x ≡ part i n l
  unfolding part
  taken = sym (take_at x next n d) ∙ ap (take n) (sym s ∙ e)

  left : next ≡ drop (i + n) l
  left = sym (drop_at x next n d) ∙ ap (drop n) (sym s ∙ e) ∙ drop-drop n i l

  room : i ≤ length l → i + n ≤ length l
  room h =
      let f : length x + length next ≡ length l - i = sym (length-append x next) ∙ ap length (sym s ∙ e) ∙ length-drop i l in
      omega arith

  ranked : (p : ℕ) → p ≡ rank_of (part 0 n x) → p ≡ rank_of (part i n l)
  ranked p r = r ∙ ap rank_of (part-whole n x d ∙ taken)

pub loop-x-init : goal.loop-x-init
loop-x-init c =
    let both = c.zip-x-items.ensures in
    let gives = c.into_iter-x-iterator.ensures.into_iter_gives in
    let first = ap zip_first gives ∙ both.first in
    let second = ap zip_second gives ∙ both.second in
    record {
      first_eight = ap chunks_exact_size first ∙ c.chunks_exact.ensures.size;
      second_eight = ap chunks_exact_size second ∙ c.chunks_exact-2.ensures.size;
      first_rest = ap chunks_exact_rest first ∙ c.chunks_exact.ensures.rest;
      second_rest = ap chunks_exact_rest second ∙ c.chunks_exact-2.ensures.rest;
      first_room = omega arith;
      second_room = omega arith;
      order = refl;
    }

-- a turn compares the eight bytes of each from i on
module _ (j k r q x y u v : List ℕ) (i m n : ℕ) (bj : AreBytes j) (bk : AreBytes k) (er : r ≡ drop i j) (eq : q ≡ drop i k) (sr : r ≡ x ++ u) (sq : q ≡ y ++ v)
    (dx : length x ≡ 8) (dy : length y ≡ 8) (hj : i ≤ length j) (hk : i ≤ length k) (em : m ≡ rank_of (part 0 8 x)) (en : n ≡ rank_of (part 0 8 y)) (o : Ordering)
    (e : order_of (drop i j) (drop i k) ≡ o) where
  first : m ≡ rank_of (part i 8 j)
  first = ranked j r x u i 8 er sr dx m em

  second : n ≡ rank_of (part i 8 k)
  second = ranked k q y v i 8 eq sq dy n en

  in-first : i + 8 ≤ length j
  in-first = room j r x u i 8 er sr dx hj

  in-second : i + 8 ≤ length k
  in-second = room k q y v i 8 eq sq dy hk

  less : m < n → Less ≡ o
  less h = sym (ranked-less i 8 j k bj bk in-first in-second (omega (arith, first, second))) ∙ e

  more : n < m → Greater ≡ o
  more h = sym (ranked-more i 8 j k bj bk in-first in-second (omega (arith, first, second))) ∙ e

  next : n ≤ m → m ≤ n → order_of (drop (i + 8) j) (drop (i + 8) k) ≡ o
  next h g = sym (ranked-same i 8 j k bj bk in-first in-second (omega (arith, first, second))) ∙ e

pub returns-then-p-q : goal.returns-then-p-q
returns-then-p-q c =
    let inv = c.loop-x.invariant in
    let step = c.in-Some.ensures.steps in
    less _ _ _ _ _ _ _ _ _ _ _ (at-bytes _ (λ k. (c.type_inv.a k).fits)) (at-bytes _ (λ k. (c.type_inv.b k).fits)) inv.first_rest inv.second_rest step.0.1.0 step.1.1.0
    (step.0.1.1 ∙ inv.first_eight) (step.1.1.1 ∙ inv.second_eight) inv.first_room inv.second_room c.rank-p.ensures c.rank-q.ensures _ inv.order c.if-p-q.true

pub returns-then-q-p : goal.returns-then-q-p
returns-then-q-p c =
    let inv = c.loop-x.invariant in
    let step = c.in-Some.ensures.steps in
    more _ _ _ _ _ _ _ _ _ _ _ (at-bytes _ (λ k. (c.type_inv.a k).fits)) (at-bytes _ (λ k. (c.type_inv.b k).fits)) inv.first_rest inv.second_rest step.0.1.0 step.1.1.0
    (step.0.1.1 ∙ inv.first_eight) (step.1.1.1 ∙ inv.second_eight) inv.first_room inv.second_room c.rank-p.ensures c.rank-q.ensures _ inv.order c.if-q-p.true

pub loop-x-preserved : goal.loop-x-preserved
loop-x-preserved c =
    let a = c.args in
    let inv = c.loop-x.invariant in
    let step = c.in-Some.ensures.steps in
    let i : ℕ = 8 * length c.loop-x.yielded in
    let x : length c.in-Some.x.now ≡ 8 = step.0.1.1 ∙ inv.first_eight in
    let y : length c.in-Some.y.now ≡ 8 = step.1.1.1 ∙ inv.second_eight in
    let e : i + 8 ≡ 8 * length (c.loop-x.yielded ++ ((c.in-Some.x, c.in-Some.y) ∷ [])) = rw length-append (omega arith) in
    let first-room : i + 8 ≤ length a.a.now = room a.a.now _ _ _ i 8 inv.first_rest step.0.1.0 x inv.first_room in
    let second-room : i + 8 ≤ length a.b.now = room a.b.now _ _ _ i 8 inv.second_rest step.1.1.0 y inv.second_room in
    record {
      first_eight = step.0.0 ∙ inv.first_eight;
      second_eight = step.1.0 ∙ inv.second_eight;
      first_rest = left a.a.now _ _ _ i 8 inv.first_rest step.0.1.0 x ∙ ap (λ (k : ℕ). drop k a.a.now) e;
      second_rest = left a.b.now _ _ _ i 8 inv.second_rest step.1.1.0 y ∙ ap (λ (k : ℕ). drop k a.b.now) e;
      first_room = omega arith;
      second_room = omega arith;
      order =
          ap (λ (k : ℕ). order_of (drop k a.a.now) (drop k a.b.now)) (sym e)
          ∙ next _ _ _ _ _ _ _ _ i _ _ (at-bytes _ (λ k. (c.type_inv.a k).fits)) (at-bytes _ (λ k. (c.type_inv.b k).fits)) inv.first_rest inv.second_rest
          step.0.1.0 step.1.1.0 x y inv.first_room inv.second_room c.rank-p.ensures c.rank-q.ensures _ inv.order c.if-p-q.false c.if-q-p.false;
    }

pub returns : goal.returns
returns c =
    let a = c.args in
    let inv = c.loop-x.invariant in
    let i : ℕ = 8 * length c.loop-x.yielded in
    let m : ℕ = c.min.result / 8 * 8 in
    let first-rest : length _ ≡ length a.a.now - i = ap length inv.first_rest ∙ length-drop i a.a.now in
    let second-rest : length _ ≡ length a.b.now - i = ap length inv.second_rest ∙ length-drop i a.b.now in
    let e : m ≡ i =
    elim c.in-None.ensures.steps [
      | inl (t, s) ↦ omega (arith, s.1.0, inv.first_eight, first-rest)
      | inr (t, s) ↦ omega (arith, s.1.0, inv.second_eight, second-rest)
    ] in
    c.compare_bytes.ensures
    ∙ ap₂ order_of (seen-rest m a.a.now) (seen-rest m a.b.now)
    ∙ ap (λ (k : ℕ). order_of (drop k a.a.now) (drop k a.b.now)) e
    ∙ inv.order
