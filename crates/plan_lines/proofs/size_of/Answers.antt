-- `plan_lines::size_of` meets its contract: what is summed and what is left are the line's bytes. Assumes nothing.
use Prim.Native.Nat.{ℕ, ◌-◌, ◌≤◌, ◌<◌}
use mathlib.Core.List.{List}
use mathlib.Core.Path.{◌∙◌, ◌≡◌, ap, refl, subst, sym}
use native.Mathlib.Omega.{arith}
use lib.ListN.{get_or, length, take}
use Rattle.rules.specs.Delta.{delta_bytes}
use Rattle.rules.specs.Layout.{decode}
use Rattle.compute_stale.proofs.Arranged.{listed_in, listed-lower}
use Rattle.compute_stale.specs.Arranged.{listed}
use Rattle.plan_lines.specs.Lines.{records_at}
use Rattle.plan_lines.proofs.First.{count-taken, next-record, next-taken, no_record, no_size, none-taken, record-low, some_size}
use Rattle.plan_lines.proofs.size_of.Goals as goal

pub returns-then-count-eq0 : goal.returns-then-count-eq0
returns-then-count-eq0 c =
    let a = c.args in
    sym (no_size (decode a.table.now) a.p a.from (take a.count (listed a.n a.at.now)) (count-taken a.count a.n a.at.now c.requires.4 ∙ c.if-count-eq0.true))

pub overflow_sub-end : goal.overflow_sub-end
overflow_sub-end c =
    c.requires.4

pub loop-k-init : goal.loop-k-init
loop-k-init c =
    (omega arith, omega arith, omega arith, c.requires.5, refl)

pub record_size-size-requires : goal.record_size-size-requires
record_size-size-requires c =
    (c.requires.0, c.requires.1, c.loop-k.invariant.3 _ (listed_in c.loop-k.k c.args.at.now (omega arith)))

pub overflow_add-size : goal.overflow_add-size
overflow_add-size c =
    let size_low : c.record_size-size.result ≤ 110 = let inside = c.loop-k.invariant.3 _ (listed_in c.loop-k.k c.args.at.now (omega arith)) in
    subst (λ (n : ℕ). n ≤ 110) (sym c.record_size-size.ensures) (record-low c.args.table.now c.requires.0 c.args.p c.requires.1 _ inside) in
    let s = size_low in
    let v = c.loop-k.invariant in
    let q = c.requires in
    omega (arith, s, v, q.3)

pub loop-k-preserved : goal.loop-k-preserved
loop-k-preserved c =
    let size_low : c.record_size-size.result ≤ 110 = let inside = c.loop-k.invariant.3 _ (listed_in c.loop-k.k c.args.at.now (omega arith)) in
    subst (λ (n : ℕ). n ≤ 110) (sym c.record_size-size.ensures) (record-low c.args.table.now c.requires.0 c.args.p c.requires.1 _ inside) in
    let a = c.args in
    let w = c.loop-k in
    let s = size_low in
    let h : a.n - a.count < w.k = c.loop-k-test.true in
    let rest = ap (λ (qs : List ℕ). length (delta_bytes (records_at (decode a.table.now) a.p qs))) (next-taken w.k (a.n - a.count) a.at.now h)
    ∙ next-record (decode a.table.now) a.p (get_or a.at.now (w.k - 1) 0) (take (w.k - 1 - (a.n - a.count)) (listed (w.k - 1) a.at.now)) in
    let own = c.record_size-size.ensures in
    let sum = w.invariant.4 in (
      omega (arith, w.invariant.0),
      omega (arith, h),
      omega (arith, s, h, w.invariant.2, w.invariant.0),
      λ x m. w.invariant.3 x (listed-lower w.k a.at.now (omega arith) m),
      omega (arith, rest, own, sum),
    )

pub returns : goal.returns
returns c =
    let a = c.args in
    let w = c.loop-k in
    let t = decode a.table.now in
    let low : a.count ≤ a.n = c.requires.4 in
    let over : w.k ≤ a.n - a.count = omega (arith, c.loop-k-test.false) in
    let all : a.n - (a.n - a.count) ≡ a.count = omega arith in
    let none = ap (λ (qs : List ℕ). length (delta_bytes (records_at t a.p qs))) (none-taken w.k (a.n - a.count) a.at.now over) ∙ no_record t a.p in
    let sum = w.invariant.4 in
    let long = count-taken a.count a.n a.at.now low in
    let some = c.if-count-eq0.false in
    let whole = some_size t a.p a.from (take a.count (listed a.n a.at.now)) (omega (arith, long, some)) in
    let same = ap (λ (m : ℕ). length (delta_bytes (records_at t a.p (take m (listed a.n a.at.now))))) all in
    omega (arith, none, sum, whole, same)
