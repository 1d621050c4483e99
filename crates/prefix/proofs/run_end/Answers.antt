-- `prefix::run_end` meets its contract: a key that begins with the prefix says it of those before it, and one that does not of those behind it. Assumes nothing.
use Prim.Native.Nat.{ℕ, ◌+◌, ◌/◌, ◌≤◌, ◌<◌}
use mathlib.Core.Path.{sym, ◌∙◌}
use native.Mathlib.Omega.{arith}
use Rattle.table.specs.Tests.{count_of}
use Rattle.prefix.specs.Run.{key_at}
use Rattle.prefix.proofs.Run.{early-not, all-before, none-behind}
use Rattle.prefix.proofs.run_end.Goals as goal

halved : (a b : ℕ) → a < b → (a ≤ (a + b) / 2) × ((a + b) / 2 < b)
halved a b h = (omega arith, omega arith)

pub loop-low-init : goal.loop-low-init
loop-low-init c =
    let f = c.requires.2 in
    let n = c.byte_at-high.ensures.0 in (
      omega arith,
      omega (arith, n, f.inside),
      omega (arith, n),
      λ i h g. absurd (omega arith),
      λ i h g. absurd (omega (arith, n)),
    )

pub overflow_add-j : goal.overflow_add-j
overflow_add-j c =
    omega (arith, c.loop-low.invariant.1, c.loop-low.invariant.2, c.byte_at-high.ensures)

pub begins-requires : goal.begins-requires
begins-requires c =
    let mid : ℕ = (c.loop-low.low + c.loop-low.high) / 2 in
    let halves : (c.loop-low.low ≤ mid) × (mid < c.loop-low.high) = halved c.loop-low.low c.loop-low.high c.loop-low-test.true in
    let within : mid < count_of c.args.node.now = omega (arith, (halves).1, c.loop-low.invariant.2) in
    (c.requires.0, within)

pub overflow_add-low : goal.overflow_add-low
overflow_add-low c =
    let mid : ℕ = (c.loop-low.low + c.loop-low.high) / 2 in
    let halves : (c.loop-low.low ≤ mid) × (mid < c.loop-low.high) = halved c.loop-low.low c.loop-low.high c.loop-low-test.true in
    omega (arith, (halves).1, c.loop-low.invariant.2, c.byte_at-high.ensures)

pub loop-low-smaller-then-begins : goal.loop-low-smaller-then-begins
loop-low-smaller-then-begins c =
    let mid : ℕ = (c.loop-low.low + c.loop-low.high) / 2 in
    let halves : (c.loop-low.low ≤ mid) × (mid < c.loop-low.high) = halved c.loop-low.low c.loop-low.high c.loop-low-test.true in
    omega (arith, halves)

pub loop-low-preserved-then-begins : goal.loop-low-preserved-then-begins
loop-low-preserved-then-begins c =
    let mid : ℕ = (c.loop-low.low + c.loop-low.high) / 2 in
    let halves : (c.loop-low.low ≤ mid) × (mid < c.loop-low.high) = halved c.loop-low.low c.loop-low.high c.loop-low-test.true in
    let within : mid < count_of c.args.node.now = omega (arith, (halves).1, c.loop-low.invariant.2) in
    let t = halves in (
      omega (arith, t.0, c.loop-low.invariant.0),
      omega (arith, t.1),
      c.loop-low.invariant.2,
      λ m h g.
          all-before c.args.prefix.now c.args.node.now c.requires.1 c.args.from c.requires.2 m (mid) h (omega arith) (within)
          (sym c.begins.ensures ∙ c.if-begins.true),
      c.loop-low.invariant.4,
    )

pub loop-low-smaller : goal.loop-low-smaller
loop-low-smaller c =
    let mid : ℕ = (c.loop-low.low + c.loop-low.high) / 2 in
    let halves : (c.loop-low.low ≤ mid) × (mid < c.loop-low.high) = halved c.loop-low.low c.loop-low.high c.loop-low-test.true in
    omega (arith, halves)

pub loop-low-preserved : goal.loop-low-preserved
loop-low-preserved c =
    let mid : ℕ = (c.loop-low.low + c.loop-low.high) / 2 in
    let halves : (c.loop-low.low ≤ mid) × (mid < c.loop-low.high) = halved c.loop-low.low c.loop-low.high c.loop-low-test.true in
    let t = halves in (
      c.loop-low.invariant.0,
      t.0,
      omega (arith, t.1, c.loop-low.invariant.2),
      c.loop-low.invariant.3,
      λ m h g.
          none-behind c.args.prefix.now c.args.node.now c.requires.1 c.args.from c.requires.2 (mid) m (omega (arith, t.0, c.loop-low.invariant.0)) h g
          (sym c.begins.ensures ∙ c.if-begins.false),
    )

pub returns : goal.returns
returns c =
    let e : c.loop-low.high ≤ c.loop-low.low = omega arith in
    record {
      order = c.loop-low.invariant.0;
      inside = omega (arith, c.loop-low.invariant.1, c.loop-low.invariant.2);
      before = λ j h. early-not c.args.prefix.now (key_at j c.args.node.now) (c.requires.2.early j h);
      within = c.loop-low.invariant.3;
      behind = λ j h g. c.loop-low.invariant.4 j (omega arith) g;
    }
