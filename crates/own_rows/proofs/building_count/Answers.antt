-- `own_rows::building_count` meets its contract: where the records of the two part lies from `low` up to `high`. Assumes nothing.
use Prim.Native.Nat.{ℕ, ◌+◌, ◌/◌, ◌≤◌, ◌<◌}
use mathlib.Core.Path.{◌≡◌, sym, ap, ◌∙◌}
use mathlib.Core.List.{List}
use native.Mathlib.Omega.{arith}
use Rattle.fields.specs.Numbers.{nat_of}
use Rattle.fields.specs.Parts.{part}
use Rattle.fields.specs.Widths.{offset}
use Rattle.rules.specs.Layout.{rec_widths, rec_place}
use Rattle.table.specs.Tests.{count_of, recs_in}
use Rattle.table.specs.Fits.{LaidNode}
use Rattle.table.proofs.Places.{length-recs}
use Rattle.own_rows.proofs.First.{both-counted, left-of, right_of}
use Rattle.own_rows.proofs.building_count.Goals as goal

-- the middle of a piece of the node's rows
middle : (b : List ℕ) (low high : ℕ) → LaidNode b → low < high → high ≤ count_of b
    → (low ≤ (low + high) / 2) × ((low + high) / 2 < high) × ((low + high) / 2 < count_of b) × ((low + high) / 2 < 32)
middle b low high o h g =
    let below : (low + high) / 2 < high = omega arith in
    (omega arith, below, omega arith, omega (arith, o.few))

-- the byte that was read there
read_at : (b : List ℕ) (j p x : ℕ) → p ≡ rec_place j → x ≡ nat_of (part (p + offset rec_widths 1) 1 b) → x ≡ nat_of (part (rec_place j + offset rec_widths 1) 1 b)
read_at b j p x e q = q ∙ ap (λ (k : ℕ). nat_of (part (k + offset rec_widths 1) 1 b)) e

pub loop-low-init : goal.loop-low-init
loop-low-init c =
    let b : List ℕ = c.args.node.now in
    let n = c.byte_at-high.ensures.0 in
    (omega arith, omega (arith, n, both-counted (recs_in b) c.requires.1 c.requires.2, length-recs b), omega (arith, n))

pub loop-low-preserved-then-first-eq-BUILDING : goal.loop-low-preserved-then-first-eq-BUILDING
loop-low-preserved-then-first-eq-BUILDING c =
    let b : List ℕ = c.args.node.now in
    let l = c.loop-low in
    let m = middle b l.low l.high c.requires.0 c.loop-low-test.true l.invariant.2 in
    let is = read_at b ((l.low + l.high) / 2) _ _ c.record_place.ensures c.byte_at-first.ensures.0 in
    (left-of b c.requires.0 ((l.low + l.high) / 2) m.2 c.requires.1 c.requires.2 (sym is ∙ c.if-first-eq-BUILDING.true), l.invariant.1, l.invariant.2)

pub loop-low-preserved : goal.loop-low-preserved
loop-low-preserved c =
    let b : List ℕ = c.args.node.now in
    let l = c.loop-low in
    let m = middle b l.low l.high c.requires.0 c.loop-low-test.true l.invariant.2 in
    let is = read_at b ((l.low + l.high) / 2) _ _ c.record_place.ensures c.byte_at-first.ensures.0 in
    (l.invariant.0, right_of b c.requires.0 ((l.low + l.high) / 2) m.2 c.requires.1 c.requires.2 (λ e. c.if-first-eq-BUILDING.false (is ∙ e)), omega arith)
