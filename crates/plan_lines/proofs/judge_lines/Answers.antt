-- `plan_lines::judge_lines` meets its contract: what the lines from j on come to is what all come to. Assumes nothing.
use Prim.Native.Nat.{ℕ, ◌+◌, ◌-◌, ◌≤◌}
use mathlib.Core.Path.{◌∙◌, ◌≡◌, ap, refl, sym}
use native.Mathlib.Omega.{arith}
use lib.ListN.{length}
use lib.Seq.{length-take-le}
use Rattle.rules.specs.Layout.{decode}
use Rattle.digest_read.specs.Held.{entries_in}
use Rattle.plan_lines.proofs.Turns.{all_lines, at-fault, from-line, line-good, lone-count, lone-node, no_line}
use Rattle.plan_lines.proofs.judge_lines.Goals as goal

pub loop-j-init : goal.loop-j-init
loop-j-init c =
    (omega arith, refl)

pub returns-then-counts-j : goal.returns-then-counts-j
returns-then-counts-j c =
    let a = c.args in
    let w = c.loop-j in
    lone-node a.excluded.now (entries_in a.digest) (decode a.table.now) a.nodes.now a.counts.now w.j w.left c.loop-j-test.true c.if-counts-j.true
    ∙ w.invariant.1
    ∙ all_lines a.excluded.now (entries_in a.digest) (decode a.table.now) a.nodes.now a.counts.now a.mtu

pub slice_bounds-judge_line-end : goal.slice_bounds-judge_line-end
slice_bounds-judge_line-end c =
    let h = c.loop-j-test.true in
    sym (length-take-le c.loop-j.j c.args.nodes.now (omega (arith, h)))

pub judge_line-requires : goal.judge_line-requires
judge_line-requires c =
    c.requires

pub overflow_sub-left : goal.overflow_sub-left
overflow_sub-left c =
    let good : let w = c.loop-j in
    let a = c.args in
    let ds = entries_in a.digest in
    let t = decode a.table.now in
    (c.in-Ok.size ≤ w.left)
    × (from-line a.excluded.now ds t a.nodes.now a.counts.now w.j w.left
    ≡ from-line a.excluded.now ds t a.nodes.now a.counts.now (w.j + 1) (w.left - c.in-Ok.size)) = let w = c.loop-j in
    let a = c.args in
    line-good a.excluded.now (entries_in a.digest) (decode a.table.now) a.nodes.now a.counts.now w.j w.left c.loop-j-test.true c.if-counts-j.false
    _ _ c.judge_line.ensures c.in-Ok.is in
    (good).0

pub returns-in-Err : goal.returns-in-Err
returns-in-Err c =
    let w = c.loop-j in
    let a = c.args in
    at-fault a.excluded.now (entries_in a.digest) (decode a.table.now) a.nodes.now a.counts.now w.j w.left c.loop-j-test.true c.if-counts-j.false
    _ _ c.judge_line.ensures c.in-Err.is
    ∙ w.invariant.1
    ∙ all_lines a.excluded.now (entries_in a.digest) (decode a.table.now) a.nodes.now a.counts.now a.mtu

pub loop-j-preserved : goal.loop-j-preserved
loop-j-preserved c =
    let good : let w = c.loop-j in
    let a = c.args in
    let ds = entries_in a.digest in
    let t = decode a.table.now in
    (c.in-Ok.size ≤ w.left)
    × (from-line a.excluded.now ds t a.nodes.now a.counts.now w.j w.left
    ≡ from-line a.excluded.now ds t a.nodes.now a.counts.now (w.j + 1) (w.left - c.in-Ok.size)) = let w = c.loop-j in
    let a = c.args in
    line-good a.excluded.now (entries_in a.digest) (decode a.table.now) a.nodes.now a.counts.now w.j w.left c.loop-j-test.true c.if-counts-j.false
    _ _ c.judge_line.ensures c.in-Ok.is in
    let h = c.loop-j-test.true in
    (omega (arith, h), sym (good).1 ∙ c.loop-j.invariant.1)

pub returns-then-nodes-counts : goal.returns-then-nodes-counts
returns-then-nodes-counts c =
    let w = c.loop-j in
    let a = c.args in
    let ds = entries_in a.digest in
    let t = decode a.table.now in
    let n = length a.nodes.now in
    let last : n ≡ w.j = omega (arith, c.loop-j-test.false, w.invariant.0) in
    lone-count a.excluded.now ds t a.nodes.now a.counts.now n w.left (omega arith) c.if-nodes-counts.true
    ∙ ap (λ (j : ℕ). from-line a.excluded.now ds t a.nodes.now a.counts.now j w.left) last
    ∙ w.invariant.1
    ∙ all_lines a.excluded.now ds t a.nodes.now a.counts.now a.mtu

pub returns : goal.returns
returns c =
    let w = c.loop-j in
    let a = c.args in
    no_line a.excluded.now (entries_in a.digest) (decode a.table.now) a.nodes.now a.counts.now w.j w.left c.loop-j-test.false
    (omega (arith, c.if-nodes-counts.false, c.loop-j-test.false))
    ∙ w.invariant.1
    ∙ all_lines a.excluded.now (entries_in a.digest) (decode a.table.now) a.nodes.now a.counts.now a.mtu
