-- `plan_lines::line_size` meets its contract: of all stale records the sum, of a part of them those in order. Assumes nothing.
use Prim.Native.Nat.{◌+◌}
use mathlib.Core.List.{List}
use mathlib.Core.Path.{◌∙◌, ◌≡◌, ap}
use native.Mathlib.Omega.{arith}
use lib.ListN.{length}
use Rattle.rules.specs.Compute.{stale}
use Rattle.rules.specs.Delta.{Op, delta_bytes}
use Rattle.rules.specs.Layout.{decode}
use Rattle.table_read.proofs.Located.{count_low, node-long}
use Rattle.table_read.specs.Find.{entry_at}
use Rattle.compute_write.proofs.Lines.{stale-few, stale-long, stale-within}
use Rattle.plan_lines.specs.declared.Above.{Above}
use Rattle.plan_lines.proofs.First.{all-low, all-size}
use Rattle.plan_lines.proofs.Placed.{line-are}
use Rattle.plan_lines.proofs.Placed as placed
use Rattle.plan_lines.proofs.line_size.Goals as goal

pub overflow_add-result : goal.overflow_add-result
overflow_add-result c =
    let b : c.args.all.bytes ≡ _ = ap (λ (x : Above). x.bytes) c.requires.2 in
    let l = all-low c.args.table.now c.requires.0 c.args.p c.requires.1 c.args.from in
    omega (arith, b, l)

pub returns-then-count-all : goal.returns-then-count-all
returns-then-count-all c =
    let a = c.args in
    let all = c.requires.2 in
    ap (λ (x : Above). 25 + x.bytes) all
    ∙ all-size (decode a.table.now) a.p a.from a.count c.if-count-gt0.true (c.if-count-all.true ∙ ap (λ (x : Above). x.count) all)

pub stale_places-stale-requires : goal.stale_places-stale-requires
stale_places-stale-requires c =
    (node-long c.args.table.now c.requires.0 _ c.requires.1 _ c.node_of.ensures, count_low c.args.table.now c.requires.0 _ c.requires.1 _ c.node_of.ensures)

pub size_of-requires : goal.size_of-requires
size_of-requires c =
    let l = c.args.table.now in
    let long = placed.stale-long l c.requires.0 c.args.p c.requires.1 _ c.node_of.ensures c.args.from _ c.stale_places-stale.ensures in
    let many : c.args.all.count ≡ length (stale c.args.from (entry_at (decode l) c.args.p).node.recs) = ap (λ (x : Above). x.count) c.requires.2 in
    let most = c.requires.3 in (
      c.requires.0,
      c.requires.1,
      stale-long l c.requires.0 c.args.p c.requires.1 _ c.node_of.ensures c.args.from _ c.stale_places-stale.ensures,
      stale-few l c.requires.0 c.args.p c.requires.1 _ c.node_of.ensures c.args.from _ c.stale_places-stale.ensures,
      omega (arith, long, many, most),
      stale-within l c.requires.0 c.args.p c.requires.1 _ c.node_of.ensures c.args.from _ c.stale_places-stale.ensures,
    )

pub returns : goal.returns
returns c =
    c.size_of.ensures
    ∙ ap (λ (os : List Op). length (delta_bytes os))
    (line-are c.args.table.now c.requires.0 c.args.p c.requires.1 _ c.node_of.ensures c.args.from _ c.stale_places-stale.ensures c.args.count)
