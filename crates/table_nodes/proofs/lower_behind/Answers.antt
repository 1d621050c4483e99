-- `table_nodes::lower_behind` meets its contract: from the first place on, those below are filled and those above are as they were. Assumes nothing.
use Prim.Native.Nat.{◌+◌, ◌≤◌, ◌<◌}
use mathlib.Core.Path.{refl, ap, ◌∙◌}
use native.Mathlib.Omega.{arith}
use lib.ListN.{length}
use Rattle.rules.specs.Sizes.{max_nodes}
use Rattle.table_nodes.proofs.Moves.{down-none, down-long, down-asked, down-done}
use Rattle.table_nodes.proofs.lower_behind.Goals as goal

pub loop-k-init : goal.loop-k-init
loop-k-init c =
    (refl, down-none c.args.table.now c.requires.0 c.args.i)

pub lower-requires : goal.lower-requires
lower-requires c =
    let a = c.args in
    let q = c.loop-k in
    down-asked a.table.now c.requires.0 a.i q.k (omega arith) (omega (arith, c.loop-k-test.true)) q.table q.invariant.1 _ c.node_place-a.ensures

pub loop-k-preserved : goal.loop-k-preserved
loop-k-preserved c =
    let a = c.args in
    let q = c.loop-k in
    let behind : a.i ≤ q.k = omega arith in
    let below : q.k + 1 < max_nodes = omega (arith, c.loop-k-test.true) in
    let e = down-done a.table.now c.requires.0 a.i q.k behind below q.table q.invariant.1 _ c.node_place-a.ensures
    c.lower.new.pair c.lower.ensures c.lower.auto.pair in
    (ap length e ∙ down-long a.table.now c.requires.0 a.i (q.k + 1) (omega arith) below, e)
