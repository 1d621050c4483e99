-- `plan_lines::write_lines` meets its contract: the lines that are left, behind those that are written, have the whole's outcome. Assumes nothing.
use Prim.Native.Nat.{ℕ, ◌+◌, ◌≤◌, ◌<◌}
use mathlib.Core.List.{List, ◌++◌}
use mathlib.Core.Path.{◌≡◌, ◌∙◌, ap, subst}
use native.Mathlib.Omega.{arith}
use lib.ListN.{drop, get_or, length, length-append}
use Rattle.rules.specs.Compute.{StaleNode}
use Rattle.rules.specs.Delta.{Op, delta_bytes}
use Rattle.rules.specs.Layout.{decode}
use Rattle.digest_read.specs.Held.{entries_in}
use Rattle.plan.proofs.Judging.{bytes-append}
use Rattle.plan.specs.Plan.{line_ops, named, plan_ops, stale_for}
use Rattle.plan_lines.proofs.Sums.{Summed, all-summed, lent-long, line-summed, none-summed}
use Rattle.plan_lines.proofs.Turns.{next-line, no_lines}
use Rattle.plan_lines.proofs.write_lines.Goals as goal

-- ---- a turn: what is left begins with the operations of line j, and they have room
module _ (ss : List StaleNode) (nodes counts : List ℕ) {d l : List ℕ} {ops used j : ℕ} (e : length nodes ≡ length counts) (h : j < length nodes)
    (w : Summed (plan_ops ss nodes counts) d ops used (plan_ops ss (drop j nodes) (drop j counts)) l) where
  abbrev own : List Op
  own = line_ops (get_or counts j 0) (named (get_or nodes j 0) ss)

  abbrev others : List Op
  others = plan_ops ss (drop (j + 1) nodes) (drop (j + 1) counts)

  turn : Summed (plan_ops ss nodes counts) d ops used (own ++ others) l
  turn = subst (λ (os : List Op). Summed (plan_ops ss nodes counts) d ops used os l) (next-line ss nodes counts j h (omega (arith, h, e))) w

  own-room : used + length (delta_bytes own) ≤ length l
  own-room =
      let long = ap length (bytes-append own others) ∙ length-append (delta_bytes own) (delta_bytes others) in
      omega (arith, turn.room, long)

pub loop-j-init : goal.loop-j-init
loop-j-init c =
    let a = c.args in
    (omega arith, none-summed (plan_ops (stale_for a.excluded.now (entries_in a.digest) (decode a.table.now)) a.nodes.now a.counts.now) a.datagram.now c.requires.2)

pub bounds-counts-j : goal.bounds-counts-j
bounds-counts-j c =
    let h = c.loop-j-test.true in
    let e = c.requires.1 in
    omega (arith, h, e)

pub slice_bounds-write_named-count : goal.slice_bounds-write_named-count
slice_bounds-write_named-count c =
    let a = c.args in
    omega (arith, own-room (stale_for a.excluded.now (entries_in a.digest) (decode a.table.now)) a.nodes.now a.counts.now c.requires.1 c.loop-j-test.true c.loop-j.invariant.1)

pub slice_bounds-write_named-start : goal.slice_bounds-write_named-start
slice_bounds-write_named-start c =
    let a = c.args in
    omega (arith, own-room (stale_for a.excluded.now (entries_in a.digest) (decode a.table.now)) a.nodes.now a.counts.now c.requires.1 c.loop-j-test.true c.loop-j.invariant.1)

pub write_named-sent-requires : goal.write_named-sent-requires
write_named-sent-requires c =
    let a = c.args in
    (c.requires.0, omega (arith, own-room (stale_for a.excluded.now (entries_in a.digest) (decode a.table.now)) a.nodes.now a.counts.now c.requires.1 c.loop-j-test.true c.loop-j.invariant.1, lent-long c.loop-j.used c.loop-j.datagram))

pub overflow_add-ops : goal.overflow_add-ops
overflow_add-ops c =
    let a = c.args in
    let summed = line-summed c.loop-j.ops c.loop-j.used _ _ c.loop-j.datagram _ _ c.write_named-sent.ensures (turn (stale_for a.excluded.now (entries_in a.digest) (decode a.table.now)) a.nodes.now a.counts.now c.requires.1 c.loop-j-test.true c.loop-j.invariant.1) in
    omega (arith, summed.few, summed.room, summed.long)

pub overflow_add-used : goal.overflow_add-used
overflow_add-used c =
    let a = c.args in
    let summed = line-summed c.loop-j.ops c.loop-j.used _ _ c.loop-j.datagram _ _ c.write_named-sent.ensures (turn (stale_for a.excluded.now (entries_in a.digest) (decode a.table.now)) a.nodes.now a.counts.now c.requires.1 c.loop-j-test.true c.loop-j.invariant.1) in
    omega (arith, summed.room, summed.long)

pub loop-j-preserved : goal.loop-j-preserved
loop-j-preserved c =
    let a = c.args in
    let summed = line-summed c.loop-j.ops c.loop-j.used _ _ c.loop-j.datagram _ _ c.write_named-sent.ensures (turn (stale_for a.excluded.now (entries_in a.digest) (decode a.table.now)) a.nodes.now a.counts.now c.requires.1 c.loop-j-test.true c.loop-j.invariant.1) in
    (omega (arith, c.loop-j-test.true), summed)

pub shape_of-datagram : goal.shape_of-datagram
shape_of-datagram c =
    c.loop-j.invariant.1.long

pub returns : goal.returns
returns c =
    let w = c.loop-j in
    let a = c.args in
    all-summed w.ops w.used _ w.datagram (no_lines (stale_for a.excluded.now (entries_in a.digest) (decode a.table.now)) a.nodes.now a.counts.now w.j c.loop-j-test.false) w.invariant.1
