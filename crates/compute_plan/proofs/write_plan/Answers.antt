-- `compute_plan::write_plan` meets its contract: the plan's delta, or 23. Assumes nothing.
use native.Mathlib.Omega.{arith}
use Rattle.rules.specs.Layout.{decode}
use Rattle.table.proofs.Tables.{valid-obeys}
use Rattle.digest_read.specs.Held.{entries_in}
use Rattle.compute_plan.proofs.Calling.{as_long, at-fault, good-plan, not_taken, part-long, taken-whole, within}
use Rattle.compute_plan.proofs.write_plan.Goals as goal

pub returns-then-is_err : goal.returns-then-is_err
returns-then-is_err c =
    let a = c.args in
    not_taken a.excluded.now a.nodes.now a.counts.now a.mtu (entries_in a.digest) (decode a.table.now) a.place a.datagram.now (at-fault a.excluded.now a.nodes.now a.counts.now a.mtu (entries_in a.digest) (decode a.table.now) (valid-obeys a.table.now c.requires.0) _ c.judge_lines-judged.ensures _ c.is_err.ensures.value c.if-is_err.true)

pub write_lines-sent-requires : goal.write_lines-sent-requires
write_lines-sent-requires c =
    let a = c.args in
    let taken = good-plan a.excluded.now a.nodes.now a.counts.now a.mtu (entries_in a.digest) (decode a.table.now) (valid-obeys a.table.now c.requires.0) _ c.judge_lines-judged.ensures _ c.is_err.ensures.value c.if-is_err.false in
    let l = part-long a.place a.mtu a.datagram.now c.requires.1 in
    let w = within a.excluded.now a.nodes.now a.counts.now a.mtu (entries_in a.digest) (decode a.table.now) taken in
    (c.requires.0, as_long a.excluded.now a.nodes.now a.counts.now a.mtu (entries_in a.digest) (decode a.table.now) taken, omega (arith, l, w))

pub returns : goal.returns
returns c =
    let a = c.args in
    taken-whole a.excluded.now a.nodes.now a.counts.now a.mtu (entries_in a.digest) (decode a.table.now) a.place a.datagram.now (good-plan a.excluded.now a.nodes.now a.counts.now a.mtu (entries_in a.digest) (decode a.table.now) (valid-obeys a.table.now c.requires.0) _ c.judge_lines-judged.ensures _ c.is_err.ensures.value c.if-is_err.false) _ _ c.requires.1
    c.write_lines-sent.ensures c.write_lines-sent.auto.datagram
