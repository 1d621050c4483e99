-- The count so far and the nodes not yet passed give the whole count. Assumes nothing.
use Prim.Native.Nat.{ℕ}
use mathlib.Core.Path.{◌∙◌, ap, sym}
use native.Mathlib.Omega.{arith}
use lib.ListN.{length}
use Rattle.rules.specs.Table.{among}
use Rattle.digest_write.proofs.Entries.{counts_all, counts-next, counts_past, node-long, number_is}
use Rattle.digest_write.proofs.count_written.Goals as goal

pub read_u64-number-requires : goal.read_u64-number-requires
read_u64-number-requires c =
    let e = ap length c.node_of.ensures ∙ node-long c.loop-i.i c.args.table.now c.requires.long (omega arith) in
    omega arith

pub loop-i-preserved-then-is_excluded : goal.loop-i-preserved-then-is_excluded
loop-i-preserved-then-is_excluded c =
    let l = c.loop-i in
    let n = number_is l.i _ c.args.table.now _ c.read_u64-number.ensures c.node_of.ensures in
    let t = ap (λ (k : ℕ). among k c.args.excluded.now) (sym n) ∙ sym c.is_excluded.ensures ∙ c.if-is_excluded.true in
    (l.invariant.0, counts_past c.args.excluded.now c.args.table.now l.count l.i l.invariant.1 (omega arith) t)

pub loop-i-preserved : goal.loop-i-preserved
loop-i-preserved c =
    let l = c.loop-i in
    let n = number_is l.i _ c.args.table.now _ c.read_u64-number.ensures c.node_of.ensures in
    let t = ap (λ (k : ℕ). among k c.args.excluded.now) (sym n) ∙ sym c.is_excluded.ensures ∙ c.if-is_excluded.false in
    (l.invariant.0, counts-next c.args.excluded.now c.args.table.now l.count l.i l.invariant.1 (omega arith) t)

pub returns : goal.returns
returns c =
    let l = c.loop-i in
    let w = l.invariant.1 in
    (counts_all c.args.excluded.now c.args.table.now l.count l.i w (omega arith), omega (arith, c.requires.few))
