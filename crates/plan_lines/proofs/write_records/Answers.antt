-- `plan_lines::write_records` meets its contract: what is left to be written, behind what has been, has the whole's outcome. Assumes nothing.
use Prim.Native.Nat.{◌-◌}
use native.Mathlib.Omega.{arith}
use lib.ListN.{take}
use Rattle.rules.specs.Layout.{decode}
use Rattle.compute_stale.proofs.Arranged.{listed_in, listed-lower}
use Rattle.compute_stale.specs.Arranged.{listed}
use Rattle.compute_write.proofs.Steps.{all-written, at_first, left_is, op-written, record-unfit, unfit-long}
use Rattle.plan_lines.specs.Lines.{records_at}
use Rattle.plan_lines.proofs.First.{next-op, no-op}
use Rattle.plan_lines.proofs.write_records.Goals as goal

pub loop-k-init : goal.loop-k-init
loop-k-init c =
    let a = c.args in
    (omega arith, c.requires.4, c.requires.5, at_first (records_at (decode a.table.now) a.p (take (a.n - a.end) (listed a.n a.at.now))) a.datagram.now)

pub write_record-requires : goal.write_record-requires
write_record-requires c =
    (c.requires.0, c.requires.1, c.loop-k.invariant.2 _ (listed_in c.loop-k.k c.args.at.now (let h = c.loop-k-test.true in omega arith)))

pub overflow_add-ops : goal.overflow_add-ops
overflow_add-ops c =
    let next = left_is (next-op (decode c.args.table.now) c.args.p c.loop-k.k c.args.end c.args.at.now c.loop-k-test.true) c.loop-k.invariant.3 in
    let record-reached = op-written c.write_record.ensures c.in-Some.is next in
    let w = record-reached in
    omega (arith, w.few, w.room, w.long)

pub overflow_add-used : goal.overflow_add-used
overflow_add-used c =
    let next = left_is (next-op (decode c.args.table.now) c.args.p c.loop-k.k c.args.end c.args.at.now c.loop-k-test.true) c.loop-k.invariant.3 in
    let record-reached = op-written c.write_record.ensures c.in-Some.is next in
    let w = record-reached in
    omega (arith, w.room, w.long)

pub loop-k-preserved : goal.loop-k-preserved
loop-k-preserved c =
    let next = left_is (next-op (decode c.args.table.now) c.args.p c.loop-k.k c.args.end c.args.at.now c.loop-k-test.true) c.loop-k.invariant.3 in
    let record-reached = op-written c.write_record.ensures c.in-Some.is next in
    let w = c.loop-k in
    let h = c.loop-k-test.true in (
      omega (arith, w.invariant.0),
      omega (arith, h),
      λ x m. w.invariant.2 x (listed-lower w.k c.args.at.now (omega (arith, h)) m),
      record-reached,
    )

pub returns-after-loop-k : goal.returns-after-loop-k
returns-after-loop-k c =
    let w = c.loop-k in
    let a = c.args in
    all-written (left_is (no-op (decode a.table.now) a.p w.k a.end a.at.now c.loop-k-test.false) w.invariant.3)

pub shape_of-datagram-in_default : goal.shape_of-datagram-in_default
shape_of-datagram-in_default c =
    let next = left_is (next-op (decode c.args.table.now) c.args.p c.loop-k.k c.args.end c.args.at.now c.loop-k-test.true) c.loop-k.invariant.3 in
    unfit-long c.write_record.ensures c.in_default.is next

pub returns-in_default : goal.returns-in_default
returns-in_default c =
    let next = left_is (next-op (decode c.args.table.now) c.args.p c.loop-k.k c.args.end c.args.at.now c.loop-k-test.true) c.loop-k.invariant.3 in
    record-unfit c.write_record.ensures c.in_default.is next
