-- `plan_lines::weigh_all` meets its contract: those summed and those that are left are all. Assumes nothing.
use Prim.Native.Nat.{ℕ, ◌+◌, ◌≤◌, ◌<◌}
use mathlib.Core.List.{List, []}
use mathlib.Core.Path.{◌∙◌, ◌≡◌, ap, subst, sym}
use native.Mathlib.Nat.{zero-add}
use native.Mathlib.Omega.{arith}
use lib.ListN.{get_or, length}
use Rattle.rules.specs.Delta.{KeyValueOp, size_of}
use Rattle.rules.specs.Layout.{decode, decode_rec}
use Rattle.rules.specs.Node.{Rec}
use Rattle.table.proofs.Places.{length-recs}
use Rattle.table_read.proofs.Located.{lent-node, node-long, recs-are}
use Rattle.table_read.specs.Find.{entry_at}
use Rattle.compute_write.specs.Sending.{record_at}
use Rattle.plan_lines.proofs.First.{bytes_from, is-above, is_below, many_from, none_from, record-low}
use Rattle.plan_lines.proofs.weigh_all.Goals.{then-from-version_at, else-from-version_at}
use Rattle.plan_lines.proofs.weigh_all.Goals as goal

pub node_of-requires : goal.node_of-requires
node_of-requires c =
    lent-node c.args.table.now c.requires.0 c.args.p c.requires.1

pub byte_at-n-requires : goal.byte_at-n-requires
byte_at-n-requires c =
    let e = node-long c.args.table.now c.requires.0 c.args.p c.requires.1 _ c.node_of.ensures in
    omega (arith, e)

pub loop-i-init : goal.loop-i-init
loop-i-init c =
    let count = c.byte_at-n.ensures.0 ∙ sym (length-recs c.node_of.result.now) ∙ ap length (recs-are c.args.table.now c.requires.0 c.args.p c.requires.1 _ c.node_of.ensures) in
    (omega arith, count, omega arith, omega arith, zero-add _, zero-add _)

pub version_at-requires : goal.version_at-requires
version_at-requires c =
    let recs : List Rec = let a = c.args in (entry_at (decode a.table.now) a.p).node.recs in
    let record-in : c.loop-i.i < length (recs) = let h = c.loop-i-test.true in
    let e = c.loop-i.invariant.1 in
    omega (arith, h, e) in
    (c.requires.0, c.requires.1, record-in)

pub overflow_add-count : goal.overflow_add-count
overflow_add-count c =
    let a = c.loop-i.invariant.2 in
    let b = c.loop-i.invariant.0 in
    omega (arith, a, b, c.byte_at-n.ensures)

pub record_size-bytes-requires : goal.record_size-bytes-requires
record_size-bytes-requires c =
    let recs : List Rec = let a = c.args in (entry_at (decode a.table.now) a.p).node.recs in
    let record-in : c.loop-i.i < length (recs) = let h = c.loop-i-test.true in
    let e = c.loop-i.invariant.1 in
    omega (arith, h, e) in
    (c.requires.0, c.requires.1, record-in)

pub overflow_add-bytes : goal.overflow_add-bytes
overflow_add-bytes c =
    let recs : List Rec = let a = c.args in (entry_at (decode a.table.now) a.p).node.recs in
    let record-in : c.loop-i.i < length (recs) = let h = c.loop-i-test.true in
    let e = c.loop-i.invariant.1 in
    omega (arith, h, e) in
    let low : size_of (KeyValueOp (record_at (decode c.args.table.now) c.args.p c.loop-i.i)) ≤ 110 = record-low c.args.table.now c.requires.0 c.args.p c.requires.1 _ (record-in) in
    let a = c.loop-i.invariant.3 in
    let b = c.loop-i.invariant.0 in
    let s : c.record_size-bytes.result ≤ 110 = subst (λ (n : ℕ). n ≤ 110) (sym c.record_size-bytes.ensures) (low) in
    omega (arith, a, b, s, c.byte_at-n.ensures)

pub loop-i-preserved : goal.loop-i-preserved
loop-i-preserved c =
    let recs : List Rec = let a = c.args in (entry_at (decode a.table.now) a.p).node.recs in
    let record-in : c.loop-i.i < length (recs) = let h = c.loop-i-test.true in
    let e = c.loop-i.invariant.1 in
    omega (arith, h, e) in
    let low : size_of (KeyValueOp (record_at (decode c.args.table.now) c.args.p c.loop-i.i)) ≤ 110 = record-low c.args.table.now c.requires.0 c.args.p c.requires.1 _ (record-in) in
    let w = c.loop-i in
    let a = c.args in
    let h = c.loop-i-test.true in
    let inside = record-in in
    let read = c.version_at.ensures in
    elim c.if-from-version_at.branch [
      | then-from-version_at x ↦
          let own : (get_or (recs) w.i (decode_rec [])).kv.version ≡ c.version_at.result = sym read in
          let more = is-above a.from w.i (recs) inside (subst (λ (k : ℕ). a.from < k) (sym own) x.if-from-version_at.true) in
          let size : x.record_size-bytes.result ≡ size_of (KeyValueOp (get_or (recs) w.i (decode_rec [])).kv) = x.record_size-bytes.ensures in
          let most = low in
          let e : c.if-from-version_at.count ≡ w.count + 1 = x.count-is in
          let f : c.if-from-version_at.bytes ≡ w.bytes + x.record_size-bytes.result = x.bytes-is in (
            omega (arith, h),
            w.invariant.1,
            omega (arith, e, w.invariant.2),
            omega (arith, f, size, most, w.invariant.3),
            omega (arith, e, more.0, w.invariant.4),
            omega (arith, f, size, more.1, w.invariant.5),
          )
      | else-from-version_at x ↦
          let own : (get_or (recs) w.i (decode_rec [])).kv.version ≡ c.version_at.result = sym read in
          let same = is_below a.from w.i (recs) inside (subst (λ (k : ℕ). k ≤ a.from) (sym own) x.if-from-version_at.false) in
          let e : c.if-from-version_at.count ≡ w.count = x.count-is in
          let f : c.if-from-version_at.bytes ≡ w.bytes = x.bytes-is in (
            omega (arith, h),
            w.invariant.1,
            omega (arith, e, w.invariant.2),
            omega (arith, f, w.invariant.3),
            omega (arith, e, same.0, w.invariant.4),
            omega (arith, f, same.1, w.invariant.5),
          )
    ]

pub returns : goal.returns
returns c =
    let w = c.loop-i in
    let a = c.args in
    let all : List Rec = (entry_at (decode a.table.now) a.p).node.recs in
    let over = c.loop-i-test.false in
    let none = none_from a.from w.i all (omega (arith, over, w.invariant.1)) in
    let many : w.count ≡ many_from a.from 0 all = omega (arith, none.0, w.invariant.4) in
    let bytes : w.bytes ≡ bytes_from a.from 0 all = omega (arith, none.1, w.invariant.5) in
    λ i. record { count = many i; bytes = bytes i }
