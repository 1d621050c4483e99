-- The entries of the nodes not yet passed, put behind those written, give the whole. Assumes nothing.
use Prim.Native.Nat.{ℕ, ◌+◌, ◌-◌, ◌≤◌}
use mathlib.Core.Path.{◌≡◌, ◌∙◌, ap}
use mathlib.Core.List.{List}
use native.Mathlib.Nat.{add-zero}
use native.Mathlib.Omega.{arith}
use lib.ListN.{length}
use borrow.Rule.Slice.PartMut.{put_mid}
use Rattle.fields.specs.Parts.{put}
use Rattle.fields.proofs.Lent.{lent-put}
use Rattle.rules.specs.Digest.{digest_of_node, entry_bytes, entry_width}
use Rattle.rules.specs.Layout.{decode_node}
use Rattle.rules.proofs.Digests.{entry-long}
use Rattle.digest_read.specs.Held.{back}
use Rattle.digest_write.proofs.Entries.{asked, writes-all, writes-next, writes-past, writes-room, node-long}
use Rattle.digest_write.proofs.write_entries.Goals as goal

pub entry_of-e-requires : goal.entry_of-e-requires
entry_of-e-requires c =
    ap length c.node_of.ensures ∙ node-long c.loop-i.i c.args.table.now c.requires.0.long (omega arith)

pub loop-i-preserved-then-is_excluded : goal.loop-i-preserved-then-is_excluded
loop-i-preserved-then-is_excluded c =
    let a = c.args in
    let l = c.loop-i in
    let t = asked l.i a.table.now a.excluded.now _ _ _ _ (ap back c.entry_of-e.ensures) c.node_of.ensures c.is_excluded.ensures c.if-is_excluded.true in
    (l.invariant.0, writes-past a.excluded.now a.table.now a.datagram.now l.at l.i l.datagram l.invariant.1 (omega arith) t)

pub slice_bounds-write_entry-end : goal.slice_bounds-write_entry-end
slice_bounds-write_entry-end c =
    let a = c.args in
    let l = c.loop-i in
    let t = asked l.i a.table.now a.excluded.now _ _ _ _ (ap back c.entry_of-e.ensures) c.node_of.ensures c.is_excluded.ensures c.if-is_excluded.false in
    writes-room a.excluded.now a.table.now a.datagram.now l.at l.i l.datagram l.invariant.1 (omega arith) t

pub loop-i-preserved : goal.loop-i-preserved
loop-i-preserved c =
    let a = c.args in
    let l = c.loop-i in
    let x = back c.entry_of-e.result in
    let t = asked l.i a.table.now a.excluded.now _ _ _ _ (ap back c.entry_of-e.ensures) c.node_of.ensures c.is_excluded.ensures c.if-is_excluded.false in
    let free : l.at + entry_width ≤ length l.datagram = writes-room a.excluded.now a.table.now a.datagram.now l.at l.i l.datagram l.invariant.1 (omega arith) t in
    let k = entry-long x in
    let w = c.write_entry in
    let p : put_mid l.at (l.at + entry_width - l.at) l.datagram w.new.datagram ≡ put l.at (entry_bytes x) l.datagram =
    lent-put l.at entry_width 0 (entry_bytes x) l.datagram w.new.datagram free (omega arith) w.ensures w.auto.datagram
    ∙ ap (λ (n : ℕ). put n (entry_bytes x) l.datagram) (add-zero l.at) in
    let n = ap back c.entry_of-e.ensures ∙ ap (λ (b : List ℕ). digest_of_node (decode_node b)) c.node_of.ensures in
    (l.invariant.0, writes-next a.excluded.now a.table.now a.datagram.now l.at l.i l.datagram l.invariant.1 x _ (omega arith) t n p)

pub returns : goal.returns
returns c =
    let a = c.args in
    let l = c.loop-i in
    writes-all a.excluded.now a.table.now a.datagram.now l.at l.i l.datagram l.invariant.1 (omega arith)
