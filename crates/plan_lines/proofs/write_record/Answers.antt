-- `plan_lines::write_record` meets its contract: where the record fits, its operation is stored. Assumes nothing.
use Prim.Native.Nat.{◌+◌, ◌≤◌}
use mathlib.Core.List.{[]}
use mathlib.Core.Path.{◌∙◌, ◌≡◌, ap, sym}
use native.Mathlib.Omega.{arith}
use lib.ListN.{get_or, length}
use Rattle.fields.specs.Numbers.{Bytes}
use Rattle.fields.specs.Parts.{put}
use Rattle.rules.specs.Delta.{KeyValueOp, Op, beside_texts, op_bytes, size_of}
use Rattle.rules.specs.Layout.{decode, decode_rec, rec_width}
use Rattle.rules.specs.Node.{Rec}
use Rattle.rules.specs.Sizes.{max_key, max_value}
use Rattle.table.specs.Tests.{key_length, value_length}
use Rattle.table_read.proofs.Located.{lent-record, lent-text, record_is}
use Rattle.table_read.specs.Find.{entry_at}
use Rattle.record_write.proofs.Words.{record-width}
use Rattle.delta_write.proofs.Fronts.{fits, no-fit}
use Rattle.compute_write.specs.Sending.{record_at}
use Rattle.plan_lines.proofs.write_record.Goals as goal

abbrev Texts : Bytes → Type 0
Texts x = (length x ≡ rec_width) × (key_length x ≤ max_key) × (value_length x ≤ max_value)

pub returns-then-datagram-record_size : goal.returns-then-datagram-record_size
returns-then-datagram-record_size c =
    let op : Op = KeyValueOp (record_at (decode c.args.table.now) c.args.p c.args.q) in
    no-fit (op) c.record_size.result c.args.datagram.now (sym c.record_size.ensures) c.if-datagram-record_size.true

pub record_of-b-requires : goal.record_of-b-requires
record_of-b-requires c =
    lent-record c.args.table.now c.requires.0 c.args.p c.requires.1 _ c.node_of.ensures c.args.q c.requires.2

pub store_record-requires : goal.store_record-requires
store_record-requires c =
    let bytes : Bytes = c.record_of-b.result.now in
    let texts : Texts (bytes) = lent-text c.args.table.now c.requires.0 c.args.p c.requires.1 _ c.node_of.ensures c.args.q c.requires.2 _ c.record_of-b.ensures in
    let op : Op = KeyValueOp (record_at (decode c.args.table.now) c.args.p c.args.q) in
    let is-record : let a = c.args in
    decode_rec (bytes) ≡ get_or (entry_at (decode a.table.now) a.p).node.recs a.q (decode_rec []) = record_is c.args.table.now c.requires.0 c.args.p c.requires.1 _ c.node_of.ensures c.args.q c.requires.2 _ c.record_of-b.ensures in
    let width : size_of (op) ≡ beside_texts + key_length (bytes) + value_length (bytes) = let t = texts in
    ap (λ (r : Rec). size_of (KeyValueOp r.kv)) (sym (is-record)) ∙ record-width (bytes) t.0 t.1 t.2 in
    let room : beside_texts + key_length (bytes) + value_length (bytes) ≤ length c.args.datagram.now = let w = width in omega (arith, w, c.record_size.ensures, c.if-datagram-record_size.false) in
    let t = texts in (t.0, t.1, t.2, room)

pub returns : goal.returns
returns c =
    let op : Op = KeyValueOp (record_at (decode c.args.table.now) c.args.p c.args.q) in
    let bytes : Bytes = c.record_of-b.result.now in
    let texts : Texts (bytes) = lent-text c.args.table.now c.requires.0 c.args.p c.requires.1 _ c.node_of.ensures c.args.q c.requires.2 _ c.record_of-b.ensures in
    let is-record : let a = c.args in
    decode_rec (bytes) ≡ get_or (entry_at (decode a.table.now) a.p).node.recs a.q (decode_rec []) = record_is c.args.table.now c.requires.0 c.args.p c.requires.1 _ c.node_of.ensures c.args.q c.requires.2 _ c.record_of-b.ensures in
    let width : size_of (op) ≡ beside_texts + key_length (bytes) + value_length (bytes) = let t = texts in
    ap (λ (r : Rec). size_of (KeyValueOp r.kv)) (sym (is-record)) ∙ record-width (bytes) t.0 t.1 t.2 in
    let room : beside_texts + key_length (bytes) + value_length (bytes) ≤ length c.args.datagram.now = let w = width in omega (arith, w, c.record_size.ensures, c.if-datagram-record_size.false) in
    let e = c.store_record.ensures in
    let same : size_of (op) ≡ c.store_record.result = width ∙ sym e.0 in
    let h = room in
    fits (op) c.store_record.result c.args.datagram.now c.store_record.new.datagram same (omega (arith, h, e.0))
    (e.1 ∙ ap (λ (x : Rec). put 0 (op_bytes (KeyValueOp x.kv)) c.args.datagram.now) (is-record))
