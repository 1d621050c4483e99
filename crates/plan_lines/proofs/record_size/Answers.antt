-- `plan_lines::record_size` meets its contract. Assumes nothing.
use Prim.Native.Nat.{◌+◌, ◌≤◌}
use mathlib.Core.List.{[]}
use mathlib.Core.Path.{◌∙◌, ◌≡◌, ap, sym}
use native.Mathlib.Omega.{arith}
use lib.ListN.{get_or, length}
use Rattle.fields.specs.Numbers.{Bytes}
use Rattle.rules.proofs.Sending.{record_size, size-record}
use Rattle.rules.specs.Delta.{KeyValueOp, size_of}
use Rattle.rules.specs.Layout.{decode, decode_rec, rec_width}
use Rattle.rules.specs.Node.{Rec}
use Rattle.rules.specs.Sizes.{max_key, max_value}
use Rattle.table.specs.Tests.{key_length, value_length}
use Rattle.table_read.proofs.Located.{lent-node, lent-record, lent-text, record_is}
use Rattle.table_read.specs.Find.{entry_at}
use Rattle.compute_write.specs.Sending.{record_at}
use Rattle.plan_lines.proofs.First.{record-low}
use Rattle.plan_lines.proofs.record_size.Goals as goal

abbrev Texts : Bytes → Type 0
Texts x = (length x ≡ rec_width) × (key_length x ≤ max_key) × (value_length x ≤ max_value)

pub node_of-requires : goal.node_of-requires
node_of-requires c =
    lent-node c.args.table.now c.requires.0 c.args.p c.requires.1

pub record_of-b-requires : goal.record_of-b-requires
record_of-b-requires c =
    lent-record c.args.table.now c.requires.0 c.args.p c.requires.1 _ c.node_of.ensures c.args.q c.requires.2

pub key_of-requires : goal.key_of-requires
key_of-requires c =
    let texts : Texts c.record_of-b.result.now = lent-text c.args.table.now c.requires.0 c.args.p c.requires.1 _ c.node_of.ensures c.args.q c.requires.2 _ c.record_of-b.ensures in
    let t = texts in (t.0, t.1)

pub value_of-requires : goal.value_of-requires
value_of-requires c =
    let texts : Texts c.record_of-b.result.now = lent-text c.args.table.now c.requires.0 c.args.p c.requires.1 _ c.node_of.ensures c.args.q c.requires.2 _ c.record_of-b.ensures in
    let t = texts in (t.0, t.2)

pub overflow_add-result-2 : goal.overflow_add-result-2
overflow_add-result-2 c =
    let is-record : let a = c.args in
    decode_rec c.record_of-b.result.now ≡ get_or (entry_at (decode a.table.now) a.p).node.recs a.q (decode_rec []) = record_is c.args.table.now c.requires.0 c.args.p c.requires.1 _ c.node_of.ensures c.args.q c.requires.2 _ c.record_of-b.ensures in
    let sum_is : let a = c.args in
    14 + length c.key_of.result.now + length c.value_of.result.now ≡ size_of (KeyValueOp (record_at (decode a.table.now) a.p a.q)) = let a = c.args in
    let is = is-record in
    (λ i. 14 + length (c.key_of.ensures i) + length (c.value_of.ensures i))
    ∙ ap (λ (r : Rec). record_size r.kv) is
    ∙ sym (size-record (record_at (decode a.table.now) a.p a.q)) in
    let low = record-low c.args.table.now c.requires.0 c.args.p c.requires.1 c.args.q c.requires.2 in
    let e = sum_is in
    omega (arith, e, low)

pub returns : goal.returns
returns c =
    let is-record : let a = c.args in
    decode_rec c.record_of-b.result.now ≡ get_or (entry_at (decode a.table.now) a.p).node.recs a.q (decode_rec []) = record_is c.args.table.now c.requires.0 c.args.p c.requires.1 _ c.node_of.ensures c.args.q c.requires.2 _ c.record_of-b.ensures in
    let sum_is : let a = c.args in
    14 + length c.key_of.result.now + length c.value_of.result.now ≡ size_of (KeyValueOp (record_at (decode a.table.now) a.p a.q)) = let a = c.args in
    let is = is-record in
    (λ i. 14 + length (c.key_of.ensures i) + length (c.value_of.ensures i))
    ∙ ap (λ (r : Rec). record_size r.kv) is
    ∙ sym (size-record (record_at (decode a.table.now) a.p a.q)) in
    sum_is
