-- `compute_write::write_record` meets its contract: what is written is the record at its place. Assumes nothing.
use Prim.Native.Nat.{◌≤◌}
use mathlib.Core.Path.{◌≡◌, ap, subst, ◌∙◌}
use mathlib.Core.List.{[]}
use lib.ListN.{length, get_or}
use Rattle.fields.specs.Numbers.{Bytes}
use Rattle.rules.specs.Given.{Gives}
use Rattle.rules.specs.Sizes.{max_key, max_value}
use Rattle.rules.specs.Node.{Rec}
use Rattle.rules.specs.Delta.{Op, KeyValueOp}
use Rattle.rules.specs.Layout.{rec_width, decode_rec, decode}
use Rattle.table.specs.Tests.{key_length, value_length}
use Rattle.table_read.specs.Find.{entry_at}
use Rattle.table_read.proofs.Located.{lent-node, lent-record, lent-text, record_is}
use Rattle.delta_write.specs.Written.{write_op}
use Rattle.compute_write.proofs.write_record.Goals as goal

abbrev Texts : Bytes → Type 0
Texts x = (length x ≡ rec_width) × (key_length x ≤ max_key) × (value_length x ≤ max_value)

-- ---- the needs
pub node_of-requires : goal.node_of-requires
node_of-requires c =
    lent-node c.args.table.now c.requires.0 c.args.p c.requires.1

pub record_of-b-requires : goal.record_of-b-requires
record_of-b-requires c =
    lent-record c.args.table.now c.requires.0 c.args.p c.requires.1 _ c.node_of.ensures c.args.q c.requires.2

pub read_record-r-requires : goal.read_record-r-requires
read_record-r-requires c =
    let texts : Texts c.record_of-b.result.now = lent-text c.args.table.now c.requires.0 c.args.p c.requires.1 _ c.node_of.ensures c.args.q c.requires.2 _ c.record_of-b.ensures in
    texts

pub key_of-requires : goal.key_of-requires
key_of-requires c =
    let texts : Texts c.record_of-b.result.now = lent-text c.args.table.now c.requires.0 c.args.p c.requires.1 _ c.node_of.ensures c.args.q c.requires.2 _ c.record_of-b.ensures in
    let t = texts in (t.0, t.1)

pub value_of-requires : goal.value_of-requires
value_of-requires c =
    let texts : Texts c.record_of-b.result.now = lent-text c.args.table.now c.requires.0 c.args.p c.requires.1 _ c.node_of.ensures c.args.q c.requires.2 _ c.record_of-b.ensures in
    let t = texts in (t.0, t.2)

pub returns : goal.returns
returns c =
    let is-record : let a = c.args in
    decode_rec c.record_of-b.result.now ≡ get_or (entry_at (decode a.table.now) a.p).node.recs a.q (decode_rec []) = record_is c.args.table.now c.requires.0 c.args.p c.requires.1 _ c.node_of.ensures c.args.q c.requires.2 _ c.record_of-b.ensures in
    let a = c.args in
    let k = c.key_of.ensures in
    let v = c.value_of.ensures in
    let r = c.read_record-r.ensures in
    let wrote = c.write_key_value in
    subst (λ (o : Op). Gives (write_op o a.datagram.now) wrote.result wrote.new.datagram)
    ((λ i. KeyValueOp (record { key = k i; value = v i; version = (r i).version; status = (r i).status }))
    ∙ ap (λ (x : Rec). KeyValueOp x.kv) (is-record)) wrote.ensures
