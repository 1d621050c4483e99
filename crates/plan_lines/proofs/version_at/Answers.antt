-- `plan_lines::version_at` meets its contract: what is read at the place is the version of the record there. Assumes nothing.
use mathlib.Core.List.{[]}
use mathlib.Core.Path.{◌∙◌, ◌≡◌, ap}
use native.Mathlib.Omega.{arith}
use lib.ListN.{get_or}
use Rattle.rules.specs.Layout.{decode, decode_rec}
use Rattle.rules.specs.Node.{Rec}
use Rattle.table_read.proofs.Located.{lent-node, lent-record, lent-text, record_is}
use Rattle.table_read.specs.Find.{entry_at}
use Rattle.plan_lines.proofs.version_at.Goals as goal

pub node_of-requires : goal.node_of-requires
node_of-requires c =
    lent-node c.args.table.now c.requires.0 c.args.p c.requires.1

pub record_of-b-requires : goal.record_of-b-requires
record_of-b-requires c =
    lent-record c.args.table.now c.requires.0 c.args.p c.requires.1 _ c.node_of.ensures c.args.q c.requires.2

pub read_u64-requires : goal.read_u64-requires
read_u64-requires c =
    let t = lent-text c.args.table.now c.requires.0 c.args.p c.requires.1 _ c.node_of.ensures c.args.q c.requires.2 _ c.record_of-b.ensures in
    omega (arith, t.0)

pub returns : goal.returns
unfolding decode_rec
returns c =
    let is-record : let a = c.args in
    decode_rec c.record_of-b.result.now ≡ get_or (entry_at (decode a.table.now) a.p).node.recs a.q (decode_rec []) = record_is c.args.table.now c.requires.0 c.args.p c.requires.1 _ c.node_of.ensures c.args.q c.requires.2 _ c.record_of-b.ensures in
    c.read_u64.ensures ∙ ap (λ (r : Rec). r.kv.version) (is-record)
