-- `local_node::is_same` meets its contract. Assumes nothing.
use Prim.Native.Nat.{ℕ, ◌≤◌}
use mathlib.Core.Path.{◌≡◌, ap, sym, ◌∙◌, subst}
use mathlib.Core.List.{List}
use lib.ListN.{length}
use Rattle.fields.specs.Order.{same_bytes}
use Rattle.rules.specs.Sizes.{max_key, max_value}
use Rattle.rules.specs.Node.{same_status}
use Rattle.rules.specs.Layout.{rec_width, decode_rec}
use Rattle.rules.specs.declared.Record.{Record}
use Rattle.table.specs.Tests.{key_length, value_length}
use Rattle.table.proofs.Places.{rec_at}
use Rattle.table.proofs.Laid.{laid-key, laid-value, rec-long}
use Rattle.local_node.proofs.Deciding.{alike-by, not_alike}
use Rattle.local_node.proofs.is_same.Goals as goal

pub read_record-requires : goal.read_record-requires
read_record-requires c =
    let long : length c.record_of-x.result.now ≡ rec_width = ap length c.record_of-x.ensures ∙ rec-long c.args.node.now c.requires.0 c.args.j c.requires.1 in
    let value-short : value_length c.record_of-x.result.now ≤ max_value = subst (λ (x : List ℕ). value_length x ≤ max_value) (sym c.record_of-x.ensures) (laid-value c.args.node.now c.requires.0 c.args.j c.requires.1) in (
      long,
      subst (λ (x : List ℕ). key_length x ≤ max_key) (sym c.record_of-x.ensures) (laid-key c.args.node.now c.requires.0 c.args.j c.requires.1),
      value-short,
    )

pub value_of-requires : goal.value_of-requires
value_of-requires c =
    let long : length c.record_of-x.result.now ≡ rec_width = ap length c.record_of-x.ensures ∙ rec-long c.args.node.now c.requires.0 c.args.j c.requires.1 in
    let value-short : value_length c.record_of-x.result.now ≤ max_value = subst (λ (x : List ℕ). value_length x ≤ max_value) (sym c.record_of-x.ensures) (laid-value c.args.node.now c.requires.0 c.args.j c.requires.1) in
    (long, value-short)

pub returns-then-same_status : goal.returns-then-same_status
returns-then-same_status c =
    let status : c.same_status.result ≡ same_status (rec_at c.args.j c.args.node.now).kv.status c.args.status = c.same_status.ensures
    ∙ ap (λ (h : Record). same_status h.status c.args.status) c.read_record.ensures
    ∙ ap (λ (x : List ℕ). same_status (decode_rec x).kv.status c.args.status) c.record_of-x.ensures in
    let a = c.args in
    alike-by (rec_at a.j a.node.now) a.value.now a.status c.same.result (sym (status) ∙ c.if-same_status.true)
    (c.same.ensures
    ∙ ap (λ (v : List ℕ). same_bytes v a.value.now)
    (c.value_of.ensures ∙ ap (λ (x : List ℕ). (decode_rec x).kv.value) c.record_of-x.ensures))

pub returns-else-same_status : goal.returns-else-same_status
returns-else-same_status c =
    let status : c.same_status.result ≡ same_status (rec_at c.args.j c.args.node.now).kv.status c.args.status = c.same_status.ensures
    ∙ ap (λ (h : Record). same_status h.status c.args.status) c.read_record.ensures
    ∙ ap (λ (x : List ℕ). same_status (decode_rec x).kv.status c.args.status) c.record_of-x.ensures in
    let a = c.args in
    c.if-same_status.false ∙ not_alike (rec_at a.j a.node.now) a.value.now a.status (sym (status) ∙ c.if-same_status.false)
