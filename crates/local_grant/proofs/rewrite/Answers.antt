-- `local_grant::rewrite` meets its contract: max rises first, and the key's record then takes that version. The laws are those of `grant`. Assumes nothing.
use Prim.Native.Nat.{ℕ, ◌+◌, ◌<◌}
use mathlib.Core.Path.{◌≡◌, refl, ap, sym, ◌∙◌}
use mathlib.Core.List.{List}
use native.Mathlib.Omega.{arith}
use Rattle.rules.specs.Sizes.{numbers, top}
use Rattle.rules.specs.Node.{Change, Rec}
use Rattle.rules.specs.Layout.{encode_node, decode_node}
use Rattle.rules.specs.declared.Refusal.TheVariants.{Exhausted}
use Rattle.table.specs.Changes.{with_recs, rec_of}
use Rattle.table.specs.Tests.{recs_in}
use Rattle.table_read.specs.Find.{find_key}
use Rattle.table_read.specs.declared.Place.TheVariants.{At}
use Rattle.table_read.proofs.Searched.{rec-in}
use Rattle.table_read.proofs.Placed.{store_at}
use Rattle.local_grant.specs.Granting.{node_in, change_of, allowed_at}
use Rattle.local_grant.proofs.Acting.{refused, room, cannot-rise, can-rise, max-laid, max-recs, given}
use Rattle.local_grant.proofs.rewrite.Goals as goal

pub returns-then-max : goal.returns-then-max
unfolding decode_node
returns-then-max c =
    let change : Change = change_of c.args.value.now c.args.status c.args.start in
    let max : c.read_u64-max.result ≡ (node_in c.args.node.now).max = c.read_u64-max.ensures in
    let a = c.args in
    refused a.key.now a.node.now c.requires.0 _ Exhausted
    (cannot-rise (At a.j) change (node_in a.node.now) refl c.read_u64-max.result max c.if-max.true)

pub put_record-requires : goal.put_record-requires
unfolding decode_node
put_record-requires c =
    let max : c.read_u64-max.result ≡ (node_in c.args.node.now).max = c.read_u64-max.ensures in
    let rises : c.read_u64-max.result < top = room _ (let h = c.requires.0.fits.max_high in omega arith) c.if-max.false in
    let risen : ℕ = c.read_u64-max.result + 1 in
    let high : risen < numbers = omega (arith, rises) in
    let bytes : List ℕ = c.set_max.new.node in
    let recs-stay : recs_in bytes ≡ recs_in c.args.node.now = sym (max-recs c.args.node.now c.requires.0 risen high bytes c.set_max.ensures) in
    let stands : find_key c.args.key.now (recs_in bytes) ≡ At c.args.j = ap (find_key c.args.key.now) recs-stay ∙ c.requires.1 in (
      max-laid c.args.node.now c.requires.0 risen high bytes c.set_max.ensures,
      rec-in bytes c.args.key.now c.args.j stands,
      c.requires.2,
      c.requires.3,
    )

pub returns : goal.returns
unfolding decode_node
returns c =
    let max : c.read_u64-max.result ≡ (node_in c.args.node.now).max = c.read_u64-max.ensures in
    let rises : c.read_u64-max.result < top = room _ (let h = c.requires.0.fits.max_high in omega arith) c.if-max.false in
    let risen : ℕ = c.read_u64-max.result + 1 in
    let high : risen < numbers = omega (arith, rises) in
    let bytes : List ℕ = c.set_max.new.node in
    let recs-stay : recs_in bytes ≡ recs_in c.args.node.now = sym (max-recs c.args.node.now c.requires.0 risen high bytes c.set_max.ensures) in
    let stands : find_key c.args.key.now (recs_in bytes) ≡ At c.args.j = ap (find_key c.args.key.now) recs-stay ∙ c.requires.1 in
    let change : Change = change_of c.args.value.now c.args.status c.args.start in
    let a = c.args in
    let n = node_in a.node.now in
    let r : Rec = rec_of a.key.now a.value.now risen a.status a.start in
    given a.key.now a.value.now a.status a.start a.node.now c.requires.0 c.read_u64-max.result max (omega (arith, rises))
    bytes c.set_max.ensures c.put_record.new.node
    (c.put_record.ensures ∙ ap (λ (l : List Rec). encode_node (with_recs l (decode_node bytes))) (sym (store_at r (recs_in bytes) a.j stands)))
    (allowed_at (At a.j) change n)
    (can-rise (At a.j) change n refl c.read_u64-max.result max rises)
