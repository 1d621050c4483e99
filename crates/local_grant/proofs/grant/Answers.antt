-- `local_grant::grant` meets its contract: max rises first, and the record then takes that version at its place. Assumes nothing.
use Prim.Native.Nat.{ℕ, ◌+◌, ◌<◌}
use mathlib.Core.Path.{◌≡◌, ap, sym, ◌∙◌}
use mathlib.Core.Bool.{false}
use mathlib.Core.List.{List}
use native.Mathlib.Omega.{arith}
use Rattle.rules.specs.Sizes.{numbers, top}
use Rattle.rules.specs.Node.{Change}
use Rattle.rules.specs.Layout.{decode_node}
use Rattle.rules.specs.declared.Refusal.TheVariants.{Exhausted, NodeFull}
use Rattle.table_read.specs.Find.{find_key}
use Rattle.local_grant.specs.Granting.{node_in, change_of, full_at, allowed_at}
use Rattle.local_grant.proofs.Acting.{refused, room, no_room, cannot-rise, can-rise, max-laid, max-recs, max-room, given}
use Rattle.local_grant.proofs.grant.Goals as goal

pub returns-then-is_full : goal.returns-then-is_full
returns-then-is_full c =
    let change : Change = change_of c.args.value.now c.args.status c.args.start in
    let a = c.args in
    refused a.key.now a.node.now c.requires.0 _ NodeFull
    (no_room a.place (change) (node_in a.node.now) (sym c.is_full.ensures ∙ c.if-is_full.true))

pub returns-then-max : goal.returns-then-max
unfolding decode_node
returns-then-max c =
    let change : Change = change_of c.args.value.now c.args.status c.args.start in
    let fits : full_at c.args.place (node_in c.args.node.now) ≡ false = sym c.is_full.ensures ∙ c.if-is_full.false in
    let max : c.read_u64-max.result ≡ (node_in c.args.node.now).max = c.read_u64-max.ensures in
    let a = c.args in
    refused a.key.now a.node.now c.requires.0 _ Exhausted
    (cannot-rise a.place (change) (node_in a.node.now) (fits) c.read_u64-max.result (max) c.if-max.true)

pub place_record-requires : goal.place_record-requires
unfolding decode_node
place_record-requires c =
    let max : c.read_u64-max.result ≡ (node_in c.args.node.now).max = c.read_u64-max.ensures in
    let rises : c.read_u64-max.result < top = let m = max in
    room _ (let h = c.requires.0.fits.max_high in omega arith) c.if-max.false in
    let fits : full_at c.args.place (node_in c.args.node.now) ≡ false = sym c.is_full.ensures ∙ c.if-is_full.false in
    let b : List ℕ = c.args.node.now in
    let m : ℕ = c.read_u64-max.result + 1 in
    let h : m < numbers = omega (arith, rises) in
    let s : List ℕ = c.set_max.new.node in (
      max-laid b c.requires.0 m h s c.set_max.ensures,
      ap (find_key c.args.key.now) (sym (max-recs b c.requires.0 m h s c.set_max.ensures)) ∙ c.requires.1,
      sym (max-room b c.requires.0 m h s c.set_max.ensures c.args.place) ∙ fits,
      c.requires.2,
      c.requires.3,
    )

pub returns : goal.returns
unfolding decode_node
returns c =
    let max : c.read_u64-max.result ≡ (node_in c.args.node.now).max = c.read_u64-max.ensures in
    let rises : c.read_u64-max.result < top = let m = max in
    room _ (let h = c.requires.0.fits.max_high in omega arith) c.if-max.false in
    let change : Change = change_of c.args.value.now c.args.status c.args.start in
    let fits : full_at c.args.place (node_in c.args.node.now) ≡ false = sym c.is_full.ensures ∙ c.if-is_full.false in
    let a = c.args in
    let n = node_in a.node.now in
    given a.key.now a.value.now a.status a.start a.node.now c.requires.0 c.read_u64-max.result (max) (omega (arith, rises))
    c.set_max.new.node c.set_max.ensures c.place_record.new.node c.place_record.ensures (allowed_at a.place (change) n)
    (can-rise a.place (change) n (fits) c.read_u64-max.result (max) (rises))
