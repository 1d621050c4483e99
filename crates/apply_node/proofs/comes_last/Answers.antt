-- `apply_node::comes_last` meets its contract: by the last key. Assumes nothing.
use Prim.Native.Nat.{ℕ, ◌-◌, ◌≤◌, ◌<◌}
use mathlib.Core.Path.{◌≡◌, ap, sym, ◌∙◌, subst}
use mathlib.Core.List.{List}
use native.Mathlib.Omega.{arith}
use lib.ListN.{length}
use Rattle.fields.specs.Order.{order_of}
use Rattle.rules.specs.Sizes.{max_key}
use Rattle.rules.specs.Layout.{decode_rec}
use Rattle.table.specs.Tests.{count_of, key_length}
use Rattle.table.proofs.Laid.{laid-key, rec-long}
use Rattle.apply_node.proofs.Taken.{last-of-none, behind-last}
use Rattle.apply_node.proofs.comes_last.Goals as goal

pub returns-then-n-eq0 : goal.returns-then-n-eq0
returns-then-n-eq0 c =
    λ _. last-of-none _ _ (sym c.if-n-eq0.true ∙ c.byte_at-n.ensures.0)

pub record_of-requires : goal.record_of-requires
record_of-requires c =
    let inside : c.byte_at-n.result - 1 < count_of c.args.node.now = omega (arith, c.if-n-eq0.false, c.byte_at-n.ensures.0) in
    (c.requires.laid.long, omega (arith, inside, c.requires.laid.few))

pub key_of-requires : goal.key_of-requires
key_of-requires c =
    let inside : c.byte_at-n.result - 1 < count_of c.args.node.now = omega (arith, c.if-n-eq0.false, c.byte_at-n.ensures.0) in (
      ap length c.record_of.ensures ∙ rec-long c.args.node.now c.requires.laid _ (inside),
      subst (λ (x : List ℕ). key_length x ≤ max_key) (sym c.record_of.ensures) (laid-key c.args.node.now c.requires.laid _ (inside)),
    )

pub returns-in-Less : goal.returns-in-Less
returns-in-Less c =
    λ e. let z : ◌≡◌ {A = ℕ} 0 1 = cc in absurd (omega arith)

pub returns-in-Equal : goal.returns-in-Equal
returns-in-Equal c =
    λ e. let z : ◌≡◌ {A = ℕ} 0 1 = cc in absurd (omega arith)

pub returns-in-Greater : goal.returns-in-Greater
returns-in-Greater c =
    let inside : c.byte_at-n.result - 1 < count_of c.args.node.now = omega (arith, c.if-n-eq0.false, c.byte_at-n.ensures.0) in
    λ _. behind-last c.args.key.now c.args.node.now c.requires.keys _ (omega (arith, inside, c.byte_at-n.ensures.0))
    (sym (ap (order_of c.args.key.now) (c.key_of.ensures ∙ ap (λ (x : List ℕ). (decode_rec x).kv.key) c.record_of.ensures)) ∙ sym c.compare.ensures ∙ c.in-Greater.is)
