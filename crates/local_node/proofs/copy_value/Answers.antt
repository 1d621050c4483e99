-- `local_node::copy_value` meets its contract. Assumes nothing.
use Prim.Native.Nat.{ℕ, ◌≤◌}
use mathlib.Core.Path.{◌≡◌, ap, sym, ◌∙◌, subst}
use mathlib.Core.List.{List}
use native.Mathlib.Omega.{arith}
use lib.ListN.{length}
use Rattle.fields.specs.Parts.{put}
use Rattle.rules.specs.Sizes.{max_value}
use Rattle.rules.specs.Layout.{decode_rec}
use Rattle.table.specs.Tests.{value_length}
use Rattle.table.proofs.Places.{rec_at}
use Rattle.table.proofs.Laid.{laid-rec, laid-value, rec-long}
use Rattle.local_node.proofs.copy_value.Goals as goal

pub value_of-value-requires : goal.value_of-value-requires
value_of-value-requires c = (
  ap length c.record_of.ensures ∙ rec-long c.args.node.now c.requires.0 c.args.j c.requires.1,
  subst (λ (x : List ℕ). value_length x ≤ max_value) (sym c.record_of.ensures) (laid-value c.args.node.now c.requires.0 c.args.j c.requires.1),
)

pub copy_to-requires : goal.copy_to-requires
copy_to-requires c =
    let value : c.value_of-value.result.now ≡ (rec_at c.args.j c.args.node.now).kv.value = c.value_of-value.ensures ∙ ap (λ (x : List ℕ). (decode_rec x).kv.value) c.record_of.ensures in
    let short : length c.value_of-value.result.now ≤ max_value = subst (λ (v : List ℕ). length v ≤ max_value) (sym (value)) (laid-rec c.args.node.now c.requires.0 c.args.j c.requires.1).value-fits in
    omega (arith, short, c.requires.2)

pub returns : goal.returns
returns c =
    let value : c.value_of-value.result.now ≡ (rec_at c.args.j c.args.node.now).kv.value = c.value_of-value.ensures ∙ ap (λ (x : List ℕ). (decode_rec x).kv.value) c.record_of.ensures in
    (ap length (value), c.copy_to.ensures ∙ ap (λ (x : List ℕ). put 0 x c.args.out.now) (value))
