-- A Node that was read tells what stands in the bytes: its three numbers, and the place behind it (`node_is`). Assumes nothing.
use Prim.Native.Nat.{ℕ, zero, suc, ◌+◌}
use mathlib.Core.Path.{◌≡◌, refl, subst}
use mathlib.Core.Bool.{Bool, true, false}
use mathlib.Core.List.{List}
use lib.ListN.{length}
use lib.Dec.{leb}
use Rattle.fields.specs.Choice.{pick}
use Rattle.fields.specs.Numbers.{Bytes, nat_of}
use Rattle.fields.specs.Parts.{part}
use Rattle.fields.specs.Widths.{offset, total}
use Rattle.rules.specs.Sizes.{max_key, max_value}
use Rattle.rules.specs.Delta as rule
use Rattle.rules.specs.declared.Status.TheVariants.{Ttl}
use Rattle.delta_op.specs.declared.Op.TheVariants.{Node, KeyValue, SetMaxVersion}
use Rattle.std.specs.Prelude.{Err, Ok, Result}
use Rattle.delta_op.specs.declared.Op.{Op}
use Rattle.rules.specs.declared.Refusal.{Refusal}
use Rattle.delta_op.specs.declared.TextFault.{TextFault}
use Rattle.delta_op.specs.declared.TextFault.TheVariants as fault
use Rattle.delta_op.specs.Places.{key_value_at, node_at, on_text, op_at, set_max_version_at, tagged_at, text_at, value_at, version_at}

-- the numbers of a Node, where the tag stands at `at`
abbrev field_at : (delta : Bytes) (at k : ℕ) → ℕ
field_at s at k = nat_of (part (at + offset rule.node_op_widths k) rule.number_width s)

abbrev Told : (delta : Bytes) (at : ℕ) (read : (Result (Op × ℕ) Refusal)) → Type 0
Told s at (Ok ((Node n g f), next)) = (next ≡ at + rule.node_op_width) × (n ≡ field_at s at 1) × (g ≡ field_at s at 2) × (f ≡ field_at s at 3)
Told s at (Ok ((KeyValue k n v m ver st), next)) = Unit {0}
Told s at (Ok ((SetMaxVersion m), next)) = Unit {0}
Told s at (Err r) = Unit {0}

module _ (s : List ℕ) (at : ℕ) where
  either : (t : Bool) (a b : (Result (Op × ℕ) Refusal)) → Told s at a → Told s at b → Told s at (pick t a b)
  either true a b p q = p
  either false a b p q = q

  on-text : (next : ℕ → ℕ → (Result (Op × ℕ) Refusal)) (t : (Result (ℕ × ℕ) TextFault)) → ((k n : ℕ) → Told s at (next k n)) → Told s at (on_text next t)
  on-text next (Ok (k, n)) h = h k n
  on-text next (Err fault.Long) h = tt
  on-text next (Err (fault.Cut n)) h = tt

  node-told : Told s at (node_at s at)
  unfolding node_at
  node-told = either (leb (at + rule.node_op_width) (length s)) (Ok ((Node _ _ _), _)) (Err _) (refl, refl, refl, refl) tt

  version-told : (k n v m : ℕ) → Told s at (version_at s k n v m)
  unfolding version_at
  version-told k n v m =
      let st : ℕ = nat_of (part (v + m + offset rule.version_widths 1) rule.byte_width s) in
      either (leb (v + m + total rule.version_widths) (length s)) (pick (leb st (rule.status_byte Ttl)) _ _) (Err _)
      (either (leb st (rule.status_byte Ttl)) (Ok ((KeyValue k n v m _ _), _)) (Err _) tt tt) tt

  key-value-told : Told s at (key_value_at s at)
  unfolding key_value_at value_at
  key-value-told =
      on-text (λ k n. value_at s k n) (text_at max_key s (at + rule.byte_width))
      (λ k n. on-text (λ v m. version_at s k n v m) (text_at max_value s (k + n)) (λ v m. version-told k n v m))

  max-told : Told s at (set_max_version_at s at)
  unfolding set_max_version_at
  max-told = either (leb (at + rule.max_op_width) (length s)) (Ok ((SetMaxVersion _), _)) (Err _) tt tt

  tagged-told : (tag : ℕ) → Told s at (tagged_at tag s at)
  tagged-told zero = node-told
  tagged-told (suc zero) = key-value-told
  tagged-told (suc (suc zero)) = max-told
  tagged-told (suc (suc (suc n))) = tt

  op-told : Told s at (op_at s at)
  unfolding op_at
  op-told =
      let tag : ℕ = nat_of (part at rule.byte_width s) in
      either (leb (at + rule.byte_width) (length s)) (tagged_at tag s at) (Err _) (tagged-told tag) tt

  pub node_is : (n g f next : ℕ) → op_at s at ≡ (Ok ((Node n g f), next)) → Told s at (Ok ((Node n g f), next))
  node_is n g f next e = subst (Told s at) e op-told
