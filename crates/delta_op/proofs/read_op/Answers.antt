-- `delta_op::read_op` meets its contract: by the tag. Assumes nothing.
use Prim.Native.Nat.{ℕ, suc, ◌+◌, ◌-◌, ◌≤◌}
use mathlib.Core.Path.{◌≡◌, refl, sym, ◌∙◌}
use mathlib.Core.List.{List}
use native.Mathlib.Omega.{arith}
use lib.ListN.{length}
use borrow.Author.Tests.{le-leb, lt-leb}
use Rattle.fields.specs.Numbers.{nat_of}
use Rattle.fields.specs.Parts.{part}
use Rattle.rules.specs.Delta.{byte_width}
use Rattle.rules.specs.declared.Refusal.TheVariants.{Cut, BadTag}
use Rattle.std.specs.Prelude.{Err, Result}
use Rattle.delta_op.specs.declared.Op.{Op}
use Rattle.rules.specs.declared.Refusal.{Refusal}
use Rattle.delta_op.specs.Places.{tagged_at, op_at}
use Rattle.delta_op.proofs.read_op.Goals as goal

module _ (l : List ℕ) (at : ℕ) where
  no-tag : at ≡ length l → Err (Cut byte_width) ≡ op_at l at
  unfolding op_at
  no-tag e = rw (lt-leb (at + byte_width) (length l) (omega arith))

  module _ (h : at ≤ length l) (g : at ≡ length l → ⊥) (tag : ℕ) (e : tag ≡ nat_of (part at byte_width l)) where
    tagged : (r : (Result (Op × ℕ) Refusal)) (k : ℕ) → tag ≡ k → r ≡ tagged_at k l at → r ≡ op_at l at
    unfolding op_at
    tagged r k p q = q ∙ sym (rw (le-leb (at + byte_width) (length l) (omega arith), ← e, p))

    above : (tag ≡ 0 → ⊥) → (tag ≡ 1 → ⊥) → (tag ≡ 2 → ⊥) → Err BadTag ≡ op_at l at
    above a b c =
        let k : ℕ = tag - 3 in
        tagged (Err BadTag) (suc (suc (suc k))) (omega arith) refl

pub returns-then-at-delta : goal.returns-then-at-delta
returns-then-at-delta c =
    no-tag _ _ c.if-at-delta.true

pub returns-in-0 : goal.returns-in-0
returns-in-0 c =
    tagged _ _ (omega arith) c.if-at-delta.false _ c.byte_at-tag.ensures.0 _ 0 c.in-0.is c.read_node.ensures

pub returns-in-1 : goal.returns-in-1
returns-in-1 c =
    tagged _ _ (omega arith) c.if-at-delta.false _ c.byte_at-tag.ensures.0 _ 1 c.in-1.is c.read_key_value.ensures

pub returns-in-2 : goal.returns-in-2
returns-in-2 c =
    tagged _ _ (omega arith) c.if-at-delta.false _ c.byte_at-tag.ensures.0 _ 2 c.in-2.is c.read_set_max_version.ensures

pub returns-in_default : goal.returns-in_default
returns-in_default c =
    above _ _ (omega arith) c.if-at-delta.false _ c.byte_at-tag.ensures.0 c.in_default.in_default-own.rest.0.0.1 c.in_default.in_default-own.rest.0.1 c.in_default.in_default-own.rest.1
