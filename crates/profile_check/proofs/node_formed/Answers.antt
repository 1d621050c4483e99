-- `profile_check::node_formed` meets its contract: the records that are left decide. Assumes nothing.
use Prim.Native.Nat.{ℕ, ◌≤◌}
use mathlib.Core.List.{List}
use mathlib.Core.Path.{◌∙◌, ap, refl, sym, subst}
use native.Mathlib.Omega.{arith}
use lib.ListN.{length}
use Rattle.rules.specs.Sizes.{max_key, max_value}
use Rattle.table.specs.Tests.{key_length, value_length}
use Rattle.table.proofs.Laid.{laid-key, laid-value, rec-long}
use Rattle.profile_check.proofs.Formed.{no_record, record-on, record-stop}
use Rattle.profile_check.proofs.node_formed.Goals as goal

pub loop-i-init : goal.loop-i-init
loop-i-init c =
    refl

pub record_formed-requires : goal.record_formed-requires
record_formed-requires c =
    let b : List ℕ = c.args.node.now in
    let i : ℕ = c.loop-i.i in (
      ap length c.record_of.ensures ∙ rec-long b c.requires i (omega arith),
      subst (λ (x : List ℕ). key_length x ≤ max_key) (sym c.record_of.ensures) (laid-key b c.requires i (omega arith)),
      subst (λ (x : List ℕ). value_length x ≤ max_value) (sym c.record_of.ensures) (laid-value b c.requires i (omega arith)),
    )

pub loop-i-preserved : goal.loop-i-preserved
loop-i-preserved c =
    let a = c.args in
    record-on a.profile a.node.now c.loop-i.i (omega arith) _ c.record_of.ensures c.record_formed.ensures c.if-not-record_formed.false ∙ c.loop-i.invariant

pub returns-then-not-record_formed : goal.returns-then-not-record_formed
returns-then-not-record_formed c =
    let a = c.args in
    sym (record-stop a.profile a.node.now c.loop-i.i (omega arith) _ c.record_of.ensures c.record_formed.ensures c.if-not-record_formed.true) ∙ c.loop-i.invariant

pub returns : goal.returns
returns c =
    let a = c.args in
    sym (no_record a.profile a.node.now c.loop-i.i (omega arith)) ∙ c.loop-i.invariant
