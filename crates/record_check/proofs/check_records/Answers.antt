-- `record_check::check_records` meets its contract: what is left to be tested has the whole's answer. Assumes nothing.
use Prim.Native.Nat.{ℕ, ◌-◌}
use mathlib.Core.Path.{◌≡◌, refl, sym, ap, ◌∙◌}
use native.Mathlib.Omega.{arith}
use native.Mathlib.Nat.{sub-zero}
use lib.ListN.{length}
use Rattle.fields.specs.Blocks.{all_blocks}
use Rattle.fields.proofs.Choice.{and_yes, and_no}
use Rattle.fields.proofs.Blocks.{blocks-turn}
use Rattle.fields.proofs.Parts.{length_part}
use Rattle.rules.specs.Layout.{rec_place, rec_width}
use Rattle.table.specs.Tests.{rec_good}
use Rattle.record_check.proofs.check_records.Goals as goal

pub loop-i-init : goal.loop-i-init
loop-i-init c =
    rw sub-zero refl

pub check_record-requires : goal.check_record-requires
check_record-requires c =
    let b = c.args.node.now in
    (ap length c.record_of.ensures ∙ length_part (rec_place c.loop-i.i) rec_width b (omega arith), c.mask-m.ensures)

pub loop-i-preserved : goal.loop-i-preserved
loop-i-preserved c =
    let a = c.args in
    let i : ℕ = c.loop-i.i in
    let flag = sym (ap (rec_good a.max) c.record_of.ensures) ∙ sym c.check_record.ensures in
    let e = blocks-turn (rec_good a.max) rec_width (rec_place 0) a.n i a.node.now (omega arith) in
    sym (e ∙ and_yes _ _ (flag ∙ c.if-not-check_record.false)) ∙ c.loop-i.invariant

pub returns-then-not-check_record : goal.returns-then-not-check_record
returns-then-not-check_record c =
    let a = c.args in
    let i : ℕ = c.loop-i.i in
    let flag = sym (ap (rec_good a.max) c.record_of.ensures) ∙ sym c.check_record.ensures in
    let e = blocks-turn (rec_good a.max) rec_width (rec_place 0) a.n i a.node.now (omega arith) in
    sym (e ∙ and_no _ _ (flag ∙ c.if-not-check_record.true)) ∙ c.loop-i.invariant

pub returns : goal.returns
unfolding all_blocks
returns c =
    let z : c.args.n - c.loop-i.i ≡ 0 = omega arith in
    rw z at c.loop-i.invariant
