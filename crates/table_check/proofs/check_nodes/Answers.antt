-- `table_check::check_nodes` meets its contract: what is left to be tested has the whole's answer. Assumes nothing.
use Prim.Native.Nat.{ℕ, ◌-◌}
use mathlib.Core.Path.{◌≡◌, refl, sym, ap, ◌∙◌}
use native.Mathlib.Omega.{arith}
use native.Mathlib.Nat.{sub-zero}
use lib.ListN.{length}
use Rattle.fields.specs.Blocks.{all_blocks}
use Rattle.fields.proofs.Choice.{and_yes, and_no}
use Rattle.fields.proofs.Blocks.{blocks-turn}
use Rattle.fields.proofs.Parts.{length_part}
use Rattle.rules.specs.Layout.{node_place, node_width}
use Rattle.table.specs.Tests.{node_good}
use Rattle.table_check.proofs.check_nodes.Goals as goal

pub loop-i-init : goal.loop-i-init
loop-i-init c =
    rw sub-zero refl

pub check_node-requires : goal.check_node-requires
check_node-requires c =
    ap length c.node_of.ensures ∙ length_part (node_place c.loop-i.i) node_width c.args.table.now (omega arith)

pub loop-i-preserved : goal.loop-i-preserved
loop-i-preserved c =
    let a = c.args in
    let i : ℕ = c.loop-i.i in
    let flag = sym (ap node_good c.node_of.ensures) ∙ sym c.check_node.ensures in
    let e = blocks-turn node_good node_width 1 a.n i a.table.now (omega arith) in
    sym (e ∙ and_yes _ _ (flag ∙ c.if-not-check_node.false)) ∙ c.loop-i.invariant

pub returns-then-not-check_node : goal.returns-then-not-check_node
returns-then-not-check_node c =
    let a = c.args in
    let i : ℕ = c.loop-i.i in
    let flag = sym (ap node_good c.node_of.ensures) ∙ sym c.check_node.ensures in
    let e = blocks-turn node_good node_width 1 a.n i a.table.now (omega arith) in
    sym (e ∙ and_no _ _ (flag ∙ c.if-not-check_node.true)) ∙ c.loop-i.invariant

pub returns : goal.returns
unfolding all_blocks
returns c =
    let z : c.args.n - c.loop-i.i ≡ 0 = omega arith in
    rw z at c.loop-i.invariant
