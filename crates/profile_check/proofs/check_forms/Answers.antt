-- `profile_check::check_forms` meets its contract: the nodes that are left decide. Assumes nothing.
use mathlib.Core.Path.{◌∙◌, refl, sym, subst}
use native.Mathlib.Omega.{arith}
use Rattle.rules.specs.Profile.{recs_formed, table_formed}
use Rattle.table.specs.Fits.{LaidNode}
use Rattle.table.proofs.Laid.{laid-at}
use Rattle.profile_check.proofs.Formed.{no_node, node-on, node-stop}
use Rattle.profile_check.proofs.check_forms.Goals as goal

pub loop-i-init : goal.loop-i-init
unfolding table_formed
loop-i-init c =
    refl

pub node_formed-requires : goal.node_formed-requires
node_formed-requires c =
    subst LaidNode (sym c.node_of.ensures) (laid-at c.args.area.now c.requires c.loop-i.i (omega arith))

pub loop-i-preserved : goal.loop-i-preserved
loop-i-preserved c =
    let a = c.args in
    node-on (recs_formed a.profile) a.area.now c.loop-i.i (omega arith) _ c.node_of.ensures c.node_formed.ensures c.if-not-node_formed.false ∙ c.loop-i.invariant

pub returns-then-not-node_formed : goal.returns-then-not-node_formed
returns-then-not-node_formed c =
    let a = c.args in
    sym (node-stop (recs_formed a.profile) a.area.now c.loop-i.i (omega arith) _ c.node_of.ensures c.node_formed.ensures c.if-not-node_formed.true) ∙ c.loop-i.invariant

pub returns : goal.returns
returns c =
    let a = c.args in
    sym (no_node (recs_formed a.profile) a.area.now c.loop-i.i (omega arith)) ∙ c.loop-i.invariant
