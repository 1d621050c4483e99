-- `profile_check::check_nodes` meets its contract: the nodes that are left decide. Assumes nothing.
use mathlib.Core.Path.{◌∙◌, refl, sym, subst}
use native.Mathlib.Omega.{arith}
use Rattle.rules.specs.Profile.{profile_obeys, recs_obey}
use Rattle.table.specs.Fits.{LaidNode}
use Rattle.table.proofs.Laid.{laid-at}
use Rattle.profile_check.proofs.Formed.{no_node, node-on, node-stop}
use Rattle.profile_check.proofs.check_nodes.Goals as goal

pub loop-i-init : goal.loop-i-init
unfolding profile_obeys
loop-i-init c =
    refl

pub node_obeys-requires : goal.node_obeys-requires
node_obeys-requires c =
    subst LaidNode (sym c.node_of.ensures) (laid-at c.args.area.now c.requires c.loop-i.i (omega arith))

pub loop-i-preserved : goal.loop-i-preserved
loop-i-preserved c =
    let a = c.args in
    node-on (recs_obey a.profile) a.area.now c.loop-i.i (omega arith) _ c.node_of.ensures c.node_obeys.ensures c.if-not-node_obeys.false ∙ c.loop-i.invariant

pub returns-then-not-node_obeys : goal.returns-then-not-node_obeys
returns-then-not-node_obeys c =
    let a = c.args in
    sym (node-stop (recs_obey a.profile) a.area.now c.loop-i.i (omega arith) _ c.node_of.ensures c.node_obeys.ensures c.if-not-node_obeys.true) ∙ c.loop-i.invariant

pub returns : goal.returns
returns c =
    let a = c.args in
    sym (no_node (recs_obey a.profile) a.area.now c.loop-i.i (omega arith)) ∙ c.loop-i.invariant
