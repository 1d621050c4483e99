-- `apply_node::take_records` meets its contract: what is left to take gives the whole's outcome. Assumes nothing.
use mathlib.Core.Path.{refl, sym, ◌∙◌, subst}
use native.Mathlib.Omega.{arith}
use lib.ListN.{length}
use Rattle.delta_op.proofs.Plain.{plain_end, plain-bad}
use Rattle.delta_op.proofs.Reading.{Within, ends, op-within}
use Rattle.apply_node.proofs.Taken.{nothing_left, stops, has-none, goes}
use Rattle.apply_node.proofs.take_records.Goals as goal

pub loop-i-init : goal.loop-i-init
loop-i-init c =
    (c.requires.0, c.requires.1, refl, refl)

pub returns-in_default : goal.returns-in_default
returns-in_default c =
    nothing_left _ _ _ _ _ _ _ _ c.loop-i.invariant (plain-bad _ _ _ c.loop-i-test.true (sym c.read_op-read.ensures ∙ c.in_default.is))

pub take_op-step-requires : goal.take_op-step-requires
take_op-step-requires c =
    (c.loop-i.invariant.0, (subst (Within (length c.args.delta.now) c.loop-i.i) (sym c.read_op-read.ensures ∙ c.in-Ok.is) (op-within c.args.delta.now c.loop-i.i)).2)

pub returns-in-Over : goal.returns-in-Over
returns-in-Over c =
    stops _ _ _ _ _ _ _ _ c.loop-i.invariant c.loop-i-test.true _ _ (sym c.read_op-read.ensures ∙ c.in-Ok.is) _ _ c.take_op-step.ensures c.in-Over.is

pub returns-in-Full : goal.returns-in-Full
returns-in-Full c =
    has-none _ _ _ _ _ _ _ _ c.loop-i.invariant c.loop-i-test.true _ _ (sym c.read_op-read.ensures ∙ c.in-Ok.is) _ _ c.take_op-step.ensures c.in-Full.is

pub loop-i-smaller : goal.loop-i-smaller
loop-i-smaller c =
    let w = ends _ _ _ _ (sym c.read_op-read.ensures ∙ c.in-Ok.is) in
    omega (arith, w.0, w.1)

pub loop-i-preserved : goal.loop-i-preserved
loop-i-preserved c =
    goes _ _ _ _ _ _ _ _ c.loop-i.invariant c.loop-i-test.true _ _ (sym c.read_op-read.ensures ∙ c.in-Ok.is) _ _ c.take_op-step.ensures c.in-Taken.is

pub returns : goal.returns
returns c =
    nothing_left _ _ _ _ _ _ _ _ c.loop-i.invariant (plain_end _ _ c.loop-i-test.false)
