-- `delta_form::first_odd` meets its contract: what is left of the pass gives the whole's answer. Assumes nothing.
use mathlib.Core.Path.{sym, subst, ◌∙◌}
use native.Mathlib.Omega.{arith}
use lib.ListN.{length}
use Rattle.delta_op.proofs.Reading.{Within, ends, op-within}
use Rattle.delta_form.proofs.Odd.{bad, begin, goes_on, is_odd, over}
use Rattle.delta_form.proofs.first_odd.Goals as goal

pub loop-at-init : goal.loop-at-init
loop-at-init c =
    begin c.args.profile c.args.delta.now c.args.end

pub read_op-read-requires : goal.read_op-read-requires
read_op-read-requires c =
    c.loop-at.invariant.0

pub returns-in_default : goal.returns-in_default
returns-in_default c =
    bad c.args.profile c.args.delta.now c.args.end c.loop-at.at c.loop-at.invariant c.loop-at-test.true c.requires _ (sym c.read_op-read.ensures ∙ c.in_default.is)

pub op_formed-requires : goal.op_formed-requires
op_formed-requires c =
    let l = c.args.delta.now in
    (subst (Within (length l) c.loop-at.at) (sym c.read_op-read.ensures ∙ c.in-Ok.is) (op-within l c.loop-at.at)).2

-- the operation that the turn has read
pub loop-at-smaller : goal.loop-at-smaller
loop-at-smaller c =
    let w = ends c.args.delta.now c.loop-at.at _ _ (sym c.read_op-read.ensures ∙ c.in-Ok.is) in
    omega (arith, w)

pub loop-at-preserved : goal.loop-at-preserved
loop-at-preserved c =
    goes_on c.args.profile c.args.delta.now c.args.end c.loop-at.at c.loop-at.invariant c.loop-at-test.true c.requires _ _ (sym c.read_op-read.ensures ∙ c.in-Ok.is)
    c.op_formed.ensures c.if-op_formed.true

pub returns-else-op_formed : goal.returns-else-op_formed
returns-else-op_formed c =
    is_odd c.args.profile c.args.delta.now c.args.end c.loop-at.at c.loop-at.invariant c.loop-at-test.true c.requires _ _ (sym c.read_op-read.ensures ∙ c.in-Ok.is)
    c.op_formed.ensures c.if-op_formed.false

pub returns : goal.returns
returns c =
    over c.args.profile c.args.delta.now c.args.end c.loop-at.at c.loop-at.invariant c.loop-at-test.false
