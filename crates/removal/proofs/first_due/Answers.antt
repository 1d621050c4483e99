-- `removal::first_due` meets its contract: what is passed and the first that goes of the rest give the whole's. Assumes nothing.
use mathlib.Core.Path.{sym, ◌∙◌}
use native.Mathlib.Omega.{arith}
use Rattle.removal.specs.Removals.{due_within}
use Rattle.removal.proofs.Removing.{found, not_found, none_found}
use Rattle.removal.proofs.first_due.Goals as goal

pub returns-then-must_go : goal.returns-then-must_go
returns-then-must_go c =
    let a = c.args in
    found a.node.now c.requires (due_within a.bound a.clock a.grace) c.loop-j.j _ c.loop-j.invariant.1 (omega arith) (sym c.must_go.ensures ∙ c.if-must_go.true)

pub loop-j-preserved : goal.loop-j-preserved
loop-j-preserved c =
    let a = c.args in
    (c.loop-j.invariant.0, not_found a.node.now c.requires (due_within a.bound a.clock a.grace) c.loop-j.j _ c.loop-j.invariant.1 (omega arith) (sym c.must_go.ensures ∙ c.if-must_go.false))

pub returns : goal.returns
returns c =
    let a = c.args in
    let e = none_found a.node.now c.requires (due_within a.bound a.clock a.grace) c.loop-j.j _ c.loop-j.invariant.1 (omega arith) in
    omega (arith, e)
