-- `prefix::brought_in` meets its contract. Assumes nothing.
use mathlib.Core.Path.{sym, ◌∙◌}
use lib.Dec.{ltb}
use borrow.Author.Tests.{lt-ltb, le-ltb}
use Rattle.fields.specs.Choice.{pick}
use Rattle.fields.proofs.Choice.{pick_true, pick-false}
use Rattle.prefix.proofs.brought_in.Goals as goal

pub returns-then-j-low : goal.returns-then-j-low
returns-then-j-low c =
    let a = c.args in
    sym (pick_true (ltb a.j a.low) a.low (pick (ltb a.top a.j) a.top a.j) (lt-ltb a.j a.low c.if-j-low.true))

pub returns-then-top-j : goal.returns-then-top-j
returns-then-top-j c =
    let a = c.args in
    sym
    (pick-false (ltb a.j a.low) a.low (pick (ltb a.top a.j) a.top a.j) (le-ltb a.j a.low c.if-j-low.false)
    ∙ pick_true (ltb a.top a.j) a.top a.j (lt-ltb a.top a.j c.if-top-j.true))

pub returns : goal.returns
returns c =
    let a = c.args in
    sym
    (pick-false (ltb a.j a.low) a.low (pick (ltb a.top a.j) a.top a.j) (le-ltb a.j a.low c.if-j-low.false)
    ∙ pick-false (ltb a.top a.j) a.top a.j (le-ltb a.top a.j c.if-top-j.false))
