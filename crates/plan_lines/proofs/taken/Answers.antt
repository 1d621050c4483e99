-- `plan_lines::taken` meets its contract. Assumes nothing.
use mathlib.Core.Path.{sym}
use borrow.Author.Tests.{le-ltb, lt-ltb}
use Rattle.fields.proofs.Choice.{pick-false, pick_true}
use Rattle.plan_lines.proofs.taken.Goals as goal

pub returns-then-count-stale : goal.returns-then-count-stale
returns-then-count-stale c =
    let a = c.args in sym (pick_true _ _ _ (lt-ltb a.count a.stale c.if-count-stale.true))

pub returns : goal.returns
returns c =
    let a = c.args in sym (pick-false _ _ _ (le-ltb a.count a.stale c.if-count-stale.false))
