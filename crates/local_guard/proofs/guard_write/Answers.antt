-- `local_guard::guard_write` meets its contract: lengths, form, then the total. Assumes nothing.
use mathlib.Core.Path.{◌∙◌}
use Rattle.rules.specs.Node.{find}
use Rattle.table.specs.Tests.{recs_in}
use Rattle.local_guard.proofs.Guarding.{formed, formed-value, long-key, long-value, not-formed}
use Rattle.local_guard.proofs.guard_write.Goals as goal

pub returns-then-key-gt-KEY : goal.returns-then-key-gt-KEY
returns-then-key-gt-KEY c =
    let a = c.args in
    long-key a.key.now a.value.now a.status (find a.key.now (recs_in a.node.now)) c.if-key-gt-KEY.true

pub returns-then-value-gt-VALUE : goal.returns-then-value-gt-VALUE
returns-then-value-gt-VALUE c =
    let a = c.args in
    long-value a.key.now a.value.now a.status (find a.key.now (recs_in a.node.now)) c.if-key-gt-KEY.false c.if-value-gt-VALUE.true

pub guard_total-requires : goal.guard_total-requires
guard_total-requires c =
    let a = c.args in (
      c.requires.0,
      c.requires.1,
      c.requires.2,
      formed-value a.key.now a.value.now a.status (find a.key.now (recs_in a.node.now)) c.if-key-gt-KEY.false c.if-value-gt-VALUE.false c.is_formed.ensures c.if-not-is_formed.false,
    )

pub returns : goal.returns
returns c =
    let a = c.args in
    c.guard_total.ensures
    ∙ formed a.key.now a.value.now a.status (find a.key.now (recs_in a.node.now)) c.if-key-gt-KEY.false c.if-value-gt-VALUE.false c.is_formed.ensures c.if-not-is_formed.false

pub returns-then-not-is_formed : goal.returns-then-not-is_formed
returns-then-not-is_formed c =
    let a = c.args in
    not-formed a.key.now a.value.now a.status (find a.key.now (recs_in a.node.now)) c.if-key-gt-KEY.false c.if-value-gt-VALUE.false c.is_formed.ensures c.if-not-is_formed.true
