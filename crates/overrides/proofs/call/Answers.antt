-- `overrides::call` meets its contract: 14, or the call on the node's bytes. Assumes nothing.
use mathlib.Core.Path.{sym, ◌∙◌}
use Rattle.rules.specs.Answers.{answer_told}
use Rattle.std.specs.Prelude.{Err}
use Rattle.rules.specs.declared.Refusal.TheVariants.{BadTable}
use Rattle.rules.proofs.Unique.{tells}
use Rattle.local_node.specs.Writes.{call_of}
use Rattle.overrides.specs.Overrides.{called}
use Rattle.overrides.proofs.Valid.{over-laid, over-rises}
use Rattle.overrides.proofs.Calls.{bad-overrides, good-overrides}
use Rattle.overrides.proofs.call.Goals as goal

pub write_node-requires : goal.write_node-requires
write_node-requires c =
    let v = sym c.check_overrides.ensures ∙ c.if-not-check_overrides.false in (over-laid _ v, over-rises _ v)

pub returns : goal.returns
returns c =
    let a = c.args in
    let w = c.write_node in
    tells answer_told
    (good-overrides (Err BadTable) (called (call_of a.kind a.value.now a.clock) a.key.now) a.overrides.now c.check_overrides.ensures c.if-not-check_overrides.false
    w.result w.new.node w.ensures)

pub returns-then-not-check_overrides : goal.returns-then-not-check_overrides
returns-then-not-check_overrides c =
    let a = c.args in
    tells answer_told
    (bad-overrides (Err BadTable) (called (call_of a.kind a.value.now a.clock) a.key.now) a.overrides.now c.check_overrides.ensures c.if-not-check_overrides.true)
