-- `overrides::write_override` meets its contract: 14, or the write on good overrides. Assumes nothing.
use mathlib.Core.Path.{sym, ◌∙◌}
use Rattle.rules.specs.Answers.{answer_told}
use Rattle.rules.specs.Delta.{status_byte}
use Rattle.std.specs.Prelude.{Err}
use Rattle.rules.specs.declared.Refusal.TheVariants.{BadTable}
use Rattle.rules.proofs.Unique.{tells}
use Rattle.overrides.specs.Overrides.{written}
use Rattle.overrides.proofs.Calls.{bad-overrides, good-overrides}
use Rattle.overrides.proofs.write_override.Goals as goal

pub write_good-requires : goal.write_good-requires
write_good-requires c =
    sym c.check_overrides.ensures ∙ c.if-not-check_overrides.false

pub returns : goal.returns
returns c =
    let a = c.args in
    let w = c.write_good in
    tells answer_told
    (good-overrides (Err BadTable) (written (status_byte a.wanted) a.value.now a.clock a.key.now) a.overrides.now c.check_overrides.ensures c.if-not-check_overrides.false
    w.result w.new.overrides w.ensures)

pub returns-then-not-check_overrides : goal.returns-then-not-check_overrides
returns-then-not-check_overrides c =
    let a = c.args in
    tells answer_told
    (bad-overrides (Err BadTable) (written (status_byte a.wanted) a.value.now a.clock a.key.now) a.overrides.now c.check_overrides.ensures c.if-not-check_overrides.true)
