-- `overrides::remove_overrides` meets its contract: 14, or the removal in the node's bytes. Assumes nothing.
use mathlib.Core.Path.{refl, sym, ◌∙◌}
use Rattle.rules.specs.Answers.{answer_told}
use Rattle.std.specs.Prelude.{Err}
use Rattle.rules.specs.Results.{done}
use Rattle.rules.specs.declared.Refusal.TheVariants.{BadTable}
use Rattle.rules.proofs.Unique.{tells}
use Rattle.overrides.specs.Overrides.{cleaned}
use Rattle.overrides.proofs.Valid.{over-laid}
use Rattle.overrides.proofs.Calls.{bad-overrides, good-overrides}
use Rattle.overrides.proofs.remove_overrides.Goals as goal

pub remove_due-requires : goal.remove_due-requires
remove_due-requires c =
    over-laid _ (sym c.check_overrides.ensures ∙ c.if-not-check_overrides.false)

pub returns : goal.returns
returns c =
    let a = c.args in
    let w = c.remove_due in
    tells answer_told
    (good-overrides (Err BadTable) (cleaned a.clock a.grace) a.overrides.now c.check_overrides.ensures c.if-not-check_overrides.false done w.new.node (refl, w.ensures))

pub returns-then-not-check_overrides : goal.returns-then-not-check_overrides
returns-then-not-check_overrides c =
    let a = c.args in
    tells answer_told (bad-overrides (Err BadTable) (cleaned a.clock a.grace) a.overrides.now c.check_overrides.ensures c.if-not-check_overrides.true)
