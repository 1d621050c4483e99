-- `apply::apply` meets its contract: 14, or the call on a good table. Assumes nothing.
use mathlib.Core.Path.{refl, sym, ◌∙◌}
use mathlib.Core.List.{[]}
use Rattle.rules.specs.Answers.{applied_told}
use Rattle.rules.proofs.Unique.{tells}
use Rattle.apply.proofs.Applied.{bad-table, none_left}
use Rattle.apply.proofs.apply.Goals as goal

pub returns-then-not-check_table : goal.returns-then-not-check_table
returns-then-not-check_table c =
    let a = c.args in
    tells applied_told (none_left [] a.delta.now a.clock a.answers.now a.table.now refl _ _ (bad-table [] a.delta.now a.clock a.answers.now a.table.now (sym c.check_table.ensures ∙ c.if-not-check_table.true)))

pub apply_known-requires : goal.apply_known-requires
apply_known-requires c =
    sym c.check_table.ensures ∙ c.if-not-check_table.false

pub returns : goal.returns
returns c =
    tells applied_told c.apply_known.ensures
