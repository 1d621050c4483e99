-- `apply::apply_leaving` meets its contract: 14, or the call on a good table. Assumes nothing.
use mathlib.Core.Path.{sym, ◌∙◌}
use Rattle.rules.specs.Answers.{applied_told}
use Rattle.rules.proofs.Unique.{tells}
use Rattle.apply.proofs.Applied.{bad-table}
use Rattle.apply.proofs.apply_leaving.Goals as goal

pub returns-then-not-check_table : goal.returns-then-not-check_table
returns-then-not-check_table c =
    let a = c.args in
    tells applied_told (bad-table a.own.now a.delta.now a.clock a.answers.now a.table.now (sym c.check_table.ensures ∙ c.if-not-check_table.true))

pub leaving_known-requires : goal.leaving_known-requires
leaving_known-requires c =
    sym c.check_table.ensures ∙ c.if-not-check_table.false

pub returns : goal.returns
returns c =
    tells applied_told c.leaving_known.ensures
