-- `library::kev_check` meets its contract: what the check answers decides. Assumes nothing.
use mathlib.Core.Path.{sym, ◌∙◌}
use Rattle.fields.proofs.Choice.{pick_true, pick-false}
use Rattle.rules.specs.Answers.{number_of}
use Rattle.rules.specs.Whole.{valid_whole}
use Rattle.rules.specs.declared.Refusal.TheVariants.{BadTable}
use Rattle.library.proofs.kev_check.Goals as goal

pub returns-then-check_table : goal.returns-then-check_table
returns-then-check_table c =
    sym (pick_true (valid_whole c.args.table.now) 0 (number_of BadTable) (sym c.check_table.ensures ∙ c.if-check_table.true))

pub returns : goal.returns
returns c =
    c.number.ensures ∙ sym (pick-false (valid_whole c.args.table.now) 0 (number_of BadTable) (sym c.check_table.ensures ∙ c.if-check_table.false))
