-- `library::kev_check_overrides` meets its contract: what the check answers decides. Assumes nothing.
use mathlib.Core.Path.{sym, ◌∙◌}
use Rattle.fields.proofs.Choice.{pick_true, pick-false}
use Rattle.rules.specs.Answers.{number_of}
use Rattle.rules.specs.declared.Refusal.TheVariants.{BadTable}
use Rattle.overrides.specs.Overrides.{valid_node}
use Rattle.library.proofs.kev_check_overrides.Goals as goal

pub returns-then-check_overrides : goal.returns-then-check_overrides
returns-then-check_overrides c =
    sym (pick_true (valid_node c.args.overrides.now) 0 (number_of BadTable) (sym c.check_overrides.ensures ∙ c.if-check_overrides.true))

pub returns : goal.returns
returns c =
    c.number.ensures ∙ sym (pick-false (valid_node c.args.overrides.now) 0 (number_of BadTable) (sym c.check_overrides.ensures ∙ c.if-check_overrides.false))
