-- `peers::least_max` meets its contract: 14, or what the grid says. Assumes nothing.
use mathlib.Core.Path.{◌∙◌, ap, sym}
use Rattle.fields.proofs.Choice.{pick-false, pick_true}
use Rattle.rules.specs.declared.Refusal.TheVariants.{BadTable}
use Rattle.grid.specs.GridLayout.{decode_grid, valid_grid}
use Rattle.grid.specs.LentGrid.{least_in, least_told, lent_least}
use Rattle.std.specs.Prelude.{Err}
use Rattle.peers.proofs.least_max.Goals as goal

pub least_known-requires : goal.least_known-requires
least_known-requires c =
    sym c.check_grid.ensures ∙ c.if-not-check_grid.false

pub returns : goal.returns
unfolding lent_least
returns c =
    ap least_told (c.least_known.ensures ∙ sym (pick_true (valid_grid c.args.grid.now) (least_in c.args.number (decode_grid c.args.grid.now)) (Err BadTable) (sym c.check_grid.ensures ∙ c.if-not-check_grid.false)))

pub returns-then-not-check_grid : goal.returns-then-not-check_grid
unfolding lent_least
returns-then-not-check_grid c =
    ap least_told (sym (pick-false (valid_grid c.args.grid.now) (least_in c.args.number (decode_grid c.args.grid.now)) (Err BadTable) (sym c.check_grid.ensures ∙ c.if-not-check_grid.true)))
