-- `peers::told` meets its contract: 14, or what the grid says. Assumes nothing.
use mathlib.Core.Path.{◌∙◌, ap, sym}
use Rattle.fields.proofs.Choice.{pick-false, pick_true}
use Rattle.rules.specs.declared.Refusal.TheVariants.{BadTable}
use Rattle.grid.specs.GridLayout.{decode_grid, valid_grid}
use Rattle.grid.specs.LentGrid.{seen_in, seen_told, lent_seen}
use Rattle.std.specs.Prelude.{Err}
use Rattle.peers.proofs.told.Goals as goal

pub told_known-requires : goal.told_known-requires
told_known-requires c =
    sym c.check_grid.ensures ∙ c.if-not-check_grid.false

pub returns : goal.returns
unfolding lent_seen
returns c =
    ap seen_told (c.told_known.ensures ∙ sym (pick_true (valid_grid c.args.grid.now) (seen_in c.args.peer c.args.number (decode_grid c.args.grid.now)) (Err BadTable) (sym c.check_grid.ensures ∙ c.if-not-check_grid.false)))

pub returns-then-not-check_grid : goal.returns-then-not-check_grid
unfolding lent_seen
returns-then-not-check_grid c =
    ap seen_told (sym (pick-false (valid_grid c.args.grid.now) (seen_in c.args.peer c.args.number (decode_grid c.args.grid.now)) (Err BadTable) (sym c.check_grid.ensures ∙ c.if-not-check_grid.true)))
