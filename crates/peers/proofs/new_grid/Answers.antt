-- `peers::new_grid` meets its contract: the length, the table, and the grid of its nodes. Assumes nothing.
use mathlib.Core.Path.{◌≡◌, ◌∙◌, refl, sym}
use native.Mathlib.Omega.{arith}
use lib.Dec.{eqb}
use lib.ListN.{length}
use borrow.Author.Tests.{eq-eqb, ne_eqb}
use Rattle.fields.proofs.Choice.{and_intro}
use Rattle.rules.proofs.Unique.{tells}
use Rattle.rules.specs.Answers.{answer_told}
use Rattle.rules.specs.Whole.{valid_whole}
use Rattle.std.specs.Prelude.{Err}
use Rattle.rules.specs.Results.{done}
use Rattle.rules.specs.declared.Refusal.TheVariants.{BadTable}
use Rattle.table_check.proofs.Entry.{area-good, area-long}
use Rattle.grid.specs.GridLayout.{grid_width}
use Rattle.grid.specs.LentGrid.{lent_new_grid}
use Rattle.peers.proofs.Watching.{no, no_room, nothing-behind, yes}
use Rattle.peers.proofs.new_grid.Goals as goal

pub returns-then-grid-ne-GRID : goal.returns-then-grid-ne-GRID
unfolding lent_new_grid
returns-then-grid-ne-GRID c =
    tells answer_told
    (no _ _ _ (no_room (eqb (length c.args.grid.now) grid_width) (valid_whole c.args.table.now) (ne_eqb (length c.args.grid.now) grid_width c.if-grid-ne-GRID.true)) (Err BadTable) c.args.grid.now (refl, refl))

pub slice_bounds-make-end : goal.slice_bounds-make-end
slice_bounds-make-end c =
    area-long c.args.table.now c.check_table.ensures c.if-not-check_table.false

pub make-requires : goal.make-requires
make-requires c =
    let e : length c.args.grid.now ≡ grid_width = omega arith in
    (e, area-good c.args.table.now c.check_table.ensures c.if-not-check_table.false)

pub returns : goal.returns
unfolding lent_new_grid
returns c =
    let e : length c.args.grid.now ≡ grid_width = omega arith in
    tells answer_told
    (yes _ _ _ (and_intro (eqb (length c.args.grid.now) grid_width) (valid_whole c.args.table.now) (eq-eqb (length c.args.grid.now) grid_width e) (sym c.check_table.ensures ∙ c.if-not-check_table.false)) done _ (refl, c.make.ensures))

pub returns-then-not-check_table : goal.returns-then-not-check_table
unfolding lent_new_grid
returns-then-not-check_table c =
    tells answer_told
    (no _ _ _ (nothing-behind (eqb (length c.args.grid.now) grid_width) (valid_whole c.args.table.now) (sym c.check_table.ensures ∙ c.if-not-check_table.true)) (Err BadTable) c.args.grid.now (refl, refl))
