-- `peers::check_both` meets its contract: the grid, the table, and both together. Assumes nothing.
use mathlib.Core.Path.{◌∙◌, sym}
use Rattle.table_check.proofs.Entry.{area-good, area-long}
use Rattle.peers.proofs.Watching.{fit-decides, no-grid, no_table}
use Rattle.peers.proofs.check_both.Goals as goal

pub slice_bounds-columns_fit-end : goal.slice_bounds-columns_fit-end
slice_bounds-columns_fit-end c =
    area-long c.args.table.now c.check_table.ensures c.if-check_table.true

pub columns_fit-requires : goal.columns_fit-requires
columns_fit-requires c =
    (sym c.check_grid.ensures ∙ c.if-check_grid.true, area-good c.args.table.now c.check_table.ensures c.if-check_table.true)

pub returns-then-check_table : goal.returns-then-check_table
returns-then-check_table c =
    c.columns_fit.ensures ∙ fit-decides c.args.grid.now c.args.table.now (sym c.check_grid.ensures ∙ c.if-check_grid.true) (sym c.check_table.ensures ∙ c.if-check_table.true)

pub returns-else-check_table : goal.returns-else-check_table
returns-else-check_table c =
    no_table c.args.grid.now c.args.table.now (sym c.check_grid.ensures ∙ c.if-check_grid.true) (sym c.check_table.ensures ∙ c.if-check_table.false)

pub returns-else-check_grid : goal.returns-else-check_grid
returns-else-check_grid c =
    no-grid c.args.grid.now c.args.table.now (sym c.check_grid.ensures ∙ c.if-check_grid.false)
