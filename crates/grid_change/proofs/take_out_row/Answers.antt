-- `grid_change::take_out_row` meets its contract. Assumes nothing.
use Rattle.fields.specs.Blocks.{zeros}
use Rattle.grid.specs.Grid.{take_out}
use Rattle.grid_change.proofs.take_out_row.Goals as goal

pub returns : goal.returns
unfolding take_out zeros
returns c =
    c.set_rows.ensures
