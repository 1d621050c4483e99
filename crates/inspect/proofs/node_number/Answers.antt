-- `inspect::node_number` meets its contract: 14, or the reading on a good table. Assumes nothing.
use mathlib.Core.Path.{ap}
use Rattle.inspect.specs.Told.{node_number_told}
use Rattle.table_read.proofs.Entry.{read-good, read-bad}
use Rattle.table_check.proofs.Entry.{area-good, area-long}
use Rattle.inspect.proofs.node_number.Goals as goal

pub slice_bounds-node_number_good-end : goal.slice_bounds-node_number_good-end
slice_bounds-node_number_good-end c =
    area-long _ c.check_table.ensures c.if-not-check_table.false

pub node_number_good-requires : goal.node_number_good-requires
node_number_good-requires c =
    area-good _ c.check_table.ensures c.if-not-check_table.false

pub returns : goal.returns
returns c =
    ap node_number_told (search read-good)

pub returns-then-not-check_table : goal.returns-then-not-check_table
returns-then-not-check_table c =
    ap node_number_told (search read-bad)
