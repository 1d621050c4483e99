-- `inspect::node_count` meets its contract: 14, or the reading on a good table. Assumes nothing.
use mathlib.Core.Path.{ap}
use Rattle.inspect.specs.Told.{count_told}
use Rattle.table_read.proofs.Entry.{read-good, read-bad}
use Rattle.table_check.proofs.Entry.{area-good, area-long}
use Rattle.inspect.proofs.node_count.Goals as goal

pub slice_bounds-node_count_good-end : goal.slice_bounds-node_count_good-end
slice_bounds-node_count_good-end c =
    area-long _ c.check_table.ensures c.if-not-check_table.false

pub node_count_good-requires : goal.node_count_good-requires
node_count_good-requires c =
    area-good _ c.check_table.ensures c.if-not-check_table.false

pub returns : goal.returns
returns c =
    ap count_told (search read-good)

pub returns-then-not-check_table : goal.returns-then-not-check_table
returns-then-not-check_table c =
    ap count_told (search read-bad)
