-- `inspect::node_rows` meets its contract: 14, or the reading on a good table. Assumes nothing.
use mathlib.Core.Path.{ap, sym, ◌∙◌}
use Rattle.inspect.specs.Told.{rows_told}
use Rattle.table_read.proofs.Entry.{read-good, read-bad}
use Rattle.inspect.proofs.node_rows.Goals as goal

pub node_rows_known-requires : goal.node_rows_known-requires
node_rows_known-requires c =
    sym c.check_table.ensures ∙ c.if-not-check_table.false

pub returns : goal.returns
returns c =
    ap rows_told (search read-good)

pub returns-then-not-check_table : goal.returns-then-not-check_table
returns-then-not-check_table c =
    ap rows_told (search read-bad)
