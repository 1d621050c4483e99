-- `inspect::front` meets its contract: 14, or the reading on a good table. Assumes nothing.
use mathlib.Core.Path.{ap, sym, ◌∙◌}
use Rattle.inspect.specs.Told.{count_told}
use Rattle.table_read.proofs.Entry.{read-good, read-bad}
use Rattle.inspect.proofs.front.Goals as goal

pub front_known-requires : goal.front_known-requires
front_known-requires c =
    sym c.check_table.ensures ∙ c.if-not-check_table.false

pub returns : goal.returns
returns c =
    ap count_told (search read-good)

pub returns-then-not-check_table : goal.returns-then-not-check_table
returns-then-not-check_table c =
    ap count_told (search read-bad)
