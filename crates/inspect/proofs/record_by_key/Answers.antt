-- `inspect::record_by_key` meets its contract: 14, or the reading on a good table. Assumes nothing.
use mathlib.Core.Path.{ap, sym, ◌∙◌}
use Rattle.inspect.specs.Told.{record_read_told}
use Rattle.table_read.proofs.Entry.{read-good, read-bad}
use Rattle.inspect.proofs.record_by_key.Goals as goal

pub record_by_key_known-requires : goal.record_by_key_known-requires
record_by_key_known-requires c =
    sym c.check_table.ensures ∙ c.if-not-check_table.false

pub returns : goal.returns
returns c =
    ap record_read_told (search read-good)

pub returns-then-not-check_table : goal.returns-then-not-check_table
returns-then-not-check_table c =
    ap record_read_told (search read-bad)
