-- `lookup::find` meets its contract: 14, or the lookup on a good table. Assumes nothing.
use mathlib.Core.Path.{ap, sym, ◌∙◌}
use Rattle.lookup.specs.Told.{found_told}
use Rattle.table_read.proofs.Entry.{read-good, read-bad}
use Rattle.lookup.proofs.find.Goals as goal

pub find_known-requires : goal.find_known-requires
find_known-requires c =
    sym c.check_table.ensures ∙ c.if-not-check_table.false

pub returns : goal.returns
returns c =
    ap found_told (search read-good)

pub returns-then-not-check_table : goal.returns-then-not-check_table
returns-then-not-check_table c =
    ap found_told (search read-bad)
