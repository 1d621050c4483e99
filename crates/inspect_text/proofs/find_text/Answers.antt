-- `inspect_text::find_text` meets its contract: 14, or the reading on a good table. Assumes nothing.
use mathlib.Core.Path.{ap, sym, ◌∙◌}
use Rattle.lookup.specs.Told.{found_told}
use Rattle.table_read.proofs.Entry.{read-good, read-bad}
use Rattle.inspect_text.proofs.find_text.Goals as goal

pub find_text_known-requires : goal.find_text_known-requires
find_text_known-requires c =
    sym c.check_table.ensures ∙ c.if-not-check_table.false

pub returns : goal.returns
returns c =
    ap found_told (search read-good)

pub returns-then-not-check_table : goal.returns-then-not-check_table
returns-then-not-check_table c =
    ap found_told (search read-bad)
