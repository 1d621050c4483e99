-- `grid_change::store` meets its contract: the five fields, of which one stays. Assumes nothing.
use mathlib.Core.Path.{◌∙◌, ap}
use lib.ListN.{length}
use Rattle.fields.proofs.Lent.{lent}
use Rattle.grid.specs.GridLayout.{row_bytes, row_width, rows_bytes, rows_width}
use Rattle.grid.proofs.GridBytes.{length-row, length-rows}
use Rattle.grid_change.proofs.Storing.{stored}
use Rattle.grid_change.proofs.store.Goals as goal

pub returns : goal.returns
returns c =
    let a = c.args in
    let w = c.write_row in
    let g = c.write_rows in
    let m = c.write_rows-2 in
    stored a.grid.now c.requires a.count a.numbers a.gcs a.maxes c.write_byte.new.s _ _ _ c.write_byte.ensures
    (lent 1 row_width c.write_byte.new.s w.new.bytes (row_bytes a.numbers) w.ensures (ap length w.ensures ∙ length-row a.numbers))
    (lent 73 rows_width _ g.new.bytes (rows_bytes a.gcs) g.ensures (ap length g.ensures ∙ length-rows a.gcs))
    (lent 585 rows_width _ m.new.bytes (rows_bytes a.maxes) m.ensures (ap length m.ensures ∙ length-rows a.maxes))
