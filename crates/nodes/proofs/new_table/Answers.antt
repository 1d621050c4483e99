-- `nodes::new_table` meets its contract. Assumes nothing.
use Prim.Native.Nat.{◌+◌}
use mathlib.Core.Path.{ap, ◌∙◌}
use Rattle.fields.specs.Numbers.{bytes_of}
use Rattle.fields.specs.Parts.{put}
use Rattle.rules.specs.Answers.{answer_told}
use Rattle.rules.specs.Layout.{table_width}
use Rattle.rules.proofs.Unique.{tells}
use Rattle.nodes.proofs.Coming.{made, not_made}
use Rattle.nodes.proofs.new_table.Goals as goal

pub returns-then-table-ne-TABLE : goal.returns-then-table-ne-TABLE
returns-then-table-ne-TABLE c =
    let a = c.args in tells answer_told (not_made a.mode a.profile a.table.now c.if-table-ne-TABLE.true)

pub returns : goal.returns
returns c =
    let a = c.args in
    tells answer_told
    (made a.mode a.profile a.table.now c.if-table-ne-TABLE.false c.clear.new.s c.write_byte.new.s c.write_byte-2.new.s c.clear.ensures
    (c.write_byte.ensures ∙ ap (λ n. put table_width (bytes_of 1 n) c.clear.new.s) c.byte.ensures)
    (c.write_byte-2.ensures ∙ ap (λ n. put (table_width + 1) (bytes_of 1 n) c.write_byte.new.s) c.byte-2.ensures))
