-- `table_write::set_max` meets its contract. Assumes nothing.
use mathlib.Core.Path.{ap, sym, ◌∙◌}
use Rattle.fields.specs.Numbers.{bytes_of}
use Rattle.fields.specs.Parts.{put}
use Rattle.fields.specs.Widths.{offset}
use Rattle.rules.specs.Layout.{node_widths, decode_node}
use Rattle.table.proofs.Changed.{put-max}
use Rattle.table_write.proofs.set_max.Goals as goal

pub returns : goal.returns
returns c =
    let a = c.args in
    c.write_u64.ensures ∙ ap (put (offset node_widths 2) (bytes_of 8 a.max)) (sym c.requires.is) ∙ put-max (decode_node a.node.now) a.max
