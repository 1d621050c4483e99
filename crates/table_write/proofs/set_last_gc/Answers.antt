-- `table_write::set_last_gc` meets its contract. Assumes nothing.
use mathlib.Core.Path.{ap, sym, ◌∙◌}
use Rattle.fields.specs.Numbers.{bytes_of}
use Rattle.fields.specs.Parts.{put}
use Rattle.fields.specs.Widths.{offset}
use Rattle.rules.specs.Layout.{node_widths, decode_node}
use Rattle.table.proofs.Changed.{put-gc}
use Rattle.table_write.proofs.set_last_gc.Goals as goal

pub returns : goal.returns
returns c =
    let a = c.args in
    c.write_u64.ensures ∙ ap (put (offset node_widths 3) (bytes_of 8 a.last_gc)) (sym c.requires.is) ∙ put-gc (decode_node a.node.now) a.last_gc
