-- `apply_node::find_key` meets its contract: behind the last key, or by halves. Assumes nothing.
use mathlib.Core.Path.{ap, sym, ◌∙◌}
use Rattle.table_read.specs.declared.Place.TheVariants.{Free}
use Rattle.apply_node.proofs.find_key.Goals as goal

pub returns-then-comes_last : goal.returns-then-comes_last
returns-then-comes_last c =
    ap Free c.byte_at.ensures.0 ∙ sym (c.comes_last.ensures c.if-comes_last.true)
