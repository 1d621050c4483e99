-- `table_write::write_text` meets its contract. Assumes nothing.
use Rattle.table_write.proofs.Steps.{text-steps}
use Rattle.table_write.proofs.write_text.Goals as goal

pub returns : goal.returns
returns c =
    text-steps c.args.«record».now _ _ _ c.args.text.now c.args.at c.args.room c.requires.0 c.requires.1 c.write_byte.ensures c.clear.ensures
    c.copy_to.ensures
