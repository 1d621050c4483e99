-- `table_write::write_record` meets its contract. Assumes nothing.
use Rattle.table_write.proofs.Steps.{record-steps}
use Rattle.table_write.proofs.write_record.Goals as goal

pub returns : goal.returns
returns c =
    record-steps c.args.«record».now _ _ _ _ _ c.args.key.now c.args.value.now c.args.version c.byte-code.result c.args.start c.args.status c.requires.0
    c.byte-code.ensures c.write_text.ensures c.write_text-2.ensures c.write_u64.ensures c.write_byte.ensures c.write_u64-2.ensures
