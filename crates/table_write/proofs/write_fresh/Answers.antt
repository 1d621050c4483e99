-- `table_write::write_fresh` meets its contract: zeros, the number, the header of a fresh node. Assumes nothing.
use Rattle.table_write.proofs.Steps.{fresh-steps}
use Rattle.table_write.proofs.write_fresh.Goals as goal

pub returns : goal.returns
returns c =
    fresh-steps _ _ _ _ _ c.args.number c.new-header.result c.new-header.ensures c.clear_node.ensures c.write_u64.ensures
    c.write_u64-2.ensures c.write_u64-3.ensures c.write_u64-4.ensures
