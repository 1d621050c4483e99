-- `table_write::clear_node` meets its contract: the bytes in use become zeros, and zeros stand behind them. Assumes nothing.
use Rattle.table_write.proofs.Steps.{cleared-steps}
use Rattle.table_write.proofs.clear_node.Goals as goal

pub returns : goal.returns
returns c =
    cleared-steps c.args.node.now _ c.requires c.used-n.result c.used-n.ensures c.clear.ensures
