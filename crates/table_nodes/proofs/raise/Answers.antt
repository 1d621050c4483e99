-- `table_nodes::raise` meets its contract: what is in use is moved, and what was in use behind it is cleared. Assumes nothing.
use native.Mathlib.Omega.{arith}
use Rattle.rules.specs.Layout.{node_width}
use Rattle.table_nodes.proofs.Steps.{pair-steps}
use Rattle.table_nodes.proofs.raise.Goals as goal

pub returns : goal.returns
returns c =
    pair-steps c.args.pair.now _ _ 0 node_width c.used_at-n.result c.used_at-m.result c.above.result (omega arith) (omega arith) c.requires.1 c.requires.2
    c.used_at-n.ensures.0 c.used_at-m.ensures.0 c.above.ensures c.move_up.ensures c.clear.ensures
