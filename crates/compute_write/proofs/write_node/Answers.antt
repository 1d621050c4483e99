-- `compute_write::write_node` meets its contract: what is written are the node's numbers. Assumes nothing.
use mathlib.Core.Path.{subst}
use Rattle.rules.specs.Delta.{Op, NodeOp}
use Rattle.rules.specs.Given.{Gives}
use Rattle.delta_write.specs.Written.{write_op}
use Rattle.table_read.proofs.Located.{held}
use Rattle.compute_write.proofs.write_node.Goals as goal

pub number_at-requires : goal.number_at-requires
number_at-requires c =
    held c.args.table.now c.requires.0 c.args.p c.requires.1

pub last_gc_at-requires : goal.last_gc_at-requires
last_gc_at-requires c =
    held c.args.table.now c.requires.0 c.args.p c.requires.1

-- the operation is that of the node's own numbers
pub returns : goal.returns
returns c =
    let a = c.args in
    let n = c.number_at.ensures in
    let g = c.last_gc_at.ensures in
    let wrote = c.write_node in
    subst (λ (o : Op). Gives (write_op o a.datagram.now) wrote.result wrote.new.datagram) (λ i. NodeOp (n i) (g i) a.from) wrote.ensures
