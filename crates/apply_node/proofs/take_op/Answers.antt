-- `apply_node::take_op` meets its contract: by the kind of operation. Assumes nothing.
use Rattle.apply_node.proofs.Taken.{inside, step-taken, step-full, step-node, step-max}
use Rattle.apply_node.proofs.take_op.Goals as goal

pub take_record-requires : goal.take_record-requires
take_record-requires c =
    let i = inside _ _ _ _ _ _ _ _ c.in-KeyValue.is c.requires.1 in
    (c.requires.0, i.0, i.1, i.2, i.3)

pub returns-then-take_record : goal.returns-then-take_record
returns-then-take_record c =
    step-taken _ _ _ _ _ _ _ _ _ _ _ _ c.in-KeyValue.is _ _ c.take_record.ensures c.if-take_record.true

pub returns-in-Node : goal.returns-in-Node
returns-in-Node c =
    step-node _ _ _ c.args.delta.now _ _ c.requires.0 _ _ _ c.in-Node.is

pub returns-else-take_record : goal.returns-else-take_record
returns-else-take_record c =
    step-full _ _ _ _ _ _ _ _ _ _ _ _ c.in-KeyValue.is _ _ c.take_record.ensures c.if-take_record.false

pub returns-in-SetMaxVersion : goal.returns-in-SetMaxVersion
returns-in-SetMaxVersion c =
    step-max _ _ _ c.args.delta.now _ _ c.requires.0 _ c.in-SetMaxVersion.is
