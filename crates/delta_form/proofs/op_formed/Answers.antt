-- `delta_form::op_formed` meets its contract: by the kind of operation. Assumes nothing.
use Rattle.delta_form.proofs.Odd.{inside, of-max, of_node, of-record}
use Rattle.delta_form.proofs.op_formed.Goals as goal

pub record_formed-requires : goal.record_formed-requires
record_formed-requires c =
    inside _ _ _ _ _ _ _ _ c.in-KeyValue.is c.requires

pub returns-in-Node : goal.returns-in-Node
returns-in-Node c =
    of_node c.args.profile c.args.delta.now _ _ _ _ c.in-Node.is

pub returns-in-KeyValue : goal.returns-in-KeyValue
returns-in-KeyValue c =
    of-record c.args.profile c.args.delta.now _ _ _ _ _ _ _ c.in-KeyValue.is c.record_formed.ensures

pub returns-in-SetMaxVersion : goal.returns-in-SetMaxVersion
returns-in-SetMaxVersion c =
    of-max c.args.profile c.args.delta.now _ _ c.in-SetMaxVersion.is
