-- `listing_line::node_end` meets its contract: the line ends here. Assumes nothing.
use Rattle.rules.specs.Delta.{NodeOp}
use Rattle.listing_line.proofs.Goes.{ends, node-fits, no_end}
use Rattle.listing_line.proofs.node_end.Goals as goal

pub returns-then-not-same : goal.returns-then-not-same
returns-then-not-same c =
    no_end (NodeOp c.args.number c.args.last_gc c.args.from) c.args.text.now _ c.same.ensures _ c.if-not-same.true

pub returns : goal.returns
returns c =
    ends (NodeOp c.args.number c.args.last_gc c.args.from) c.args.text.now _ c.same.ensures c.args.out.now _ _ _ c.if-not-same.false (node-fits _ _ _ _ c.requires) c.write_node.ensures
    c.size_of.ensures
