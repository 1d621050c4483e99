-- `apply_grow::begin` meets its contract: a reset, or nothing. Assumes nothing.
use Rattle.apply_grow.proofs.Growing.{begun-bytes, begun-same}
use Rattle.apply_grow.proofs.begin.Goals as goal

pub returns-then-afresh : goal.returns-then-afresh
returns-then-afresh c =
    begun-bytes c.args.node.now c.args.last_gc _ _ c.if-afresh.true c.reset.ensures

pub returns : goal.returns
returns c =
    begun-same c.args.node.now c.args.last_gc c.requires _ c.if-afresh.false
