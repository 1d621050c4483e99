-- `apply_grow::grow_as` meets its contract: document 01's room, then the profile's. Assumes nothing.
use Rattle.apply_grow.proofs.Growing.{by-fit, not-roomy}
use Rattle.apply_grow.proofs.grow_as.Goals as goal

pub node_fits-requires : goal.node_fits-requires
node_fits-requires c =
    c.grow.ensures.laid c.if-grow.true

pub returns-then-grow : goal.returns-then-grow
returns-then-grow c =
    by-fit _ _ _ _ c.grow.ensures c.if-grow.true _ c.node_fits.ensures

pub returns : goal.returns
returns c =
    not-roomy _ _ _ _ c.grow.ensures c.if-grow.false _
