-- `apply_grow::grow` meets its contract: the records are taken into the node, and max is the delta's. Assumes nothing.
use Rattle.apply_grow.proofs.Growing.{begun-is, begun-rising, is-grown, not-grown}
use Rattle.apply_grow.proofs.grow.Goals as goal

pub begin-requires : goal.begin-requires
begin-requires c =
    c.requires.0.laid

pub take_records-requires : goal.take_records-requires
take_records-requires c =
    (begun-rising _ c.requires.0 c.args.last_gc c.ranges.last_gc.fits c.args.afresh _ c.begin.ensures, c.requires.1)

pub set_max-requires : goal.set_max-requires
set_max-requires c =
    c.take_records.ensures.rising.laid

pub returns-then-take_records : goal.returns-then-take_records
returns-then-take_records c =
    is-grown _ _ _ _ c.ranges.max.fits _ _ (begun-is _ c.requires.0 c.args.last_gc c.ranges.last_gc.fits c.args.afresh _ c.begin.ensures) _ c.read_header-own.ensures _ _ c.take_records.ensures c.if-take_records.true _ c.set_max.ensures

pub returns : goal.returns
returns c =
    not-grown _ _ _ _ c.ranges.max.fits _ _ (begun-is _ c.requires.0 c.args.last_gc c.ranges.last_gc.fits c.args.afresh _ c.begin.ensures) _ c.read_header-own.ensures _ _ c.take_records.ensures c.if-take_records.false _
