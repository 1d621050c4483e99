-- `apply_grow::grow_in_place` meets its contract: there is room for all that come, or the node is saved. Assumes nothing.
use mathlib.Core.Path.{sym, ◌∙◌}
use Rattle.apply_grow.proofs.Growing.{gives-stored, surely, stored-surely}
use Rattle.apply_grow.proofs.grow_in_place.Goals as goal

pub is_sure-requires : goal.is_sure-requires
is_sure-requires c =
    c.requires.0.laid

pub returns-then-is_sure : goal.returns-then-is_sure
returns-then-is_sure c =
    let a = c.args in
    gives-stored a.profile _ a.node.now _ _
    (stored-surely a.profile _ a.node.now _ _ c.grow.ensures
    (surely _ c.requires.0 _ c.ranges.last_gc.fits a.profile a.afresh a.clock a.delta.now a.at a.max a.count c.requires.2 (sym c.is_sure.ensures ∙ c.if-is_sure.true)))

pub returns : goal.returns
returns c =
    gives-stored _ _ _ _ _ c.grow_or_keep.ensures
