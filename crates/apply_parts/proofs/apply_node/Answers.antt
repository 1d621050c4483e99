-- `apply_parts::apply_node` meets its contract: by the status. Assumes nothing.
use mathlib.Core.Path.{◌≡◌, sym, ◌∙◌}
use Rattle.rules.specs.Apply.{delta_status, ways_in}
use Rattle.rules.specs.Profile.{kind}
use Rattle.rules.specs.Layout.{decode_node}
use Rattle.delta_read.specs.NodeDeltas.{delta_of}
use Rattle.apply_grow.proofs.Growing.{stored-gives}
use Rattle.apply_parts.proofs.Applying.{status-is, untouched, concluded}
use Rattle.apply_parts.proofs.apply_node.Goals as goal

pub returns-then-is_left : goal.returns-then-is_left
returns-then-is_left c =
    let is : let a = c.args in
    c.check_delta_status-status.result ≡ delta_status (ways_in (kind a.mode a.profile)).fence (decode_node a.node.now).node (delta_of a.delta.now a.last_gc a.from a.max a.at) = let a = c.args in
    status-is (kind a.mode a.profile) a.clock a.delta.now a.last_gc a.from a.max a.at a.node.now c.requires.0.laid _ _ c.read_header-own.ensures c.check_delta_status-status.ensures in
    let a = c.args in
    untouched (kind a.mode a.profile) a.clock a.delta.now a.last_gc a.from a.max a.at a.node.now c.requires.0.laid _ (is)
    (sym c.is_left.ensures ∙ c.if-is_left.true) _ _ c.answer_as.ensures

pub returns : goal.returns
returns c =
    let is : let a = c.args in
    c.check_delta_status-status.result ≡ delta_status (ways_in (kind a.mode a.profile)).fence (decode_node a.node.now).node (delta_of a.delta.now a.last_gc a.from a.max a.at) = let a = c.args in
    status-is (kind a.mode a.profile) a.clock a.delta.now a.last_gc a.from a.max a.at a.node.now c.requires.0.laid _ _ c.read_header-own.ensures c.check_delta_status-status.ensures in
    let a = c.args in
    concluded (kind a.mode a.profile) a.clock a.delta.now a.last_gc a.from a.max a.at a.node.now c.requires.0.laid _ (is) (sym c.is_left.ensures ∙ c.if-is_left.false)
    _ c.is_reset.ensures _ _ (stored-gives _ _ _ _ _ c.grow_in_place-room.ensures) _ c.answer_as-2.ensures
