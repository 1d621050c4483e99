-- `apply_parts::apply_each` meets its contract: where no node is named none is left alone. Assumes nothing.
use mathlib.Core.Path.{◌∙◌, ap}
use Rattle.rules.specs.Apply.{Stream, apply_node, ways_in}
use Rattle.rules.specs.Layout.{decode}
use Rattle.rules.specs.Profile.{kind}
use Rattle.delta_read.specs.NodeDeltas.{parts_from}
use Rattle.leaving.proofs.Left.{none_named}
use Rattle.apply_parts.specs.Applying.{stored_stream}
use Rattle.apply_parts.proofs.apply_each.Goals as goal

pub returns : goal.returns
returns c =
    let a = c.args in
    c.apply_each_leaving.ensures
    ∙ ap (λ (s : Stream). stored_stream s a.answers.now) (none_named (apply_node (ways_in (kind a.mode a.profile)) a.clock) (parts_from a.delta.now 0) (decode a.table.now))
