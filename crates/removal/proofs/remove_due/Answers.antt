-- `removal::remove_due` meets its contract: no version passes the bound. Assumes nothing.
use mathlib.Core.Path.{ap, ◌∙◌}
use Rattle.rules.specs.Layout.{decode_node, encode_node}
use Rattle.removal.proofs.Within.{plain-node}
use Rattle.removal.proofs.remove_due.Goals as goal

pub returns : goal.returns
returns c =
    let a = c.args in
    c.remove_due_within.ensures ∙ ap encode_node (plain-node a.clock a.grace (decode_node a.node.now) c.requires.fits)
