-- `overrides::check_overrides` meets its contract: the length, then the tests of a node's bytes. Assumes nothing.
use mathlib.Core.Path.{sym, ◌∙◌}
use borrow.Author.Tests.{ne_eqb}
use Rattle.rules.specs.Layout.{node_width}
use Rattle.fields.proofs.Numbers.{at-bytes}
use Rattle.overrides.proofs.Valid.{length-stops, node-decides}
use Rattle.overrides.proofs.check_overrides.Goals as goal

pub returns-else-overrides-eq-NODE : goal.returns-else-overrides-eq-NODE
returns-else-overrides-eq-NODE c =
    ne_eqb _ node_width c.if-overrides-eq-NODE.false ∙ length-stops _ c.if-overrides-eq-NODE.false

pub returns-then-overrides-eq-NODE : goal.returns-then-overrides-eq-NODE
returns-then-overrides-eq-NODE c =
    let b = c.args.overrides.now in
    c.check_node.ensures ∙ sym (node-decides b (at-bytes b (λ i. (c.shared_slice_known-1.given i).fits)) c.if-overrides-eq-NODE.true)
