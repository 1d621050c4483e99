-- `compute_plan::compute_plan_good` meets its contract: 20, or the rule in an edition that there is. Assumes nothing.
use mathlib.Core.Path.{◌∙◌, sym}
use Rattle.rules.specs.Layout.{decode}
use Rattle.compute_write.proofs.Steps.{gives_as}
use Rattle.compute_plan.proofs.Calling.{in-edition, no-edition}
use Rattle.compute_plan.proofs.compute_plan_good.Goals as goal

pub returns : goal.returns
returns c =
    let a = c.args in
    gives_as
    (in-edition a.edition a.excluded.now a.nodes.now a.counts.now a.mtu a.digest.now (decode a.table.now) a.place a.datagram.now
    (sym c.is_edition.ensures ∙ c.if-not-is_edition.false)) c.compute_known.ensures

pub returns-then-not-is_edition : goal.returns-then-not-is_edition
returns-then-not-is_edition c =
    let a = c.args in
    no-edition a.edition a.excluded.now a.nodes.now a.counts.now a.mtu a.digest.now (decode a.table.now) a.place a.datagram.now
    (sym c.is_edition.ensures ∙ c.if-not-is_edition.true)
