-- `compute_plan::plan_fault_good` meets its contract: 20, or the rule in an edition that there is. Assumes nothing.
use mathlib.Core.Path.{◌∙◌, sym}
use Rattle.rules.specs.Layout.{decode}
use Rattle.compute_plan.proofs.Calling.{said-in-edition, said-no-edition}
use Rattle.compute_plan.proofs.plan_fault_good.Goals as goal

pub returns : goal.returns
returns c =
    let a = c.args in
    c.judge_known.ensures
    ∙ said-in-edition a.edition a.excluded.now a.nodes.now a.counts.now a.mtu a.digest.now (decode a.table.now) (sym c.is_edition.ensures ∙ c.if-not-is_edition.false)

pub returns-then-not-is_edition : goal.returns-then-not-is_edition
returns-then-not-is_edition c =
    let a = c.args in
    said-no-edition a.edition a.excluded.now a.nodes.now a.counts.now a.mtu a.digest.now (decode a.table.now) (sym c.is_edition.ensures ∙ c.if-not-is_edition.true)
