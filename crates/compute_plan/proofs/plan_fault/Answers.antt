-- `compute_plan::plan_fault` meets its contract: 14 exactly where the table is not valid, else the rule on it. Assumes nothing.
use mathlib.Core.Path.{◌∙◌, ap, sym}
use Rattle.table_check.proofs.Entry.{area-good, area-long}
use Rattle.plan.specs.Faults.{judged_told}
use Rattle.compute_plan.proofs.Calling.{said-bad-table, said-good-table}
use Rattle.compute_plan.proofs.plan_fault.Goals as goal

pub slice_bounds-plan_fault_good-end : goal.slice_bounds-plan_fault_good-end
slice_bounds-plan_fault_good-end c =
    area-long _ c.check_table.ensures c.if-not-check_table.false

pub plan_fault_good-requires : goal.plan_fault_good-requires
plan_fault_good-requires c =
    area-good _ c.check_table.ensures c.if-not-check_table.false

pub returns : goal.returns
returns c =
    let a = c.args in
    ap judged_told
    (c.plan_fault_good.ensures
    ∙ said-good-table a.edition a.excluded.now a.nodes.now a.counts.now a.mtu a.digest.now a.table.now (sym c.check_table.ensures ∙ c.if-not-check_table.false))

pub returns-then-not-check_table : goal.returns-then-not-check_table
returns-then-not-check_table c =
    let a = c.args in
    ap judged_told
    (said-bad-table a.edition a.excluded.now a.nodes.now a.counts.now a.mtu a.digest.now a.table.now (sym c.check_table.ensures ∙ c.if-not-check_table.true))
