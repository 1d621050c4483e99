-- `compute_plan::compute_plan` meets its contract: 14 exactly where the table is not valid, else the rule on it. Assumes nothing.
use mathlib.Core.Path.{◌∙◌, sym}
use Rattle.rules.proofs.Unique.{tells}
use Rattle.rules.specs.Answers.{computed_told}
use Rattle.table_check.proofs.Entry.{area-good, area-long}
use Rattle.compute_write.proofs.Steps.{gives_as}
use Rattle.compute_plan.proofs.Calling.{bad-table, good-table}
use Rattle.compute_plan.proofs.compute_plan.Goals as goal

pub slice_bounds-compute_plan_good-end : goal.slice_bounds-compute_plan_good-end
slice_bounds-compute_plan_good-end c =
    area-long _ c.check_table.ensures c.if-not-check_table.false

pub compute_plan_good-requires : goal.compute_plan_good-requires
compute_plan_good-requires c =
    area-good _ c.check_table.ensures c.if-not-check_table.false

pub returns : goal.returns
returns c =
    let a = c.args in
    tells computed_told
    (gives_as
    (good-table a.edition a.excluded.now a.nodes.now a.counts.now a.mtu a.digest.now a.table.now a.place a.datagram.now
    (sym c.check_table.ensures ∙ c.if-not-check_table.false)) c.compute_plan_good.ensures)

pub returns-then-not-check_table : goal.returns-then-not-check_table
returns-then-not-check_table c =
    let a = c.args in
    tells computed_told
    (bad-table a.edition a.excluded.now a.nodes.now a.counts.now a.mtu a.digest.now a.table.now a.place a.datagram.now
    (sym c.check_table.ensures ∙ c.if-not-check_table.true))
