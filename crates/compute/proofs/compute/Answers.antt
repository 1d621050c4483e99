-- `compute::compute` meets its contract: 14 exactly where the table is not valid, else the rule on it. Assumes nothing.
use mathlib.Core.Path.{sym, ◌∙◌}
use Rattle.rules.specs.Answers.{computed_told}
use Rattle.rules.proofs.Unique.{tells}
use Rattle.compute_write.proofs.Steps.{gives_as}
use Rattle.compute.proofs.Calling.{bad-table, good-table}
use Rattle.table_check.proofs.Entry.{area-good, area-long}
use Rattle.compute.proofs.compute.Goals as goal

pub slice_bounds-compute_good-end : goal.slice_bounds-compute_good-end
slice_bounds-compute_good-end c =
    area-long _ c.check_table.ensures c.if-check_table.true

pub compute_good-requires : goal.compute_good-requires
compute_good-requires c =
    area-good _ c.check_table.ensures c.if-check_table.true

pub returns-then-check_table : goal.returns-then-check_table
returns-then-check_table c =
    let a = c.args in
    let good = sym c.check_table.ensures ∙ c.if-check_table.true in
    tells computed_told
    (gives_as (good-table a.edition a.excluded.now a.ties.now a.mtu a.place a.digest.now a.table.now a.datagram.now good)
    c.compute_good.ensures)

pub returns : goal.returns
returns c =
    let a = c.args in
    tells computed_told
    (bad-table a.edition a.excluded.now a.ties.now a.mtu a.place a.digest.now a.table.now a.datagram.now
    (sym c.check_table.ensures ∙ c.if-check_table.false))
