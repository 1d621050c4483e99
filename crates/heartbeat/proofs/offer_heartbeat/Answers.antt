-- `heartbeat::offer_heartbeat` meets its contract: 14, or the rule on a good table. Assumes nothing.
use mathlib.Core.Path.{sym, ◌∙◌}
use Rattle.rules.specs.Answers.{offered_told}
use Rattle.rules.specs.Local.{offer}
use Rattle.std.specs.Prelude.{Err}
use Rattle.rules.specs.declared.Refusal.TheVariants.{BadTable}
use Rattle.rules.proofs.Unique.{tells}
use Rattle.table_check.proofs.Entry.{area-good, area-within, area-long, bad-table, good-table}
use Rattle.heartbeat.proofs.offer_heartbeat.Goals as goal

pub slice_bounds-offer_good-end : goal.slice_bounds-offer_good-end
slice_bounds-offer_good-end c =
    area-within _ c.check_table.ensures c.if-not-check_table.false

pub slice_bounds-offer_good-end-2 : goal.slice_bounds-offer_good-end-2
slice_bounds-offer_good-end-2 c =
    area-long _ c.check_table.ensures c.if-not-check_table.false

pub offer_good-requires : goal.offer_good-requires
offer_good-requires c =
    area-good _ c.check_table.ensures c.if-not-check_table.false

pub returns : goal.returns
returns c =
    let a = c.args in
    let w = c.offer_good in
    tells offered_told (good-table (Err BadTable) (offer a.number a.got) a.table.now (sym c.check_table.ensures ∙ c.if-not-check_table.false) w.result w.new.table w.ensures)

pub returns-then-not-check_table : goal.returns-then-not-check_table
returns-then-not-check_table c =
    let a = c.args in
    tells offered_told (bad-table (Err BadTable) (offer a.number a.got) a.table.now (sym c.check_table.ensures ∙ c.if-not-check_table.true))
