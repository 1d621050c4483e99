-- `heartbeat::local_beat` meets its contract: 14, or the rule on a good table. Assumes nothing.
use mathlib.Core.Path.{sym, ◌∙◌}
use Rattle.rules.specs.Answers.{answer_told}
use Rattle.rules.specs.Local.{local_beat}
use Rattle.std.specs.Prelude.{Err}
use Rattle.rules.specs.declared.Refusal.TheVariants.{BadTable}
use Rattle.rules.proofs.Unique.{tells}
use Rattle.table_check.proofs.Entry.{area-good, area-within, area-long, bad-table, good-table}
use Rattle.heartbeat.proofs.local_beat.Goals as goal

pub slice_bounds-beat_good-end : goal.slice_bounds-beat_good-end
slice_bounds-beat_good-end c =
    area-within _ c.check_table.ensures c.if-not-check_table.false

pub slice_bounds-beat_good-end-2 : goal.slice_bounds-beat_good-end-2
slice_bounds-beat_good-end-2 c =
    area-long _ c.check_table.ensures c.if-not-check_table.false

pub beat_good-requires : goal.beat_good-requires
beat_good-requires c =
    area-good _ c.check_table.ensures c.if-not-check_table.false

pub returns : goal.returns
returns c =
    let a = c.args in
    let w = c.beat_good in
    tells answer_told (good-table (Err BadTable) (local_beat a.number) a.table.now (sym c.check_table.ensures ∙ c.if-not-check_table.false) w.result w.new.table w.ensures)

pub returns-then-not-check_table : goal.returns-then-not-check_table
returns-then-not-check_table c =
    let a = c.args in
    tells answer_told (bad-table (Err BadTable) (local_beat a.number) a.table.now (sym c.check_table.ensures ∙ c.if-not-check_table.true))
