-- `digest_write::write_digest` meets its contract: 14 exactly where the table is not valid, else the rule on it. Assumes nothing.
use mathlib.Core.Path.{sym, ap, ◌∙◌}
use Rattle.rules.specs.Answers.{written_told}
use Rattle.rules.specs.Given.{Given}
use Rattle.rules.proofs.Unique.{tells}
use Rattle.digest_write.proofs.Outcomes.{bad-table, good-table}
use Rattle.table_check.proofs.Entry.{area-good, area-long}
use Rattle.digest_write.proofs.write_digest.Goals as goal

pub slice_bounds-write_good-end : goal.slice_bounds-write_good-end
slice_bounds-write_good-end c =
    area-long _ c.check_table.ensures c.if-check_table.true

pub write_good-requires : goal.write_good-requires
write_good-requires c =
    area-good _ c.check_table.ensures c.if-check_table.true

pub returns-then-check_table : goal.returns-then-check_table
returns-then-check_table c =
    let a = c.args in
    let good = sym c.check_table.ensures ∙ c.if-check_table.true in
    let same = good-table a.edition a.excluded.now a.place a.datagram.now a.table.now good in
    let done = c.write_good.ensures in
    tells written_told (done.0 ∙ ap (λ (o : Given _ _). o.answer) same, done.1 ∙ ap (λ (o : Given _ _). o.lent) same)

pub returns : goal.returns
returns c =
    let a = c.args in
    tells written_told (bad-table a.edition a.excluded.now a.place a.datagram.now a.table.now (sym c.check_table.ensures ∙ c.if-check_table.false))
