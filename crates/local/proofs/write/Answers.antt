-- `local::write` meets its contract: 14, or the write on a good table. Assumes nothing.
use mathlib.Core.Path.{sym, ◌∙◌}
use Rattle.rules.specs.Answers.{answer_told}
use Rattle.rules.specs.Delta.{status_byte}
use Rattle.rules.specs.Local.{write_as}
use Rattle.rules.specs.Whole.{decode_whole}
use Rattle.std.specs.Prelude.{Err}
use Rattle.rules.specs.declared.Refusal.TheVariants.{BadTable}
use Rattle.rules.proofs.Unique.{tells}
use Rattle.table_check.proofs.Entry.{bad-table}
use Rattle.local.proofs.write.Goals as goal

pub write_guarded-requires : goal.write_guarded-requires
write_guarded-requires c =
    sym c.check_table.ensures ∙ c.if-not-check_table.false

pub returns : goal.returns
returns c =
    tells answer_told c.write_guarded.ensures

pub returns-then-not-check_table : goal.returns-then-not-check_table
returns-then-not-check_table c =
    let a = c.args in
    tells answer_told (bad-table (Err BadTable) (write_as (decode_whole a.table.now).kind.profile a.party (status_byte a.wanted) a.value.now a.clock a.number a.key.now) a.table.now (sym c.check_table.ensures ∙ c.if-not-check_table.true))
