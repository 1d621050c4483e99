-- `local::call` meets its contract: 14, or the call on a good table. Assumes nothing.
use mathlib.Core.Path.{sym, ◌∙◌}
use Rattle.rules.specs.Answers.{answer_told}
use Rattle.rules.specs.Local.{call_as}
use Rattle.rules.specs.Whole.{decode_whole}
use Rattle.std.specs.Prelude.{Err}
use Rattle.rules.specs.declared.Refusal.TheVariants.{BadTable}
use Rattle.rules.proofs.Unique.{tells}
use Rattle.table_check.proofs.Entry.{bad-table}
use Rattle.local_node.specs.Writes.{call_of}
use Rattle.local.proofs.call.Goals as goal

pub call_guarded-requires : goal.call_guarded-requires
call_guarded-requires c =
    sym c.check_table.ensures ∙ c.if-not-check_table.false

pub returns : goal.returns
returns c =
    tells answer_told c.call_guarded.ensures

pub returns-then-not-check_table : goal.returns-then-not-check_table
returns-then-not-check_table c =
    let a = c.args in
    tells answer_told (bad-table (Err BadTable) (call_as (decode_whole a.table.now).kind.profile a.party (call_of a.kind a.value.now a.clock) a.number a.key.now) a.table.now (sym c.check_table.ensures ∙ c.if-not-check_table.true))
