-- `prefix::list_prefix` meets its contract: 14, or the rule on a good table. Assumes nothing.
use mathlib.Core.Path.{sym, ◌∙◌}
use Rattle.rules.specs.Answers.{listed_told}
use Rattle.rules.specs.Local.{prefixed_as}
use Rattle.rules.specs.Whole.{decode_whole}
use Rattle.std.specs.Prelude.{Err}
use Rattle.rules.specs.declared.Refusal.TheVariants.{BadTable}
use Rattle.rules.proofs.Unique.{tells}
use Rattle.table_read.proofs.Entry.{fill-bad}
use Rattle.prefix.proofs.list_prefix.Goals as goal

pub list_known-requires : goal.list_known-requires
list_known-requires c =
    sym c.check_table.ensures ∙ c.if-check_table.true

pub returns-then-check_table : goal.returns-then-check_table
returns-then-check_table c =
    tells listed_told c.list_known.ensures

pub returns-else-check_table : goal.returns-else-check_table
returns-else-check_table c =
    let a = c.args in
    tells listed_told
    (fill-bad (λ t. prefixed_as (decode_whole a.table.now).kind.profile a.party a.number a.prefix.now t a.out.now) a.table.now c.check_table.ensures c.if-check_table.false (Err BadTable) a.out.now)
