-- `nodes::remove_node` meets its contract: 14, or the rule on a good table. Assumes nothing.
use mathlib.Core.Path.{sym, ◌∙◌}
use Rattle.rules.specs.Answers.{answer_told}
use Rattle.rules.specs.Lent.{remove_whole}
use Rattle.std.specs.Prelude.{Err}
use Rattle.rules.specs.declared.Refusal.TheVariants.{BadTable}
use Rattle.rules.proofs.Unique.{tells}
use Rattle.table_check.proofs.Entry.{bad-whole, good-whole}
use Rattle.nodes.proofs.remove_node.Goals as goal

pub remove_known-requires : goal.remove_known-requires
remove_known-requires c =
    sym c.check_table.ensures ∙ c.if-not-check_table.false

pub returns : goal.returns
returns c =
    let a = c.args in
    tells answer_told
    (good-whole (Err BadTable) (remove_whole a.number) a.table.now (sym c.check_table.ensures ∙ c.if-not-check_table.false) c.remove_known.result c.remove_known.new.table c.remove_known.ensures.0 c.remove_known.ensures.1)

pub returns-then-not-check_table : goal.returns-then-not-check_table
returns-then-not-check_table c =
    let a = c.args in
    tells answer_told (bad-whole (Err BadTable) (remove_whole a.number) a.table.now (sym c.check_table.ensures ∙ c.if-not-check_table.true))
