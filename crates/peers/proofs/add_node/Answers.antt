-- `peers::add_node` meets its contract: 14, what the table says, and the column with it. Assumes nothing.
use mathlib.Core.Path.{◌∙◌, refl, sym}
use Rattle.rules.proofs.Unique.{tells}
use Rattle.rules.specs.Answers.{answer_told}
use Rattle.rules.specs.Lent.{add_whole}
use Rattle.rules.specs.Whole.{decode_whole}
use Rattle.std.specs.Prelude.{Err}
use Rattle.rules.specs.declared.Refusal.TheVariants.{BadTable}
use Rattle.grid.specs.Grid.{add_column}
use Rattle.grid.specs.GridLayout.{decode_grid, encode_grid}
use Rattle.grid.specs.LentGrid.{both, lent_column_in}
use Rattle.std.proofs.lemmas.Result.{err_from_is_err_and}
use Rattle.peers.proofs.Watching.{both-grid, both-table, no, with-column, without-column}
use Rattle.peers.proofs.add_node.Goals as goal

pub add_known-requires : goal.add_known-requires
add_known-requires c =
    both-table c.args.grid.now c.args.table.now (sym c.check_both.ensures ∙ c.if-not-check_both.false)

pub add_column-requires : goal.add_column-requires
add_column-requires c =
    both-grid c.args.grid.now c.args.table.now (sym c.check_both.ensures ∙ c.if-not-check_both.false)

pub returns : goal.returns
unfolding lent_column_in
returns c =
    tells answer_told
    (with-column c.args.grid.now c.args.table.now (sym c.check_both.ensures ∙ c.if-not-check_both.false) (add_whole c.args.number (decode_whole c.args.table.now)) (encode_grid (add_column c.args.number (decode_grid c.args.grid.now)))
    c.add_known.result c.add_known.new.table c.add_known.ensures.0 c.add_known.ensures.1 c.in_ok-add_known.was c.add_column.new.grid c.add_column.ensures)

pub returns-in_err-add_known : goal.returns-in_err-add_known
unfolding lent_column_in
returns-in_err-add_known c =
    let p = err_from_is_err_and c.from_residual.result c.from_residual.ensures.1 in
    rw (p.1, p.2)
    (tells answer_told
    (without-column c.args.grid.now c.args.table.now (sym c.check_both.ensures ∙ c.if-not-check_both.false) (add_whole c.args.number (decode_whole c.args.table.now)) (encode_grid (add_column c.args.number (decode_grid c.args.grid.now)))
    c.add_known.result c.add_known.new.table c.add_known.ensures.0 c.add_known.ensures.1 _ c.in_err-add_known.was))

pub returns-then-not-check_both : goal.returns-then-not-check_both
unfolding lent_column_in
returns-then-not-check_both c =
    tells answer_told (no _ _ _ (sym c.check_both.ensures ∙ c.if-not-check_both.true) (Err BadTable) (both c.args.grid.now c.args.table.now) (refl, refl))
