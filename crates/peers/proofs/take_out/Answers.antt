-- `peers::take_out` meets its contract: 14, 21, and the row. Assumes nothing.
use Prim.Native.Nat.{ℕ}
use mathlib.Core.Path.{◌∙◌, ap, refl, sym}
use native.Mathlib.Omega.{arith}
use borrow.Author.Tests.{le-ltb, lt-ltb}
use Rattle.rules.proofs.Unique.{tells}
use Rattle.rules.specs.Answers.{answer_told}
use Rattle.std.specs.Prelude.{Err}
use Rattle.rules.specs.Results.{done}
use Rattle.rules.specs.declared.Refusal.TheVariants.{BadPeer, BadTable}
use Rattle.grid.specs.Grid.{max_peers, take_out}
use Rattle.grid.specs.GridLayout.{decode_grid, encode_grid}
use Rattle.grid.specs.LentGrid.{lent_take_out}
use Rattle.std.proofs.lemmas.Result.{err_from_is_err_and}
use Rattle.peers.proofs.Watching.{no, yes}
use Rattle.peers.proofs.take_out.Goals as goal

pub take_out_row-requires : goal.take_out_row-requires
take_out_row-requires c =
    ((sym c.check_grid.ensures ∙ c.if-not-check_grid.false), omega (arith, c.in_ok-row.ensures.1))

pub returns : goal.returns
unfolding lent_take_out
returns c =
    tells answer_told (yes _ _ _ (sym c.check_grid.ensures ∙ c.if-not-check_grid.false) done _ (yes _ _ _ (lt-ltb c.args.peer max_peers (omega (arith, c.in_ok-row.ensures.0, c.in_ok-row.ensures.1))) done _ (refl, c.take_out_row.ensures ∙ ap (λ (r : ℕ). encode_grid (take_out r (decode_grid c.args.grid.now))) c.in_ok-row.ensures.0)))

pub returns-in_err-row : goal.returns-in_err-row
unfolding lent_take_out
returns-in_err-row c =
    let p = err_from_is_err_and c.from_residual.result c.from_residual.ensures.1 in
    rw (p.1, p.2, c.in_err-row.ensures.0)
    (tells answer_told (yes _ _ _ (sym c.check_grid.ensures ∙ c.if-not-check_grid.false) (Err BadPeer) c.args.grid.now (no _ _ _ (le-ltb c.args.peer max_peers c.in_err-row.ensures.1) (Err BadPeer) c.args.grid.now (refl, refl))))

pub returns-then-not-check_grid : goal.returns-then-not-check_grid
unfolding lent_take_out
returns-then-not-check_grid c =
    tells answer_told (no _ _ _ (sym c.check_grid.ensures ∙ c.if-not-check_grid.true) (Err BadTable) c.args.grid.now (refl, refl))
