-- `peers::remove_carefully` meets its contract: 14, 22, and the removal. Assumes nothing.
use Prim.Native.Nat.{ℕ}
use mathlib.Core.List.{List}
use mathlib.Core.Path.{◌∙◌, ap, refl, sym}
use native.Mathlib.Omega.{arith}
use lib.Seq.{length-take-le}
use Rattle.fields.proofs.Lent.{seen}
use Rattle.rules.proofs.Unique.{tells}
use Rattle.rules.specs.Answers.{answer_told}
use Rattle.rules.specs.Layout.{table_width}
use Rattle.rules.specs.Table.{among}
use Rattle.rules.specs.Whole.{decode_whole}
use Rattle.std.specs.Prelude.{Err}
use Rattle.rules.specs.Results.{done}
use Rattle.rules.specs.declared.Refusal.TheVariants.{BadTable, NobodyPresent}
use Rattle.table.proofs.Wholes.{area-valid, whole_long}
use Rattle.table_check.proofs.Entry.{area-back}
use Rattle.grid.specs.Grid.{max_peers}
use Rattle.grid.specs.GridLayout.{decode_grid}
use Rattle.grid.specs.LentGrid.{carefully_removed, lent_careful}
use Rattle.grid.proofs.GridBytes.{good-grid}
use Rattle.peers.proofs.Watching.{both-fit, both-grid, both-table, no, present-is, yes}
use Rattle.peers.proofs.remove_carefully.Goals as goal

pub slice_bounds-somebody-end : goal.slice_bounds-somebody-end
slice_bounds-somebody-end c =
    let g : List ℕ = c.args.grid.now in
    let t : List ℕ = c.args.table.now in
    let vb = sym c.check_both.ensures ∙ c.if-not-check_both.false in
    let v = both-table g t vb in
    omega (arith, (good-grid g (both-grid g t vb)).long)

pub slice_bounds-remove_known-end : goal.slice_bounds-remove_known-end
slice_bounds-remove_known-end c =
    let g : List ℕ = c.args.grid.now in
    let t : List ℕ = c.args.table.now in
    let vb = sym c.check_both.ensures ∙ c.if-not-check_both.false in
    let v = both-table g t vb in
    omega (arith, whole_long t v)

pub slice_bounds-remove_known-end-2 : goal.slice_bounds-remove_known-end-2
slice_bounds-remove_known-end-2 c =
    let g : List ℕ = c.args.grid.now in
    let t : List ℕ = c.args.table.now in
    let vb = sym c.check_both.ensures ∙ c.if-not-check_both.false in
    let v = both-table g t vb in
    sym (length-take-le table_width t (omega (arith, whole_long t v)))

pub remove_known-requires : goal.remove_known-requires
remove_known-requires c =
    let g : List ℕ = c.args.grid.now in
    let t : List ℕ = c.args.table.now in
    let vb = sym c.check_both.ensures ∙ c.if-not-check_both.false in
    let v = both-table g t vb in
    (both-grid g t vb, area-valid t v, both-fit g t vb)

pub returns : goal.returns
unfolding lent_careful
returns c =
    let g : List ℕ = c.args.grid.now in
    let t : List ℕ = c.args.table.now in
    let vb = sym c.check_both.ensures ∙ c.if-not-check_both.false in
    let v = both-table g t vb in
    let here = sym (present-is g c.somebody.result (c.somebody.ensures ∙ ap (among 1) (seen 65 max_peers g))) ∙ c.if-not-somebody.false in
    tells answer_told
    (yes _ _ _ vb done _
    (yes _ _ _ here done _ (refl, area-back t v (carefully_removed (decode_grid g) c.args.clock c.args.grace (decode_whole t).table) _ c.remove_known.ensures)))

pub returns-then-not-somebody : goal.returns-then-not-somebody
unfolding lent_careful
returns-then-not-somebody c =
    let g : List ℕ = c.args.grid.now in
    let t : List ℕ = c.args.table.now in
    let vb = sym c.check_both.ensures ∙ c.if-not-check_both.false in
    let v = both-table g t vb in
    let here = sym (present-is g c.somebody.result (c.somebody.ensures ∙ ap (among 1) (seen 65 max_peers g))) ∙ c.if-not-somebody.true in
    tells answer_told (yes _ _ _ vb (Err NobodyPresent) t (no _ _ _ here (Err NobodyPresent) t (refl, refl)))

pub returns-then-not-check_both : goal.returns-then-not-check_both
unfolding lent_careful
returns-then-not-check_both c =
    let t : List ℕ = c.args.table.now in
    tells answer_told (no _ _ _ (sym c.check_both.ensures ∙ c.if-not-check_both.true) (Err BadTable) t (refl, refl))
