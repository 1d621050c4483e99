-- `removal::remove_scheduled` meets its contract: the check, then the rule. Assumes nothing.
use mathlib.Core.Path.{◌≡◌, refl, sym, ◌∙◌}
use mathlib.Core.Bool.{true}
use mathlib.Core.List.{List, ◌++◌}
use lib.ListN.{take, drop}
use Prim.Native.Nat.{ℕ}
use Rattle.rules.specs.Answers.{answer_told}
use Rattle.rules.specs.Given.{Gives}
use Rattle.rules.specs.Node.{due}
use Rattle.rules.specs.Table.{remove_all}
use Rattle.rules.specs.Local.{gc}
use Rattle.rules.specs.Layout.{table_width, encode, decode}
use Rattle.rules.specs.Whole.{valid_whole}
use Rattle.rules.specs.Lent.{lent_gc}
use Rattle.std.specs.Prelude.{Err}
use Rattle.rules.specs.Results.{done}
use Rattle.rules.specs.declared.Refusal.TheVariants.{BadTable}
use Rattle.rules.proofs.Unique.{tells}
use Rattle.table_check.proofs.Entry.{area-good, area-within, area-long, bad-table, good-table}
use Rattle.removal.proofs.remove_scheduled.Goals as goal

removed : (clock grace : ℕ) (l : List ℕ) → valid_whole l ≡ true → (m : List ℕ) → m ≡ encode (remove_all (λ i. due clock grace) (decode (take table_width l)))
    → Gives (lent_gc clock grace l) done (m ++ drop table_width l)
unfolding gc
removed clock grace l v m e = good-table (Err BadTable) (gc clock grace) l v done m (refl, e)

pub slice_bounds-remove_good-end : goal.slice_bounds-remove_good-end
slice_bounds-remove_good-end c =
    area-within _ c.check_table.ensures c.if-not-check_table.false

pub slice_bounds-remove_good-end-2 : goal.slice_bounds-remove_good-end-2
slice_bounds-remove_good-end-2 c =
    area-long _ c.check_table.ensures c.if-not-check_table.false

pub remove_good-requires : goal.remove_good-requires
remove_good-requires c =
    area-good _ c.check_table.ensures c.if-not-check_table.false

pub returns : goal.returns
returns c =
    let a = c.args in
    tells answer_told (removed a.clock a.grace a.table.now (sym c.check_table.ensures ∙ c.if-not-check_table.false) _ c.remove_good.ensures)

pub returns-then-not-check_table : goal.returns-then-not-check_table
returns-then-not-check_table c =
    let a = c.args in
    tells answer_told (bad-table (Err BadTable) (gc a.clock a.grace) a.table.now (sym c.check_table.ensures ∙ c.if-not-check_table.true))
