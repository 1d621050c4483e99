-- A table that the check accepts, without asking it again: the area that is lent, and what a call on it comes to in the whole. Assumes nothing.
use Prim.Native.Nat.{ℕ, ◌≤◌}
use mathlib.Core.Path.{◌≡◌, refl, sym}
use mathlib.Core.Bool.{true}
use mathlib.Core.List.{List, ◌++◌}
use lib.ListN.{length, take, drop}
use Rattle.rules.specs.Given.{Given, Gives}
use Rattle.rules.specs.Table.{Table, remove_all}
use Rattle.rules.specs.Node.{due}
use Rattle.rules.specs.Local.{gc}
use Rattle.rules.specs.Layout.{table_width, encode, decode, valid}
use Rattle.rules.specs.Whole.{decode_whole, valid_whole}
use Rattle.rules.specs.Lent.{from_table, lent_gc}
use Rattle.std.specs.Prelude.{Err}
use Rattle.rules.specs.Results.{done}
use Rattle.rules.specs.declared.Refusal.TheVariants.{BadTable}
use Rattle.table_check.proofs.Entry.{area-good, area-within, area-long, good-table}
use Rattle.table_read.proofs.Entry.{read-good, fill-good}

module _ (l : List ℕ) (v : valid_whole l ≡ true) where
  pub good-area : valid (take table_width l) ≡ true
  good-area = area-good l (sym v) refl

  pub good-within : table_width ≤ length l
  good-within = area-within l (sym v) refl

  pub good-long : table_width ≡ length (take table_width l)
  good-long = area-long l (sym v) refl

pub good-read : {A : Type 0} (bad : A) (rule : Table → A) (l : List ℕ) → valid_whole l ≡ true → (r : A) → r ≡ rule (decode_whole l).table → r ≡ from_table bad rule l
good-read bad rule l v r p = read-good bad rule l (sym v) refl r p

pub good-fill : {A M : Type 0} (rule : Table → Given A M) (l : List ℕ) → valid_whole l ≡ true → (bad : Given A M) (a : A) (m : M) → Gives (rule (decode_whole l).table) a m → Gives (from_table bad rule l) a m
good-fill rule l v bad a m p = fill-good rule l (sym v) bad refl a m p

-- the removal answers nothing on a good table
pub good-removed : (clock grace : ℕ) (l : List ℕ) → valid_whole l ≡ true → (m : List ℕ) → m ≡ encode (remove_all (λ i. due clock grace) (decode (take table_width l)))
    → Gives (lent_gc clock grace l) done (m ++ drop table_width l)
unfolding gc
good-removed clock grace l v m e = good-table (Err BadTable) (gc clock grace) l v done m (refl, e)
