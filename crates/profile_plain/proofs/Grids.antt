-- Calls that are lent a grid beside a table: no profile is looked at, and the freed table has the same nodes, so that it belongs to the same grids. Assumes nothing.
use Prim.Native.Nat.{ℕ}
use mathlib.Core.Path.{◌≡◌, refl, ap, ap₂, sym, ◌∙◌}
use mathlib.Core.Bool.{Bool, true, false, ◌&&◌}
use mathlib.Core.List.{List}
use lib.Dec.{eqb}
use lib.ListN.{length}
use Rattle.fields.specs.Choice.{pick}
use Rattle.rules.specs.Given.{Given, given}
use Rattle.rules.specs.Lent.{add_whole, remove_whole}
use Rattle.rules.specs.Table.{Table, numbers_of}
use Rattle.rules.specs.Whole.{Whole, decode_whole, encode_whole, valid_whole, with_table}
use Rattle.std.specs.Prelude.{Err, Result}
use Rattle.rules.specs.declared.Refusal.{Refusal}
use Rattle.rules.specs.Results.{done}
use Rattle.rules.specs.declared.Refusal.TheVariants.{BadTable, NobodyPresent}
use Rattle.grid.specs.Grid.{add_column, drop_column, new_grid, somebody}
use Rattle.grid.specs.GridLayout.{decode_grid, encode_grid, grid_width, valid_grid}
use Rattle.grid.specs.LentGrid.{GridAndTable, both, carefully_removed, fits_table, grid_on, lent_careful, lent_column_in, lent_column_out, lent_new_grid, valid_both}
use Rattle.profile_plain.specs.Plain.{freed}
use Rattle.profile_plain.proofs.Freed.{free, freed-back, freed-bytes, freed-valid}

module _ (t : List ℕ) (v : valid_whole t ≡ true) (g : List ℕ) where
  abbrev w : Whole
  w = decode_whole t

  as-valid : valid_whole (freed t) ≡ valid_whole t
  as-valid = freed-valid t v ∙ sym v

  together : valid_both g (freed t) ≡ valid_both g t
  unfolding valid_both
  together = ap₂ (λ (b : Bool) (u : Whole). valid_grid g && (b && fits_table (decode_grid g) u.table)) as-valid (freed-back t v)

  -- a grid made for the table
  pub made-freed : lent_new_grid (freed t) g ≡ lent_new_grid t g
  unfolding lent_new_grid
  made-freed =
      ap₂ (λ (b : Bool) (u : Whole). pick (eqb (length g) grid_width && b) (given done (encode_grid (new_grid (numbers_of u.table)))) (given (Err BadTable) g)) as-valid (freed-back t v)

  -- nodes that come and go with their columns
  abbrev freed_beside : Given (Result (Unit {0}) Refusal) GridAndTable → Given (Result (Unit {0}) Refusal) GridAndTable
  freed_beside o = given o.answer (both o.lent.grid (freed o.lent.table))

  -- what such a call leaves of a whole, where the grid afterwards would be this
  abbrev out : (after : List ℕ) (o : Given (Result (Unit {0}) Refusal) Whole) → Given (Result (Unit {0}) Refusal) GridAndTable
  out after o = given o.answer (both (grid_on o.answer after g) (encode_whole o.lent))

  column : (rule : Whole → Given (Result (Unit {0}) Refusal) Whole) (after : List ℕ) → rule (free w) ≡ given (rule w).answer (free (rule w).lent)
      → pick (valid_both g (freed t)) (out after (rule (decode_whole (freed t)))) (given (Err BadTable) (both g (freed t)))
      ≡ freed_beside (pick (valid_both g t) (out after (rule w)) (given (Err BadTable) (both g t)))
  column rule after e =
      ap₂ (λ (b : Bool) (u : Whole). pick b (out after (rule u)) (given (Err BadTable) (both g (freed t)))) together (freed-back t v)
      ∙ ap (λ (o : Given (Result (Unit {0}) Refusal) Whole). pick (valid_both g t) (out after o) (given (Err BadTable) (both g (freed t)))) e
      ∙ go (valid_both g t)
    where
      go : (b : Bool) → pick b (out after (given (rule w).answer (free (rule w).lent))) (given (Err BadTable) (both g (freed t)))
          ≡ freed_beside (pick b (out after (rule w)) (given (Err BadTable) (both g t)))
      go true = ap (λ (l : List ℕ). given (rule w).answer (both (grid_on (rule w).answer after g) l)) (sym (freed-bytes (rule w).lent))
      go false = refl

  pub in-freed : (i : ℕ) → lent_column_in i g (freed t) ≡ freed_beside (lent_column_in i g t)
  unfolding lent_column_in add_whole
  in-freed i = column (add_whole i) (encode_grid (add_column i (decode_grid g))) refl

  pub out-freed : (i : ℕ) → lent_column_out i g (freed t) ≡ freed_beside (lent_column_out i g t)
  unfolding lent_column_out remove_whole
  out-freed i = column (remove_whole i) (encode_grid (drop_column i (decode_grid g))) refl

  -- a careful removal
  pub careful-freed : (now grace : ℕ) → lent_careful now grace g (freed t) ≡ given (lent_careful now grace g t).answer (freed (lent_careful now grace g t).lent)
  unfolding lent_careful
  careful-freed now grace =
      ap₂ (λ (b : Bool) (u : Whole). left b (somebody (decode_grid g)) (removed u.table) u (freed t)) together (freed-back t v)
      ∙ go (valid_both g t) (somebody (decode_grid g))
    where
      removed : Table → Table
      removed = carefully_removed (decode_grid g) now grace

      left : (b c : Bool) (after : Table) (u : Whole) (l : List ℕ) → Given (Result (Unit {0}) Refusal) (List ℕ)
      left b c after u l = pick b (pick c (given done (encode_whole (with_table after u))) (given (Err NobodyPresent) l)) (given (Err BadTable) l)

      go : (b c : Bool) → left b c (removed w.table) (free w) (freed t) ≡ given (left b c (removed w.table) w t).answer (freed (left b c (removed w.table) w t).lent)
      go true true = ap (given done) (sym (freed-bytes (with_table (removed w.table) w)))
      go true false = refl
      go false c = refl
