-- A node that is added through a grid leaves what the rows tell of every other node, and they tell 0 of it. Assumes nothing.
use Prim.Native.Nat.{ℕ, suc, ◌≤◌, ◌<◌}
use mathlib.Core.Bool.{Bool, true, false, ◌&&◌}
use mathlib.Core.List.{[], ◌∷◌}
use mathlib.Core.Path.{◌≡◌, ◌∙◌, ap, ap₂, refl, subst, sym}
use native.Mathlib.Omega.{arith}
use lib.Dec.{ltb}
use lib.ListN.{length, get_or}
use lib.Seq.{length-take-le}
use borrow.Author.Tests.{ltb-true}
use Rattle.fields.specs.Choice.{pick}
use Rattle.fields.specs.Numbers.{Bytes}
use Rattle.fields.proofs.Choice.{and_right, pick-false, pick_true}
use Rattle.fields.proofs.Ordered.{same_true}
use Rattle.rules.specs.Given.{given}
use Rattle.rules.specs.Lent.{add_whole, lent_add, on_whole}
use Rattle.rules.specs.Local.{Outcome, add, gives}
use Rattle.rules.specs.Sizes.{max_nodes, numbers}
use Rattle.rules.specs.Table.{Table, add_node, among, numbers_of, obeys, rising}
use Rattle.rules.specs.Whole.{Whole, decode_whole, encode_whole, valid_whole}
use Rattle.std.specs.Prelude.{Err, Result}
use Rattle.rules.specs.declared.Refusal.{Refusal}
use Rattle.rules.specs.Results.{done}
use Rattle.rules.specs.declared.Refusal.TheVariants.{BadTable, NinthNode}
use Rattle.rules.proofs.Calls.{add-keeps}
use Rattle.rules.proofs.Memories.{whole-table}
use Rattle.table.proofs.Tables.{table-obeys}
use Rattle.table.proofs.Wholes.{whole-obeys}
use Rattle.grid.specs.Grid.{Grid, add_column, column_in, columns, place_for}
use Rattle.grid.specs.GridLayout.{decode_grid, encode_grid, valid_grid}
use Rattle.grid.specs.LentGrid.{both, fits_table, grid_on, lent_column_in, valid_both}
use Rattle.grid.proofs.GridBytes.{good-grid}
use Rattle.grid.proofs.Places.{place-fits}
use Rattle.grid_kept.proofs.Encoded.{decode-encode}
use Rattle.grid_kept.proofs.Keeps.{add-sound}
use Rattle.grid_kept.proofs.LentKept.{both-grid, both-table}
use Rattle.grid_kept.proofs.Sound.{Sound, grid-facts, valid-sound}
use Rattle.net_careful.specs.Careful.{told_max}
use Rattle.net_watched.proofs.Rows.{come-less}

-- the same peers are present, and no row tells more of any node
pub record TellsLess (h g : Grid) : Type 0 where
  pub flags : (p : ℕ) → get_or h.present p 0 ≡ get_or g.present p 0
  pub rows : (p i : ℕ) → told_max p i h ≤ told_max p i g

pub tells-same : (g : Grid) → TellsLess g g
tells-same g = record { flags = λ p. refl; rows = λ p i. omega arith }

numbers-long : (t : Table) → length (numbers_of t) ≡ length t
unfolding numbers_of
numbers-long [] = refl
numbers-long (e ∷ t) = ap suc (numbers-long t)

module _ (g t : Bytes) (v : valid_both g t ≡ true) (i : ℕ) (fits : i < numbers) where
  abbrev x : Grid
  x = decode_grid g

  abbrev w : Whole
  w = decode_whole t

  sound : Sound x
  sound = valid-sound g (both-grid g t v)

  same : columns x ≡ numbers_of w.table
  unfolding valid_both
  same =
      same_true (columns x) (numbers_of w.table)
      (and_right (valid_whole t) (fits_table x w.table) (and_right (valid_grid g) (valid_whole t && fits_table x w.table) v))

  long : length (columns x) ≡ x.count
  long = length-take-le x.count x.numbers (omega (arith, (grid-facts x sound.obeyed).few, sound.fits.named.long))

  -- the column comes where there is room for it
  come : among i (numbers_of w.table) ≡ false → ltb (length w.table) max_nodes ≡ true → TellsLess (decode_grid (encode_grid (add_column i x))) x
  unfolding add add_column column_in
  come p q = subst (λ (y : Grid). TellsLess y x) (sym (decode-encode (add_column i x) (add-sound x sound w.table same i p fits room rise).fits)) (subst (λ (y : Grid). TellsLess y x) (sym is) less)
    where
      room : length (numbers_of w.table) < max_nodes
      room = omega (arith, numbers-long w.table, ltb-true (length w.table) max_nodes q)

      added : add i w.table ≡ gives done (add_node i w.table)
      added = ap₂ (λ (a b : Bool). pick a (gives done w.table) (pick b (gives done (add_node i w.table)) (gives (Err NinthNode) w.table))) p q

      rise : rising (numbers_of (add_node i w.table)) ≡ true
      rise =
          (table-obeys (add_node i w.table)
          (subst (λ (o : Outcome (Result (Unit {0}) Refusal)). obeys o.table ≡ true) added (add-keeps i w.table fits (whole-table w (whole-obeys t (both-table g t v)))))).rise

      is : add_column i x ≡ column_in (place_for i (columns x)) i x
      is = pick-false (among i (columns x)) x (column_in (place_for i (columns x)) i x) (ap (among i) same ∙ p)

      low : place_for i (columns x) ≤ x.count
      low = omega (arith, place-fits i (columns x), long)

      free : x.count < max_nodes
      free = omega (arith, long, ap length same, room)

      less : TellsLess (column_in (place_for i (columns x)) i x) x
      less = record { flags = λ p. refl; rows = come-less x (place_for i (columns x)) i sound.fits.named.long low free (place-fits i (columns x)) }

  -- what adding the node through the grid leaves of it
  pub joined : TellsLess (decode_grid (lent_column_in i g t).lent.grid) x
  unfolding lent_column_in add_whole add add_column
  joined =
      subst (λ (b : Bool). TellsLess (decode_grid (pick b (given (add_whole i w).answer (both (grid_on (add_whole i w).answer (encode_grid (add_column i x)) g) (encode_whole (add_whole i w).lent))) (given (Err BadTable) (both g t))).lent.grid) x) (sym v)
      (go (among i (numbers_of w.table)) refl (ltb (length w.table) max_nodes) refl)
    where
      out : (a b : Bool) → Outcome (Result (Unit {0}) Refusal)
      out a b = pick a (gives done w.table) (pick b (gives done (add_node i w.table)) (gives (Err NinthNode) w.table))

      here : TellsLess (decode_grid (encode_grid x)) x
      here = subst (λ (l : Bytes). TellsLess (decode_grid l) x) (sym (good-grid g (both-grid g t v)).is) (tells-same x)

      go : (a : Bool) → among i (numbers_of w.table) ≡ a → (b : Bool) → ltb (length w.table) max_nodes ≡ b → TellsLess (decode_grid (grid_on (out a b).answer (encode_grid (add_column i x)) g)) x
      go true p b q =
          subst (λ (y : Grid). TellsLess (decode_grid (encode_grid y)) x) (sym (pick_true (among i (columns x)) x (column_in (place_for i (columns x)) i x) (ap (among i) same ∙ p))) here
      go false p true q = come p q
      go false p false q = tells-same x

-- and of the table: what adding the node leaves of it
pub joined-table : (g t : Bytes) → valid_both g t ≡ true → (i : ℕ) → (lent_column_in i g t).lent.table ≡ (lent_add i t).lent
unfolding lent_column_in on_whole
joined-table g t v i =
    ap (λ (b : Bool). (pick b (given (add_whole i (decode_whole t)).answer (both (grid_on (add_whole i (decode_whole t)).answer (encode_grid (add_column i (decode_grid g))) g) (encode_whole (add_whole i (decode_whole t)).lent))) (given (Err BadTable) (both g t))).lent.table) v
    ∙ sym (ap (λ (b : Bool). (pick b (given (add_whole i (decode_whole t)).answer (encode_whole (add_whole i (decode_whole t)).lent)) (given (Err BadTable) t)).lent) (both-table g t v))
