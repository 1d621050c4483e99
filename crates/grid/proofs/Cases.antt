-- The rules of a grid in cases, each computed, and the order of the refusals. A wrong rule shows in one of them. Assumes nothing.
use Prim.Native.Nat.{ℕ}
use mathlib.Core.Path.{◌≡◌, refl}
use mathlib.Core.Bool.{true, false}
use mathlib.Core.List.{List, [], ◌∷◌}
use lib.Dec.{ltb}
use lib.ListN.{get_or}
use Rattle.fields.specs.Choice.{all}
use Rattle.fields.specs.Numbers.{Bytes}
use Rattle.fields.specs.Blocks.{fit, insert_at, remove_at, zeros}
use Rattle.rules.specs.Compute.{told_of}
use Rattle.rules.specs.Digest.{NodeDigest, Refused, read_digest}
use Rattle.rules.specs.Given.{given}
use Rattle.rules.specs.Node.{Rec, beats}
use Rattle.rules.specs.Table.{among}
use Rattle.std.specs.Prelude.{Err}
use Rattle.rules.specs.declared.Refusal.{Refusal}
use Rattle.rules.specs.declared.Refusal.TheVariants.{BadPeer, NobodyPresent}
use Rattle.rules.specs.declared.Status.TheVariants.{Delete}
use Rattle.grid.specs.Grid.{Grid, add_column, column_in, column_out, columns, drop_column, least_of, max_peers, maxes_told, new_grid, no_rows, of_present, place_for, place_in, place_of, place_out, row_told, somebody, take_out, tell_row}
use Rattle.grid.specs.GridLayout.{decode_grid, valid_grid}
use Rattle.grid.specs.Careful.{careful_due}
use Rattle.grid.specs.LentGrid.{lent_least, lent_tell}

-- a digest of one node, and of two
abbrev one : (number gc max : ℕ) → List NodeDigest
one i g m = record { number = i; heartbeat = beats 0; last_gc = g; max = m } ∷ []

abbrev two : (i m j n : ℕ) → List NodeDigest
two i m j n = record { number = i; heartbeat = beats 0; last_gc = 1; max = m } ∷ record { number = j; heartbeat = beats 0; last_gc = 2; max = n } ∷ []

-- a tombstone with this version, scheduled from 0
abbrev gone : (version : ℕ) → Rec
gone v = record { kv = record { key = []; value = []; version = v; status = Delete }; start = 0 }

-- the grid of nodes 2 and 5
empty : Grid
unfolding new_grid no_rows fit zeros
empty = new_grid (2 ∷ 5 ∷ [])

-- ---- rows

module _ where
  told : Grid
  told = tell_row 0 (two 2 9 5 7) empty

  abbrev Shows : (g : Grid) (i : ℕ) (ms : List ℕ) → Type 0
  Shows g i ms = maxes_told i g ≡ ms

  -- a newer digest takes the place of the older, also where a number falls; a node that it omits counts as (0,0)
  falls : Shows (tell_row 0 (one 2 1 3) told) 2 (3 ∷ [])
  unfolding told empty new_grid no_rows fit zeros tell_row row_told told_of of_present place_of
  falls = refl

  omitted : Shows (tell_row 0 (one 2 1 3) told) 5 (0 ∷ [])
  unfolding told empty new_grid no_rows fit zeros tell_row row_told told_of of_present place_of
  omitted = refl

  -- an absent peer does not count; a peer that told nothing does
  absent : Shows told 5 (7 ∷ [])
  unfolding told empty new_grid no_rows fit zeros tell_row row_told told_of of_present place_of
  absent = refl

  silent : Shows (tell_row 3 [] told) 5 (7 ∷ 0 ∷ [])
  unfolding told empty new_grid no_rows fit zeros tell_row row_told told_of of_present place_of
  silent = refl

  -- a peer that is taken out, and what it told with it
  out : Shows (take_out 0 (tell_row 3 (one 2 1 4) told)) 2 (4 ∷ [])
  unfolding told empty new_grid no_rows fit zeros tell_row take_out row_told told_of of_present place_of
  out = refl

  cleared : get_or (take_out 0 told).maxes 0 [] ≡ zeros 8
  unfolding told empty new_grid no_rows fit zeros tell_row take_out row_told told_of of_present place_of
  cleared = refl

  cleared-gc : get_or (take_out 0 told).gcs 0 [] ≡ zeros 8
  unfolding told empty new_grid no_rows fit zeros tell_row take_out row_told told_of of_present place_of
  cleared-gc = refl

  -- ---- columns

  -- node 3 comes between 2 and 5, at (0,0), in both arrays
  comes : get_or (add_column 3 told).maxes 0 [] ≡ 9 ∷ 0 ∷ 7 ∷ 0 ∷ 0 ∷ 0 ∷ 0 ∷ 0 ∷ []
  unfolding told empty new_grid no_rows fit zeros tell_row row_told told_of add_column column_in place_in place_for among insert_at
  comes = refl

  comes-gc : get_or (add_column 3 told).gcs 0 [] ≡ 1 ∷ 0 ∷ 2 ∷ 0 ∷ 0 ∷ 0 ∷ 0 ∷ 0 ∷ []
  unfolding told empty new_grid no_rows fit zeros tell_row row_told told_of add_column column_in place_in place_for among insert_at
  comes-gc = refl

  comes-number : columns (add_column 3 told) ≡ 2 ∷ 3 ∷ 5 ∷ []
  unfolding told empty new_grid no_rows fit zeros tell_row row_told told_of add_column column_in place_in place_for among insert_at
  comes-number = refl

  -- node 2 goes, from both arrays
  goes-max : get_or (drop_column 2 told).maxes 0 [] ≡ 7 ∷ 0 ∷ 0 ∷ 0 ∷ 0 ∷ 0 ∷ 0 ∷ 0 ∷ []
  unfolding told empty new_grid no_rows fit zeros tell_row row_told told_of drop_column column_out place_out place_of among remove_at
  goes-max = refl

  goes-gc : get_or (drop_column 2 told).gcs 0 [] ≡ 2 ∷ 0 ∷ 0 ∷ 0 ∷ 0 ∷ 0 ∷ 0 ∷ 0 ∷ []
  unfolding told empty new_grid no_rows fit zeros tell_row row_told told_of drop_column column_out place_out place_of among remove_at
  goes-gc = refl

  -- ---- careful removal: now 0, grace 0, so that the clock lets everything go

  both : Grid
  both = tell_row 1 (one 2 0 4) told

  -- 4 is the least max of node 2: a tombstone at 4 goes, and one at 5 waits for the peer that told 4
  seen : careful_due both 0 0 2 (gone 4) ≡ true
  unfolding both told empty new_grid no_rows fit zeros tell_row row_told told_of of_present place_of all
  seen = refl

  waits : careful_due both 0 0 2 (gone 5) ≡ false
  unfolding both told empty new_grid no_rows fit zeros tell_row row_told told_of of_present place_of all
  waits = refl

  least-is : least_of (maxes_told 2 both) ≡ 4
  unfolding both told empty new_grid no_rows fit zeros tell_row row_told told_of of_present place_of least_of
  least-is = refl

-- ---- the order of the refusals

module _ (grid : Bytes) (v : valid_grid grid ≡ true) where
  -- 22 before 2
  pub nobody-first : (number : ℕ) → somebody (decode_grid grid) ≡ false → lent_least number grid ≡ Err NobodyPresent
  unfolding lent_least
  nobody-first number e = rw (v, e) refl

  -- 21 before a digest's own numbers, 20 among them
  pub peer-first : (peer edition : ℕ) (digest : Bytes) → ltb peer max_peers ≡ false → lent_tell peer edition digest grid ≡ given (Err BadPeer) grid
  unfolding lent_tell
  peer-first peer edition digest e = rw (v, e) refl

  -- a refused digest leaves every byte, so that it makes nobody present
  pub refused-leaves : (peer edition : ℕ) (digest : Bytes) (r : Refusal) → ltb peer max_peers ≡ true → read_digest edition digest ≡ Refused r
      → lent_tell peer edition digest grid ≡ given (Err r) grid
  unfolding lent_tell
  refused-leaves peer edition digest r e q = rw (v, e, q) refl
