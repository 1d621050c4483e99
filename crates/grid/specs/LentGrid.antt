-- The calls of ticket 12 on lent memory: the bytes of the grid and of its table, before and after. Number 14 comes first everywhere: the grid breaks a rule
-- of grids, the table one of tables, or, for the calls that take both, the columns are not the table's nodes.
use Rattle.std.specs.Prelude.{ℕ, Bool, ◌&&◌, [], ◌∷◌, length, get_or, ltb, eqb}
use Rattle.fields.specs.Numbers.{Bytes}
use Rattle.fields.specs.Choice.{pick}
use Rattle.fields.specs.Order.{same_bytes}
use Rattle.rules.specs.Given.{Given, given}
use Rattle.rules.specs.Answers.{Told, accepted, refused}
use Rattle.rules.specs.Table.{Table, among, numbers_of, remove_all}
use Rattle.rules.specs.Digest.{DigestRead, Entries, Refused, read_digest}
use Rattle.rules.specs.Whole.{with_table, encode_whole, decode_whole, valid_whole}
use Rattle.rules.specs.Lent.{add_whole, remove_whole}
use Rattle.std.specs.Prelude.{Err, None, Ok, Option, Result, Some}
use Rattle.rules.specs.declared.Pair.{Pair}
use Rattle.rules.specs.declared.Refusal.{Refusal}
use Rattle.rules.specs.Results.{done}
use Rattle.rules.specs.declared.Refusal.TheVariants.{BadTable, NoNode, BadPeer, NobodyPresent}
use Rattle.grid.specs.Grid.{Grid, max_peers, columns, new_grid, add_column, drop_column, place_of, tell_row, take_out, somebody, maxes_told, least_of}
use Rattle.grid.specs.GridLayout.{grid_width, encode_grid, decode_grid, valid_grid}
use Rattle.grid.specs.Careful.{careful_due}

-- ---- answers in numbers and values

unfoldable pub least_told : (Result ℕ Refusal) → Told
least_told (Ok n) = accepted (n ∷ [])
least_told (Err r) = refused r []

-- last_gc and max, or nothing where the peer is absent
unfoldable pub seen_told : (Result (Option Pair) Refusal) → Told
seen_told (Ok (Some p)) = accepted (p.last_gc ∷ p.max ∷ [])
seen_told (Ok None) = accepted []
seen_told (Err r) = refused r []

-- ---- a grid and its table

-- the columns are the table's nodes
abbrev pub fits_table : (grid : Grid) (table : Table) → Bool
fits_table g t = same_bytes (columns g) (numbers_of t)

unfoldable pub valid_both : (grid table : Bytes) → Bool
valid_both grid table = valid_grid grid && (valid_whole table && fits_table (decode_grid grid) (decode_whole table).table)

pub record GridAndTable : Type 0 where
  pub grid : Bytes
  pub table : Bytes

abbrev pub both : (grid table : Bytes) → GridAndTable
both grid table = record { grid = grid; table = table }

-- ---- made for a table: whatever stood in the slice, of which the length alone is asked

unfoldable pub lent_new_grid : (table grid : Bytes) → Given (Result (Unit {0}) Refusal) Bytes
lent_new_grid table grid =
    pick (eqb (length grid) grid_width && valid_whole table)
    (given done (encode_grid (new_grid (numbers_of (decode_whole table).table))))
    (given (Err BadTable) grid)

-- ---- nodes that come and go: 14, then what adding and removing a node say

-- the grid goes with the table, unless that refuses
abbrev pub grid_on : (answer : (Result (Unit {0}) Refusal)) (after before : Bytes) → Bytes
grid_on (Ok _) after before = after
grid_on (Err r) after before = before

unfoldable pub lent_column_in : (number : ℕ) (grid table : Bytes) → Given (Result (Unit {0}) Refusal) GridAndTable
lent_column_in i grid table =
    pick (valid_both grid table)
    (given (add_whole i (decode_whole table)).answer
    (both (grid_on (add_whole i (decode_whole table)).answer (encode_grid (add_column i (decode_grid grid))) grid) (encode_whole (add_whole i (decode_whole table)).lent)))
    (given (Err BadTable) (both grid table))

unfoldable pub lent_column_out : (number : ℕ) (grid table : Bytes) → Given (Result (Unit {0}) Refusal) GridAndTable
lent_column_out i grid table =
    pick (valid_both grid table)
    (given (remove_whole i (decode_whole table)).answer
    (both (grid_on (remove_whole i (decode_whole table)).answer (encode_grid (drop_column i (decode_grid grid))) grid) (encode_whole (remove_whole i (decode_whole table)).lent)))
    (given (Err BadTable) (both grid table))

-- ---- peers: 14, 21

-- a told digest: then its own numbers, 20 among them
abbrev pub tell_on : (peer : ℕ) (read : DigestRead) (grid : Bytes) → Given (Result (Unit {0}) Refusal) Bytes
tell_on p (Entries ds rest) grid = given done (encode_grid (tell_row p ds (decode_grid grid)))
tell_on p (Refused r) grid = given (Err r) grid

unfoldable pub lent_tell : (peer edition : ℕ) (digest grid : Bytes) → Given (Result (Unit {0}) Refusal) Bytes
lent_tell p edition digest grid =
    pick (valid_grid grid)
    (pick (ltb p max_peers) (tell_on p (read_digest edition digest) grid) (given (Err BadPeer) grid))
    (given (Err BadTable) grid)

-- taking out an absent peer changes nothing: its row is zero already
unfoldable pub lent_take_out : (peer : ℕ) (grid : Bytes) → Given (Result (Unit {0}) Refusal) Bytes
lent_take_out p grid =
    pick (valid_grid grid)
    (pick (ltb p max_peers) (given done (encode_grid (take_out p (decode_grid grid)))) (given (Err BadPeer) grid))
    (given (Err BadTable) grid)

-- the pair that a peer told of a node: 14, 21, 2
abbrev pub pair_seen : (peer place : ℕ) (grid : Grid) → (Result (Option Pair) Refusal)
pair_seen p j g = pick (eqb (get_or g.present p 0) 1) (Ok (Some (record { last_gc = (get_or (get_or g.gcs p []) j 0); max = (get_or (get_or g.maxes p []) j 0) }))) (Ok None)

abbrev pub seen_in : (peer number : ℕ) (grid : Grid) → (Result (Option Pair) Refusal)
seen_in p i g =
    pick (ltb p max_peers) (pick (among i (columns g)) (pair_seen p (place_of i (columns g)) g) (Err NoNode)) (Err BadPeer)

unfoldable pub lent_seen : (peer number : ℕ) (grid : Bytes) → (Result (Option Pair) Refusal)
lent_seen p i grid = pick (valid_grid grid) (seen_in p i (decode_grid grid)) (Err BadTable)

-- ---- the least max: 14, 22, 2

abbrev pub least_in : (number : ℕ) (grid : Grid) → (Result ℕ Refusal)
least_in i g =
    pick (somebody g) (pick (among i (columns g)) (Ok (least_of (maxes_told i g))) (Err NoNode)) (Err NobodyPresent)

unfoldable pub lent_least : (number : ℕ) (grid : Bytes) → (Result ℕ Refusal)
lent_least i grid = pick (valid_grid grid) (least_in i (decode_grid grid)) (Err BadTable)

-- ---- careful removal: 14, 22

-- the table that a careful removal leaves, where it is not refused
abbrev pub carefully_removed : (grid : Grid) (now grace : ℕ) (table : Table) → Table
carefully_removed g now grace t = remove_all (careful_due g now grace) t

unfoldable pub lent_careful : (now grace : ℕ) (grid table : Bytes) → Given (Result (Unit {0}) Refusal) Bytes
lent_careful now grace grid table =
    pick (valid_both grid table)
    (pick (somebody (decode_grid grid))
    (given done (encode_whole (with_table (carefully_removed (decode_grid grid) now grace (decode_whole table).table) (decode_whole table))))
    (given (Err NobodyPresent) table))
    (given (Err BadTable) table)
