-- The bytes of a grid in lent memory. All places are fixed and all numbers little-endian; every byte that is not in use is zero. So a grid that obeys the
-- rules and its bytes determine each other.
use Rattle.std.specs.Prelude.{ℕ, ◌*◌, Bool, ◌&&◌, List, [], ◌∷◌}
use Rattle.fields.specs.Numbers.{Bytes, nat_of, bytes_of}
use Rattle.fields.specs.Parts.{part}
use Rattle.fields.specs.Blocks.{fit, blocks, unblock}
use Rattle.fields.specs.Widths.{joined, offset, total}
use Rattle.fields.specs.Order.{same_bytes}
use Rattle.rules.specs.Sizes.{max_nodes}
use Rattle.grid.specs.Grid.{Grid, max_peers, obeys_grid}

-- ---- a row: eight numbers

abbrev pub row_width : ℕ
row_width = max_nodes * 8

unfoldable pub row_bytes : (row : List ℕ) → Bytes
row_bytes r = blocks max_nodes 8 (bytes_of 8) r

unfoldable pub row_in : (bytes : Bytes) → List ℕ
row_in b = unblock 8 nat_of max_nodes b

-- ---- eight rows

abbrev pub rows_width : ℕ
rows_width = max_peers * row_width

unfoldable pub rows_bytes : (rows : List (List ℕ)) → Bytes
rows_bytes rs = blocks max_peers row_width row_bytes rs

unfoldable pub rows_in : (bytes : Bytes) → List (List ℕ)
rows_in b = unblock row_width row_in max_peers b

-- ---- a grid: count of columns, their numbers, who is present, the rows of last_gc, the rows of max

abbrev pub grid_widths : List ℕ
grid_widths = 1 ∷ row_width ∷ max_peers ∷ rows_width ∷ rows_width ∷ []

-- how long the lent slice is
abbrev pub grid_width : ℕ
grid_width = total grid_widths

abbrev pub grid_fields : (grid : Grid) → List (List ℕ)
grid_fields g = bytes_of 1 g.count ∷ row_bytes g.numbers ∷ fit max_peers g.present ∷ rows_bytes g.gcs ∷ rows_bytes g.maxes ∷ []

unfoldable pub encode_grid : (grid : Grid) → Bytes
encode_grid g = joined (grid_fields g)

unfoldable pub decode_grid : (bytes : Bytes) → Grid
decode_grid l =
    record {
      count = nat_of (part (offset grid_widths 0) 1 l);
      numbers = row_in (part (offset grid_widths 1) row_width l);
      present = part (offset grid_widths 2) max_peers l;
      gcs = rows_in (part (offset grid_widths 3) rows_width l);
      maxes = rows_in (part (offset grid_widths 4) rows_width l);
    }

-- the bytes are those of a grid that obeys the rules
unfoldable pub valid_grid : (bytes : Bytes) → Bool
valid_grid l = obeys_grid (decode_grid l) && same_bytes (encode_grid (decode_grid l)) l
