-- A grid out of values and of the flags in its bytes, and one in which the rows of a peer are replaced.
use Rattle.std.specs.Prelude.{ℕ, List, set}
use Rattle.fields.specs.Numbers.{Bytes}
use Rattle.fields.specs.Parts.{part}
use Rattle.fields.specs.Widths.{offset}
use Rattle.grid.specs.Grid.{Grid, max_peers}
use Rattle.grid.specs.GridLayout.{grid_widths}

abbrev pub grid_of : (count : ℕ) (numbers : List ℕ) (bytes : Bytes) (gcs maxes : List (List ℕ)) → Grid
grid_of n ns b gcs maxes = record { count = n; numbers = ns; present = part (offset grid_widths 2) max_peers b; gcs = gcs; maxes = maxes }

abbrev pub with_rows : (peer flag : ℕ) (gc_row max_row : List ℕ) (grid : Grid) → Grid
with_rows p f g m grid =
    record { count = grid.count; numbers = grid.numbers; present = set grid.present p f; gcs = set grid.gcs p g; maxes = set grid.maxes p m }
