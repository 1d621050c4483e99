-- `grid_change::rows_told` meets its contract: the numbers passed are told, and the other places are 0. Assumes nothing.
use Rattle.std.proofs.Common.{◌≡◌, take}
use Rattle.digest_read.specs.Held.{entries_in}
use Rattle.grid.specs.Grid.{row_told}
use Rattle.grid_change.proofs.rows_told.Given as goal

abbrev pub invariant-loop-j : goal.invariant-loop-j
invariant-loop-j l = record {
  gcs : l.gcs ≡ row_told (λ d. d.last_gc) (entries_in l.digest) (take l.j l.numbers);
  maxes : l.maxes ≡ row_told (λ d. d.max) (entries_in l.digest) (take l.j l.numbers);
}
