-- `peers::bounds_of` meets its contract: one column after the other. Assumes nothing.
use Prim.Native.Nat.{ℕ, ◌<◌}
use mathlib.Core.Path.{◌≡◌}
use lib.ListN.{length, get_or}
use Rattle.rules.specs.Sizes.{max_nodes}
use Rattle.grid.specs.Grid.{least_of, maxes_at}
use Rattle.grid.specs.GridLayout.{decode_grid}
use Rattle.peers.proofs.bounds_of.Given as goal

abbrev pub invariant-loop-j : goal.invariant-loop-j
invariant-loop-j l = record {
  long : length l.bounds ≡ max_nodes;
  least : (k : ℕ) → k < l.j → get_or l.bounds k 0 ≡ least_of (maxes_at k (decode_grid l.grid));
}
