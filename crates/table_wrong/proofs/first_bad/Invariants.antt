-- `table_wrong::first_bad` meets its contract: the nodes that are passed and the first bad one of those left. Assumes nothing.
use Prim.Native.Nat.{◌+◌, ◌-◌}
use mathlib.Core.Path.{◌≡◌}
use lib.ListN.{drop}
use Rattle.rules.specs.Layout.{node_place}
use Rattle.table_listing.specs.TableListing.{first_bad}
use Rattle.table_wrong.proofs.first_bad.Given as goal

abbrev pub invariant-loop-i : goal.invariant-loop-i
invariant-loop-i l = l.i + first_bad (l.n - l.i) (drop (node_place l.i) l.area) ≡ first_bad l.n (drop (node_place 0) l.area)
