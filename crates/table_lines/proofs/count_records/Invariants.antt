-- `table_lines::count_records` meets its contract: what is counted and what is left are the whole. Assumes nothing.
use Prim.Native.Nat.{◌+◌, ◌*◌, ◌≤◌}
use mathlib.Core.Path.{◌≡◌}
use lib.ListN.{drop}
use Rattle.rules.specs.Layout.{decode}
use Rattle.rules.specs.Sizes.{max_records}
use Rattle.table_listing.specs.TableListing.{records_of}
use Rattle.table_lines.proofs.count_records.Given as goal

abbrev pub invariant-loop-i : goal.invariant-loop-i
invariant-loop-i l = (l.n ≤ l.i * max_records) × (l.n + records_of (drop l.i (decode l.area)) ≡ records_of (decode l.area))
