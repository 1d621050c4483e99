-- `table_check::versions_of` meets its contract: the versions that are stored and those that are left are all. Assumes nothing.
use mathlib.Core.Path.{◌≡◌}
use mathlib.Core.List.{◌++◌}
use lib.ListN.{length, take, drop}
use Rattle.rules.specs.Table.{versions}
use Rattle.rules.specs.Sizes.{max_records}
use Rattle.table.specs.Tests.{recs_in}
use Rattle.table_check.proofs.versions_of.Given as goal

abbrev pub invariant-loop-i : goal.invariant-loop-i
invariant-loop-i l = (length l.vs ≡ max_records) × (take l.i l.vs ++ versions (drop l.i (recs_in l.node)) ≡ versions (recs_in l.node))
