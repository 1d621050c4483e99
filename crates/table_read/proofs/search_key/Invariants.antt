-- `table_read::search_key` meets its contract: what stands from `low` on, and what stands before `high`, has the whole's answer. Assumes nothing.
use Prim.Native.Nat.{◌-◌, ◌≤◌}
use mathlib.Core.Path.{◌≡◌}
use lib.ListN.{take, drop}
use Rattle.table.specs.Tests.{count_of, recs_in}
use Rattle.table_read.specs.Find.{further, find_key}
use Rattle.table_read.proofs.search_key.Given as goal

abbrev pub invariant-loop-low : goal.invariant-loop-low
invariant-loop-low l = (l.low ≤ l.high) × (l.high ≤ count_of l.node) × (further l.low (find_key l.key (drop l.low (recs_in l.node))) ≡ find_key l.key (recs_in l.node)) × (find_key l.key (take l.high (recs_in l.node)) ≡ find_key l.key (recs_in l.node))

abbrev pub decreases-loop-low : goal.decreases-loop-low
decreases-loop-low l = l.high - l.low
