-- `own_rows::building_count` meets its contract: where the records of the two part lies from `low` up to `high`. Assumes nothing.
use Prim.Native.Nat.{ℕ, ◌-◌, ◌≤◌}
use mathlib.Core.List.{List}
use lib.ListN.{length}
use Rattle.rules.specs.Party.{own, of_keys}
use Rattle.rules.specs.declared.Party.TheVariants.{Building}
use Rattle.table.specs.Tests.{count_of, recs_in}
use Rattle.own_rows.proofs.building_count.Given as goal

abbrev pub parts : List ℕ → ℕ
parts b = length (of_keys (own Building) (recs_in b))

abbrev pub invariant-loop-low : goal.invariant-loop-low
invariant-loop-low l = (l.low ≤ parts l.node) × (parts l.node ≤ l.high) × (l.high ≤ count_of l.node)

abbrev pub decreases-loop-low : goal.decreases-loop-low
decreases-loop-low l = l.high - l.low
