-- `party_count::count_own` meets its contract: those counted and those that are left are all. Assumes nothing.
use Prim.Native.Nat.{◌+◌, ◌≤◌}
use mathlib.Core.Path.{◌≡◌}
use lib.ListN.{length, drop}
use Rattle.rules.specs.Party.{own, of_keys}
use Rattle.table.specs.Tests.{recs_in}
use Rattle.party_count.proofs.count_own.Given as goal

abbrev pub invariant-loop-i : goal.invariant-loop-i
invariant-loop-i l = (l.count ≤ l.i) × (l.count + length (of_keys (own l.party) (drop l.i (recs_in l.node))) ≡ length (of_keys (own l.party) (recs_in l.node)))
