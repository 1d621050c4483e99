-- `removal::first_due` meets its contract: what is passed and the first that goes of the rest give the whole's. Assumes nothing.
use Prim.Native.Nat.{◌+◌}
use mathlib.Core.Path.{◌≡◌}
use lib.ListN.{drop}
use Rattle.table.specs.Tests.{count_of, recs_in}
use Rattle.removal.specs.Removals.{due_within, first_going}
use Rattle.removal.proofs.first_due.Given as goal

abbrev pub invariant-loop-j : goal.invariant-loop-j
invariant-loop-j l = (l.n ≡ count_of l.node) × (l.j + first_going (due_within l.bound l.clock l.grace) (drop l.j (recs_in l.node)) ≡ first_going (due_within l.bound l.clock l.grace) (recs_in l.node))
