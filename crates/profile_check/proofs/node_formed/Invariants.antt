-- `profile_check::node_formed` meets its contract: the records that are left decide. Assumes nothing.
use mathlib.Core.Path.{◌≡◌}
use lib.ListN.{drop}
use Rattle.rules.specs.Profile.{recs_formed}
use Rattle.table.specs.Tests.{recs_in}
use Rattle.profile_check.proofs.node_formed.Given as goal

abbrev pub invariant-loop-i : goal.invariant-loop-i
invariant-loop-i l = recs_formed l.profile (drop l.i (recs_in l.node)) ≡ recs_formed l.profile (recs_in l.node)
