-- `profile_check::check_nodes` meets its contract: the nodes that are left decide. Assumes nothing.
use mathlib.Core.Path.{◌≡◌}
use lib.ListN.{drop}
use Rattle.rules.specs.Layout.{decode}
use Rattle.rules.specs.Profile.{profile_obeys, recs_obey}
use Rattle.profile_check.proofs.Formed.{each}
use Rattle.profile_check.proofs.check_nodes.Given as goal

abbrev pub invariant-loop-i : goal.invariant-loop-i
invariant-loop-i l = each (recs_obey l.profile) (drop l.i (decode l.area)) ≡ profile_obeys l.profile (decode l.area)
