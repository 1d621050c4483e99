-- `profile_check::check_forms` meets its contract: the nodes that are left decide. Assumes nothing.
use mathlib.Core.Path.{◌≡◌}
use lib.ListN.{drop}
use Rattle.rules.specs.Layout.{decode}
use Rattle.rules.specs.Profile.{recs_formed, table_formed}
use Rattle.profile_check.proofs.Formed.{each}
use Rattle.profile_check.proofs.check_forms.Given as goal

abbrev pub invariant-loop-i : goal.invariant-loop-i
invariant-loop-i l = each (recs_formed l.profile) (drop l.i (decode l.area)) ≡ table_formed l.profile (decode l.area)
