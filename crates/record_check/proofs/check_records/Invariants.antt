-- `record_check::check_records` meets its contract: what is left to be tested has the whole's answer. Assumes nothing.
use Prim.Native.Nat.{◌-◌}
use mathlib.Core.Path.{◌≡◌}
use lib.ListN.{drop}
use Rattle.fields.specs.Blocks.{all_blocks}
use Rattle.rules.specs.Layout.{rec_place, rec_width}
use Rattle.table.specs.Tests.{rec_good}
use Rattle.record_check.proofs.check_records.Given as goal

abbrev pub invariant-loop-i : goal.invariant-loop-i
invariant-loop-i l = all_blocks (rec_good l.max) rec_width (l.n - l.i) (drop (rec_place l.i) l.node) ≡ all_blocks (rec_good l.max) rec_width l.n (drop (rec_place 0) l.node)
