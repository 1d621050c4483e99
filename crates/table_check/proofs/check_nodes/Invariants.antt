-- `table_check::check_nodes` meets its contract: what is left to be tested has the whole's answer. Assumes nothing.
use Prim.Native.Nat.{◌-◌}
use mathlib.Core.Path.{◌≡◌}
use lib.ListN.{drop}
use Rattle.fields.specs.Blocks.{all_blocks}
use Rattle.rules.specs.Layout.{node_place, node_width}
use Rattle.table.specs.Tests.{node_good}
use Rattle.table_check.proofs.check_nodes.Given as goal

abbrev pub invariant-loop-i : goal.invariant-loop-i
invariant-loop-i l = all_blocks node_good node_width (l.n - l.i) (drop (node_place l.i) l.table) ≡ all_blocks node_good node_width l.n (drop (node_place 0) l.table)
