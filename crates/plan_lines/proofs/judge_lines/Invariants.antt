-- `plan_lines::judge_lines` meets its contract: what the lines from j on come to is what all come to. Assumes nothing.
use Prim.Native.Nat.{◌≤◌}
use mathlib.Core.Path.{◌≡◌}
use lib.ListN.{length}
use Rattle.rules.specs.Layout.{decode}
use Rattle.digest_read.specs.Held.{entries_in}
use Rattle.plan_lines.proofs.Turns.{from-line}
use Rattle.plan_lines.proofs.judge_lines.Given as goal

abbrev pub invariant-loop-j : goal.invariant-loop-j
invariant-loop-j l = (l.j ≤ length l.nodes) × (from-line l.excluded (entries_in l.digest) (decode l.table) l.nodes l.counts l.j l.left ≡ from-line l.excluded (entries_in l.digest) (decode l.table) l.nodes l.counts 0 l.mtu)
