-- `record_check::clean_behind` meets its contract: what was seen is zero where the bytes passed behind the text are. Assumes nothing.
use Prim.Native.Nat.{◌+◌, ◌-◌}
use mathlib.Core.Path.{◌≡◌}
use lib.Dec.{eqb}
use Rattle.fields.specs.Parts.{part}
use Rattle.fields.specs.Blocks.{all_zero}
use Rattle.record_check.proofs.clean_behind.Given as goal

abbrev pub invariant-loop-i : goal.invariant-loop-i
invariant-loop-i l = eqb l.seen 0 ≡ all_zero (part (l.at + l.k) (l.i - l.k) l.record)
