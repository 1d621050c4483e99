-- `tail_check::removed_numbers` meets its contract: the numbers that are stored and those that are left are all. Assumes nothing.
use mathlib.Core.Path.{◌≡◌}
use mathlib.Core.List.{◌++◌}
use lib.ListN.{length, take, drop}
use Rattle.rules.specs.Memory.{removed_numbers}
use Rattle.rules.specs.Sizes.{max_removed}
use Rattle.rules.specs.Whole.{decode_memory}
use Rattle.tail_check.proofs.removed_numbers.Given as goal

abbrev pub invariant-loop-i : goal.invariant-loop-i
invariant-loop-i l = (length l.ns ≡ max_removed) × (take l.i l.ns ++ removed_numbers (drop l.i (decode_memory l.tail)) ≡ removed_numbers (decode_memory l.tail))
