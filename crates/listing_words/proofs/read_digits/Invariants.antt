-- `listing_words::read_digits` meets its contract: the value so far with the digits that are left is the whole's. Assumes nothing.
use Prim.Native.Nat.{◌+◌, ◌^◌, ◌<◌}
use mathlib.Core.Path.{◌≡◌}
use lib.ListN.{length, drop}
use Rattle.listing_read.specs.Unlist.{front, is_digit, value_from}
use Rattle.listing_words.proofs.read_digits.Given as goal

abbrev pub invariant-loop-i : goal.invariant-loop-i
invariant-loop-i l = (value_from l.value (front is_digit (drop l.i l.text)) ≡ value_from 0 (front is_digit l.text))
    × (l.i + length (front is_digit (drop l.i l.text)) ≡ length (front is_digit l.text))
    × (l.value < 256 ^ 8)
