-- `listing_words::graphic_len` meets its contract: the bytes counted and those that are left are the whole. Assumes nothing.
use Prim.Native.Nat.{◌+◌}
use mathlib.Core.Path.{◌≡◌}
use lib.ListN.{length, drop}
use Rattle.listing_words.specs.Words.{piece_of}
use Rattle.listing_words.proofs.graphic_len.Given as goal

abbrev pub invariant-loop-i : goal.invariant-loop-i
invariant-loop-i l = l.i + length (piece_of (drop l.i l.text)) ≡ length (piece_of l.text)
