use Prim.Native.Nat.{◌+◌}
use mathlib.Core.Path.{◌≡◌}
use lib.ListN.{length, drop}
use Rattle.rules.specs.Listing.{shown_bytes}
use Rattle.listing_text.proofs.shown_len.Given as goal

abbrev pub invariant-loop-b : goal.invariant-loop-b
invariant-loop-b l = l.n + length (shown_bytes (drop l.b-index l.text)) ≡ length (shown_bytes l.text)
