use Prim.Native.Nat.{◌+◌}
use mathlib.Core.Path.{◌≡◌}
use lib.ListN.{length, drop}
use Rattle.fields.specs.Parts.{put}
use Rattle.rules.specs.Listing.{shown_bytes}
use Rattle.listing_text.proofs.put_shown.Given as goal

abbrev pub invariant-loop-b : goal.invariant-loop-b
invariant-loop-b l = (length l.out ≡ length l.initial.out)
    × (l.n + length (shown_bytes (drop l.b-index l.text)) ≡ l.at + length (shown_bytes l.text))
    × (put l.n (shown_bytes (drop l.b-index l.text)) l.out ≡ put l.at (shown_bytes l.text) l.initial.out)
