use Prim.Native.Nat.{◌-◌}
use mathlib.Core.Path.{◌≡◌}
use lib.ListN.{length}
use Rattle.fields.specs.Parts.{put}
use Rattle.rules.specs.Listing.{decimal}
use Rattle.listing_text.proofs.Texts.{last_digits}
use Rattle.listing_text.proofs.put_decimal.Given as goal

abbrev pub invariant-loop-i : goal.invariant-loop-i
invariant-loop-i l = (length l.out ≡ length l.initial.out)
    × (put l.at (last_digits (l.i - l.at) l.left) l.out ≡ put l.at (decimal l.v) l.initial.out)
