-- `listing_samples::back` is safe and ends: the listing always has room in the buffer, so that a refusal for want of room never comes. Assumes nothing.
use Prim.Native.Nat.{ℕ, ◌≤◌}
use mathlib.Core.Path.{sym, ◌∙◌}
use mathlib.Core.List.{List}
use native.Mathlib.Nat.{le_of_eq}
use lib.ListN.{length, replicate, length-replicate}
use Rattle.rules.proofs.Told.{same-written}
use Rattle.listing.specs.Shapes.{longest_listing}
use Rattle.listing.proofs.Lines.{front_fits}
use Rattle.listing_samples.proofs.back.Goals as goal

-- the buffer
abbrev buffer : List ℕ
buffer = replicate longest_listing 0

room : longest_listing ≤ length buffer
room = le_of_eq (sym (length-replicate {A = ℕ} longest_listing 0))

pub unreachable-requires : goal.unreachable-requires
unreachable-requires g c =
    absurd (front_fits _ buffer room _ (sym (same-written _ _ c.list_delta-listed.ensures.0) ∙ c.in-Err.is))
