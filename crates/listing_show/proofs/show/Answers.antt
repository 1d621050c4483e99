-- `listing_show::show` meets its contract: the listing always has room in the buffer, so that a refusal for want of room never comes, and it stands at the
-- front of it. Assumes nothing.
use Prim.Native.Nat.{ℕ, ◌≤◌}
use mathlib.Core.Path.{◌≡◌, ap, sym, ◌∙◌}
use mathlib.Core.List.{List}
use native.Mathlib.Omega.{arith}
use native.Mathlib.Nat.{le_of_eq}
use lib.ListN.{length, replicate, length-replicate, take}
use lib.Seq.{length-take-le}
use Rattle.std.proofs.Common.{OnOk, subst}
use Rattle.std.specs.Io.KnownBytes.{Appends}
use Rattle.rules.specs.Listing.{list_delta, listing}
use Rattle.std.specs.Prelude.{Ok}
use Rattle.rules.proofs.Told.{same-written}
use Rattle.listing.specs.Shapes.{longest_listing}
use Rattle.listing.proofs.Lines.{front_fits, front-within}
use Rattle.listing_show.proofs.Shown.{shown-front}
use Rattle.listing_show.proofs.show.Goals as goal

-- the buffer
abbrev buffer : List ℕ
buffer = replicate longest_listing 0

room : longest_listing ≤ length buffer
room = le_of_eq (sym (length-replicate {A = ℕ} longest_listing 0))

within : (l left : List ℕ) (k : ℕ) → length left ≡ length buffer → (list_delta l buffer).answer ≡ Ok k → k ≤ length left
within l left k e f = omega (arith, front-within l buffer room k f)

pub slice_bounds-output-end : goal.slice_bounds-output-end
slice_bounds-output-end g c =
    let call = c.list_delta-listed in
    within _ call.new.out _ call.auto.out (sym (same-written _ _ call.ensures.0) ∙ c.in-Ok.is)

pub slice_bounds-put-end : goal.slice_bounds-put-end
slice_bounds-put-end g c =
    let call = c.list_delta-listed in
    sym (length-take-le _ _ (within _ call.new.out _ call.auto.out (sym (same-written _ _ call.ensures.0) ∙ c.in-Ok.is)))

pub unreachable-requires : goal.unreachable-requires
unreachable-requires g c =
    absurd (front_fits _ buffer room _ (sym (same-written _ _ c.list_delta-listed.ensures.0) ∙ c.in-Err.is))

pub returns : goal.returns
returns g c =
    let call = c.list_delta-listed in
    let same = ap (take c.in-Ok.n) call.ensures.1 ∙ shown-front (listing c.args.delta.now) buffer _ (sym (same-written _ _ call.ensures.0) ∙ c.in-Ok.is) in
    subst (λ (x : List ℕ). OnOk c.put.result (Appends (g.W.Write.contents c.args.out.now) (g.W.Write.contents c.put.new.out) x)) same c.put.ensures
