-- `listing_words::is_shown` meets its contract. Assumes nothing.
use Prim.Native.Nat.{ℕ, ◌≤◌}
use mathlib.Core.Path.{ap, sym, ◌∙◌}
use mathlib.Core.List.{List}
use native.Mathlib.Omega.{arith}
use lib.ListN.{length, replicate, length-replicate}
use lib.Seq.{length-take-le}
use Rattle.fields.specs.Order.{same_bytes}
use Rattle.rules.specs.Listing.{shown_bytes}
use Rattle.listing_text.proofs.Texts.{shown-long}
use Rattle.listing_words.proofs.Read.{put_front, put-within}
use Rattle.listing_words.proofs.is_shown.Goals as goal

-- the buffer
abbrev own : List ℕ
own = replicate 192 0

room : (t : List ℕ) → length t ≤ 64 → length (shown_bytes t) ≤ length own
room t h = omega (arith, shown-long t, length-replicate {A = ℕ} 192 0)

pub put_shown-n-requires : goal.put_shown-n-requires
put_shown-n-requires c =
    omega (arith, room c.args.text.now c.requires)

pub slice_bounds-shown-end : goal.slice_bounds-shown-end
slice_bounds-shown-end c =
    put-within (shown_bytes c.args.text.now) own _ _ (room c.args.text.now c.requires) c.put_shown-n.ensures

pub slice_bounds-is_same-end : goal.slice_bounds-is_same-end
slice_bounds-is_same-end c =
    sym (length-take-le _ _ (put-within (shown_bytes c.args.text.now) own _ _ (room c.args.text.now c.requires) c.put_shown-n.ensures))

pub returns : goal.returns
returns c =
    let a = c.args in
    c.is_same.ensures
    ∙ ap (λ (x : List ℕ). same_bytes x a.piece.now) (put_front (shown_bytes a.text.now) own _ _ (room a.text.now c.requires) c.put_shown-n.ensures)
