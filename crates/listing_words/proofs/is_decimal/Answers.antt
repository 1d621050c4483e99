-- `listing_words::is_decimal` meets its contract. Assumes nothing.
use Prim.Native.Nat.{ℕ, ◌≤◌}
use mathlib.Core.Path.{ap, sym, ◌∙◌}
use mathlib.Core.List.{List}
use native.Mathlib.Omega.{arith}
use lib.ListN.{length, replicate}
use lib.Seq.{length-take-le}
use Rattle.fields.specs.Order.{same_bytes}
use Rattle.rules.specs.Listing.{decimal}
use Rattle.listing_text.proofs.Texts.{decimal-long}
use Rattle.listing_words.proofs.Read.{put_front, put-within}
use Rattle.listing_words.proofs.is_decimal.Goals as goal

-- the buffer
abbrev own : List ℕ
own = replicate 20 0

room : (v : ℕ) → length (decimal v) ≤ length own
room v = decimal-long v

pub put_decimal-n-requires : goal.put_decimal-n-requires
put_decimal-n-requires c =
    omega (arith, room c.args.value)

pub slice_bounds-own-end : goal.slice_bounds-own-end
slice_bounds-own-end c =
    put-within (decimal c.args.value) own _ _ (room c.args.value) c.put_decimal-n.ensures

pub slice_bounds-is_same-end : goal.slice_bounds-is_same-end
slice_bounds-is_same-end c =
    sym (length-take-le _ _ (put-within (decimal c.args.value) own _ _ (room c.args.value) c.put_decimal-n.ensures))

pub returns : goal.returns
returns c =
    let a = c.args in
    c.is_same.ensures
    ∙ ap (λ (x : List ℕ). same_bytes x a.piece.now) (put_front (decimal a.value) own _ _ (room a.value) c.put_decimal-n.ensures)
