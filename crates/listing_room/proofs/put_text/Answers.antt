-- `listing_room::put_text` meets its contract: by where the room ends. Assumes nothing.
use Prim.Native.Nat.{ℕ, ◌+◌, ◌-◌, ◌≤◌, ◌<◌}
use mathlib.Core.Path.{refl, sym, ◌∙◌}
use mathlib.Core.List.{List}
use native.Mathlib.Omega.{arith}
use lib.ListN.{length, take}
use lib.Seq.{length-take-le}
use Rattle.listing_room.proofs.Room.{all_room, no_room}
use Rattle.listing_room.proofs.put_text.Goals as goal

-- the front of the text lies in the buffer
front_fits : (at room : ℕ) (text l : List ℕ) → at < length l → room ≤ length l - at → room < length text → at + length (take room text) ≤ length l
front_fits at room text l h g f = omega (arith, length-take-le room text (omega arith))

pub returns-then-out-at : goal.returns-then-out-at
returns-then-out-at c =
    let a = c.args in (refl, sym (no_room a.at a.text.now a.out.now c.if-out-at.true))

pub slice_bounds-copy_to-end : goal.slice_bounds-copy_to-end
slice_bounds-copy_to-end c =
    sym (length-take-le _ c.args.text.now (omega (arith, c.if-room-text.true)))

pub copy_to-requires : goal.copy_to-requires
copy_to-requires c =
    let a = c.args in
    front_fits a.at _ a.text.now a.out.now (omega (arith, c.if-out-at.false)) (omega arith) c.if-room-text.true

pub returns : goal.returns
returns c =
    let a = c.args in
    (refl, c.copy_to-2.ensures ∙ sym (all_room a.at a.text.now a.out.now (omega (arith, c.if-out-at.false, c.if-room-text.false))))
