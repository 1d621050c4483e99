-- `listing_room::put_named` meets its contract: the bytes as they are shown behind the name. Assumes nothing.
use Prim.Native.Nat.{ℕ, ◌≤◌}
use mathlib.Core.Path.{◌≡◌, sym, subst}
use mathlib.Core.List.{List}
use native.Mathlib.Omega.{arith}
use lib.ListN.{length, replicate, length-replicate, take}
use lib.Seq.{length-take-le}
use Rattle.rules.specs.Given.{Gives}
use Rattle.rules.specs.Listing.{shown_bytes}
use Rattle.rules.specs.Sizes.{max_value}
use Rattle.listing_text.specs.Texts.{put_text}
use Rattle.listing_text.proofs.Texts.{shown-long}
use Rattle.listing_room.specs.Room.{Ends}
use Rattle.listing_room.proofs.Room.{Put, ends-first, ends-second, front_read, then}
use Rattle.listing_room.proofs.put_named.Goals as goal

-- room for the bytes as they are shown
abbrev room : List ℕ
room = replicate 192 0

room-long : length room ≡ 192
room-long = length-replicate {A = ℕ} 192 0

fits : (t : List ℕ) → length t ≤ max_value → length (shown_bytes t) ≤ length room
fits t h = omega (arith, shown-long t, room-long)

pub put_shown-n-requires : goal.put_shown-n-requires
put_shown-n-requires c =
    omega (arith, fits c.args.text.now c.requires.1)

pub put_text-next-requires : goal.put_text-next-requires
put_text-next-requires c =
    ends-first c.args.at c.args.name.now (shown_bytes c.args.text.now) c.requires.0

pub slice_bounds-shown-end : goal.slice_bounds-shown-end
slice_bounds-shown-end c =
    let put-there : Gives (put_text 0 (shown_bytes c.args.text.now) room) c.put_shown-n.result c.put_shown-n.new.out = c.put_shown-n.ensures in
    let few : c.put_shown-n.result ≤ length c.put_shown-n.new.out = omega (arith, (put-there).0, fits c.args.text.now c.requires.1, c.put_shown-n.auto.out) in
    few

pub slice_bounds-put_text-end : goal.slice_bounds-put_text-end
slice_bounds-put_text-end c =
    let put-there : Gives (put_text 0 (shown_bytes c.args.text.now) room) c.put_shown-n.result c.put_shown-n.new.out = c.put_shown-n.ensures in
    let few : c.put_shown-n.result ≤ length c.put_shown-n.new.out = omega (arith, (put-there).0, fits c.args.text.now c.requires.1, c.put_shown-n.auto.out) in
    sym (length-take-le _ _ (few))

pub put_text-requires : goal.put_text-requires
put_text-requires c =
    let put-there : Gives (put_text 0 (shown_bytes c.args.text.now) room) c.put_shown-n.result c.put_shown-n.new.out = c.put_shown-n.ensures in
    let shown-are : take c.put_shown-n.result c.put_shown-n.new.out ≡ shown_bytes c.args.text.now = front_read (shown_bytes c.args.text.now) room _ _ (fits c.args.text.now c.requires.1) (put-there) in
    let name = c.put_text-next in
    subst (Ends name.result) (sym (shown-are))
    (ends-second c.args.at c.args.name.now (shown_bytes c.args.text.now) c.args.out.now _ _ c.requires.0 name.ensures)

pub returns : goal.returns
returns c =
    let put-there : Gives (put_text 0 (shown_bytes c.args.text.now) room) c.put_shown-n.result c.put_shown-n.new.out = c.put_shown-n.ensures in
    let shown-are : take c.put_shown-n.result c.put_shown-n.new.out ≡ shown_bytes c.args.text.now = front_read (shown_bytes c.args.text.now) room _ _ (fits c.args.text.now c.requires.1) (put-there) in
    let name = c.put_text-next in
    let call = c.put_text in
    then c.args.at c.args.name.now (shown_bytes c.args.text.now) c.args.out.now _ _ _ _ name.ensures
    (subst (λ (t : List ℕ). Put name.result t name.new.out call.new.out call.result) (shown-are) call.ensures)
