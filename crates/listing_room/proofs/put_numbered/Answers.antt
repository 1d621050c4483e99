-- `listing_room::put_numbered` meets its contract: the digits behind the name. Assumes nothing.
use Prim.Native.Nat.{ℕ, ◌≤◌}
use mathlib.Core.Path.{◌≡◌, sym, subst}
use mathlib.Core.List.{List}
use native.Mathlib.Omega.{arith}
use lib.ListN.{length, replicate, length-replicate, take}
use lib.Seq.{length-take-le}
use Rattle.rules.specs.Given.{Gives}
use Rattle.rules.specs.Listing.{decimal}
use Rattle.listing_text.specs.Texts.{put_text}
use Rattle.listing_text.proofs.Texts.{decimal-long}
use Rattle.listing_room.specs.Room.{Ends}
use Rattle.listing_room.proofs.Room.{Put, ends-first, ends-second, front_read, then}
use Rattle.listing_room.proofs.put_numbered.Goals as goal

-- room for the digits
abbrev room : List ℕ
room = replicate 20 0

room-long : length room ≡ 20
room-long = length-replicate {A = ℕ} 20 0

fits : (v : ℕ) → length (decimal v) ≤ length room
fits v = omega (arith, decimal-long v, room-long)

pub put_decimal-n-requires : goal.put_decimal-n-requires
put_decimal-n-requires c =
    omega (arith, fits c.args.v)

pub put_text-next-requires : goal.put_text-next-requires
put_text-next-requires c =
    ends-first c.args.at c.args.name.now (decimal c.args.v) c.requires

pub slice_bounds-digits-end : goal.slice_bounds-digits-end
slice_bounds-digits-end c =
    let put-there : Gives (put_text 0 (decimal c.args.v) room) c.put_decimal-n.result c.put_decimal-n.new.out = c.put_decimal-n.ensures in
    let few : c.put_decimal-n.result ≤ length c.put_decimal-n.new.out = omega (arith, (put-there).0, decimal-long c.args.v, c.put_decimal-n.auto.out, room-long) in
    few

pub slice_bounds-put_text-end : goal.slice_bounds-put_text-end
slice_bounds-put_text-end c =
    let put-there : Gives (put_text 0 (decimal c.args.v) room) c.put_decimal-n.result c.put_decimal-n.new.out = c.put_decimal-n.ensures in
    let few : c.put_decimal-n.result ≤ length c.put_decimal-n.new.out = omega (arith, (put-there).0, decimal-long c.args.v, c.put_decimal-n.auto.out, room-long) in
    sym (length-take-le _ _ (few))

pub put_text-requires : goal.put_text-requires
put_text-requires c =
    let put-there : Gives (put_text 0 (decimal c.args.v) room) c.put_decimal-n.result c.put_decimal-n.new.out = c.put_decimal-n.ensures in
    let digits_are : take c.put_decimal-n.result c.put_decimal-n.new.out ≡ decimal c.args.v = front_read (decimal c.args.v) room _ _ (fits c.args.v) (put-there) in
    let name = c.put_text-next in
    subst (Ends name.result) (sym (digits_are))
    (ends-second c.args.at c.args.name.now (decimal c.args.v) c.args.out.now _ _ c.requires name.ensures)

pub returns : goal.returns
returns c =
    let put-there : Gives (put_text 0 (decimal c.args.v) room) c.put_decimal-n.result c.put_decimal-n.new.out = c.put_decimal-n.ensures in
    let digits_are : take c.put_decimal-n.result c.put_decimal-n.new.out ≡ decimal c.args.v = front_read (decimal c.args.v) room _ _ (fits c.args.v) (put-there) in
    let name = c.put_text-next in
    let call = c.put_text in
    then c.args.at c.args.name.now (decimal c.args.v) c.args.out.now _ _ _ _ name.ensures
    (subst (λ (t : List ℕ). Put name.result t name.new.out call.new.out call.result) (digits_are) call.ensures)
