-- `listing_room::put_last_two` meets its contract: two texts, one behind the other. Assumes nothing.
use Rattle.fields.specs.Numbers.{Bytes}
use Rattle.listing_text.specs.Texts.{numbered}
use Rattle.listing_room.specs.Room.{last_number}
use Rattle.listing_room.proofs.Room.{ends-first, ends-second, then}
use Rattle.listing_room.proofs.put_last_two.Goals as goal

pub put_numbered-next-requires : goal.put_numbered-next-requires
put_numbered-next-requires c =
    let one : Bytes = numbered c.args.first.now c.args.a in
    let two : Bytes = last_number c.args.second.now c.args.b in
    ends-first c.args.at (one) (two) c.requires

pub put_last-requires : goal.put_last-requires
put_last-requires c =
    let one : Bytes = numbered c.args.first.now c.args.a in
    let two : Bytes = last_number c.args.second.now c.args.b in
    ends-second c.args.at (one) (two) c.args.out.now _ _ c.requires c.put_numbered-next.ensures

pub returns : goal.returns
returns c =
    let one : Bytes = numbered c.args.first.now c.args.a in
    let two : Bytes = last_number c.args.second.now c.args.b in
    then c.args.at (one) (two) c.args.out.now _ _ _ _ c.put_numbered-next.ensures c.put_last.ensures
