-- `listing_room::put_last` meets its contract: two texts, one behind the other. Assumes nothing.
use Rattle.fields.specs.Numbers.{Bytes}
use Rattle.rules.specs.Listing.{line_feed}
use Rattle.listing_text.specs.Texts.{numbered}
use Rattle.listing_room.proofs.Room.{ends-first, ends-second, then}
use Rattle.listing_room.proofs.put_last.Goals as goal

pub put_numbered-next-requires : goal.put_numbered-next-requires
put_numbered-next-requires c =
    let number : Bytes = numbered c.args.name.now c.args.v in
    ends-first c.args.at (number) line_feed c.requires

pub put_text-requires : goal.put_text-requires
put_text-requires c =
    let number : Bytes = numbered c.args.name.now c.args.v in
    ends-second c.args.at (number) line_feed c.args.out.now _ _ c.requires c.put_numbered-next.ensures

pub returns : goal.returns
returns c =
    let number : Bytes = numbered c.args.name.now c.args.v in
    then c.args.at (number) line_feed c.args.out.now _ _ _ _ c.put_numbered-next.ensures c.put_text.ensures
