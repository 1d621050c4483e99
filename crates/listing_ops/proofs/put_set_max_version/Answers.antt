-- `listing_ops::put_set_max_version` meets its contract: two texts, one behind the other. Assumes nothing.
use Rattle.fields.specs.Numbers.{Bytes}
use Rattle.rules.specs.Listing.{ascii, line_feed, op_line}
use Rattle.listing_text.specs.Texts.{numbered}
use Rattle.listing_text.proofs.Texts.{fits-first, fits-second, then}
use Rattle.listing_ops.proofs.put_set_max_version.Goals as goal

pub put_numbered-a-requires : goal.put_numbered-a-requires
unfolding op_line
put_numbered-a-requires c =
    let max : Bytes = numbered (ascii "op=max version=") c.args.max in
    fits-first c.args.at (max) line_feed c.args.out.now c.requires

pub put_text-requires : goal.put_text-requires
unfolding op_line
put_text-requires c =
    let max : Bytes = numbered (ascii "op=max version=") c.args.max in
    fits-second c.args.at (max) line_feed c.args.out.now _ _ c.requires c.put_numbered-a.ensures

pub returns : goal.returns
unfolding op_line
returns c =
    let max : Bytes = numbered (ascii "op=max version=") c.args.max in
    then c.args.at (max) line_feed c.args.out.now _ _ _ _ c.requires c.put_numbered-a.ensures c.put_text.ensures
