-- `delta_make::put_bad_line` meets its contract: two texts, one behind the other. Assumes nothing.
use Rattle.rules.specs.Listing.{ascii, line_feed}
use Rattle.listing_text.specs.Texts.{numbered}
use Rattle.listing_text.proofs.Texts.{fits-first, fits-second, then}
use Rattle.delta_make.specs.Making.{bad_line}
use Rattle.delta_make.proofs.put_bad_line.Goals as goal

pub put_numbered-n-requires : goal.put_numbered-n-requires
unfolding bad_line
put_numbered-n-requires c =
    fits-first 0 (numbered (ascii "end=refused code=16 line=") c.args.line) line_feed c.args.out.now c.requires

pub put_text-requires : goal.put_text-requires
unfolding bad_line
put_text-requires c =
    fits-second 0 (numbered (ascii "end=refused code=16 line=") c.args.line) line_feed c.args.out.now _ _ c.requires c.put_numbered-n.ensures

pub returns : goal.returns
unfolding bad_line
returns c =
    then 0 (numbered (ascii "end=refused code=16 line=") c.args.line) line_feed c.args.out.now _ _ _ _ c.requires c.put_numbered-n.ensures c.put_text.ensures
