-- `listing::put_cut` meets its contract: two texts, one behind the other. Assumes nothing.
use Rattle.fields.specs.Numbers.{Bytes}
use Rattle.rules.specs.Listing.{ascii}
use Rattle.listing_text.specs.Texts.{numbered}
use Rattle.listing_text.proofs.Texts.{fits-first, fits-second, then}
use Rattle.listing_ops.specs.Lines.{two_numbers}
use Rattle.listing.specs.Shapes.{cut_text}
use Rattle.listing.proofs.put_cut.Goals as goal

pub put_numbered-a-requires : goal.put_numbered-a-requires
unfolding cut_text
put_numbered-a-requires c =
    let number : Bytes = numbered (ascii "end=refused code=") c.args.code in
    let rest : Bytes = two_numbers (ascii " at=") c.args.at (ascii " need=") c.args.need in
    fits-first 0 (number) (rest) c.args.out.now c.requires

pub put_two_numbers-requires : goal.put_two_numbers-requires
unfolding cut_text
put_two_numbers-requires c =
    let number : Bytes = numbered (ascii "end=refused code=") c.args.code in
    let rest : Bytes = two_numbers (ascii " at=") c.args.at (ascii " need=") c.args.need in
    fits-second 0 (number) (rest) c.args.out.now _ _ c.requires c.put_numbered-a.ensures

pub returns : goal.returns
unfolding cut_text
returns c =
    let number : Bytes = numbered (ascii "end=refused code=") c.args.code in
    let rest : Bytes = two_numbers (ascii " at=") c.args.at (ascii " need=") c.args.need in
    then 0 (number) (rest) c.args.out.now _ _ _ _ c.requires c.put_numbered-a.ensures c.put_two_numbers.ensures
