-- `listing_ops::put_node` meets its contract: two texts, one behind the other. Assumes nothing.
use Rattle.fields.specs.Numbers.{Bytes}
use Rattle.rules.specs.Listing.{ascii, op_line}
use Rattle.listing_text.specs.Texts.{numbered}
use Rattle.listing_text.proofs.Texts.{fits-first, fits-second, then}
use Rattle.listing_ops.specs.Lines.{two_numbers}
use Rattle.listing_ops.proofs.put_node.Goals as goal

pub put_numbered-a-requires : goal.put_numbered-a-requires
unfolding op_line
put_numbered-a-requires c =
    let number : Bytes = numbered (ascii "op=node id=") c.args.number in
    let rest : Bytes = two_numbers (ascii " gc=") c.args.last_gc (ascii " from=") c.args.from in
    fits-first c.args.at (number) (rest) c.args.out.now c.requires

pub put_two_numbers-requires : goal.put_two_numbers-requires
unfolding op_line
put_two_numbers-requires c =
    let number : Bytes = numbered (ascii "op=node id=") c.args.number in
    let rest : Bytes = two_numbers (ascii " gc=") c.args.last_gc (ascii " from=") c.args.from in
    fits-second c.args.at (number) (rest) c.args.out.now _ _ c.requires c.put_numbered-a.ensures

pub returns : goal.returns
unfolding op_line
returns c =
    let number : Bytes = numbered (ascii "op=node id=") c.args.number in
    let rest : Bytes = two_numbers (ascii " gc=") c.args.last_gc (ascii " from=") c.args.from in
    then c.args.at (number) (rest) c.args.out.now _ _ _ _ c.requires c.put_numbered-a.ensures c.put_two_numbers.ensures
