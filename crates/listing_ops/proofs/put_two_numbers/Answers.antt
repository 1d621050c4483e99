-- `listing_ops::put_two_numbers` meets its contract: three texts, one behind the other. Assumes nothing.
use mathlib.Core.List.{◌++◌}
use Rattle.fields.specs.Numbers.{Bytes}
use Rattle.rules.specs.Listing.{line_feed}
use Rattle.listing_text.specs.Texts.{numbered}
use Rattle.listing_text.proofs.Texts.{fits-first, fits-three, fits-two, three}
use Rattle.listing_ops.proofs.put_two_numbers.Goals as goal

pub put_numbered-m-requires : goal.put_numbered-m-requires
put_numbered-m-requires c =
    let first : Bytes = numbered c.args.first.now c.args.a in
    let second : Bytes = numbered c.args.second.now c.args.b in
    fits-first c.args.at (first) (second ++ line_feed) c.args.out.now c.requires

pub put_numbered-n-requires : goal.put_numbered-n-requires
put_numbered-n-requires c =
    let first : Bytes = numbered c.args.first.now c.args.a in
    let second : Bytes = numbered c.args.second.now c.args.b in
    fits-two c.args.at (first) (second) line_feed c.args.out.now _ _ c.requires c.put_numbered-m.ensures

pub put_text-requires : goal.put_text-requires
put_text-requires c =
    let first : Bytes = numbered c.args.first.now c.args.a in
    let second : Bytes = numbered c.args.second.now c.args.b in
    fits-three c.args.at (first) (second) line_feed c.args.out.now _ _ c.requires c.put_numbered-m.ensures _ _ c.put_numbered-n.ensures

pub returns : goal.returns
returns c =
    let first : Bytes = numbered c.args.first.now c.args.a in
    let second : Bytes = numbered c.args.second.now c.args.b in
    three c.args.at (first) (second) line_feed c.args.out.now _ _ c.requires c.put_numbered-m.ensures _ _ c.put_numbered-n.ensures _ _
    c.put_text.ensures
