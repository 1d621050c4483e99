-- `listing_ops::put_texts` meets its contract: three texts, one behind the other. Assumes nothing.
use mathlib.Core.List.{◌++◌}
use Rattle.fields.specs.Numbers.{Bytes}
use Rattle.rules.specs.Listing.{ascii, line_feed}
use Rattle.listing_text.specs.Texts.{named}
use Rattle.listing_text.proofs.Texts.{fits-first, fits-three, fits-two, three}
use Rattle.listing_ops.proofs.put_texts.Goals as goal

pub put_named-a-requires : goal.put_named-a-requires
put_named-a-requires c =
    let key : Bytes = named (ascii " key=") c.args.key.now in
    let value : Bytes = named (ascii " value=") c.args.value.now in
    fits-first c.args.at (key) (value ++ line_feed) c.args.out.now c.requires

pub put_named-b-requires : goal.put_named-b-requires
put_named-b-requires c =
    let key : Bytes = named (ascii " key=") c.args.key.now in
    let value : Bytes = named (ascii " value=") c.args.value.now in
    fits-two c.args.at (key) (value) line_feed c.args.out.now _ _ c.requires c.put_named-a.ensures

pub put_text-requires : goal.put_text-requires
put_text-requires c =
    let key : Bytes = named (ascii " key=") c.args.key.now in
    let value : Bytes = named (ascii " value=") c.args.value.now in
    fits-three c.args.at (key) (value) line_feed c.args.out.now _ _ c.requires c.put_named-a.ensures _ _ c.put_named-b.ensures

pub returns : goal.returns
returns c =
    let key : Bytes = named (ascii " key=") c.args.key.now in
    let value : Bytes = named (ascii " value=") c.args.value.now in
    three c.args.at (key) (value) line_feed c.args.out.now _ _ c.requires c.put_named-a.ensures _ _ c.put_named-b.ensures _ _
    c.put_text.ensures
