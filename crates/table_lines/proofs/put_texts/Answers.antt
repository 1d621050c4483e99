-- `table_lines::put_texts` meets its contract: key and value, one behind the other. Assumes nothing.
use mathlib.Core.Path.{◌≡◌, sym, subst}
use mathlib.Core.List.{◌++◌}
use Rattle.fields.specs.Numbers.{Bytes}
use Rattle.rules.specs.Listing.{ascii}
use Rattle.rules.specs.Layout.{decode_rec}
use Rattle.listing_text.specs.Texts.{named}
use Rattle.listing_room.specs.Room.{Ends}
use Rattle.listing_room.proofs.Room.{Put, ends-first, ends-second, then}
use Rattle.table_listing.specs.TableListing.{texts_text}
use Rattle.table_lines.proofs.Pieces.{key-short, texts-is, value-short}
use Rattle.table_lines.proofs.put_texts.Goals as goal

pub put_named-next-requires : goal.put_named-next-requires
put_named-next-requires c =
    let key : Bytes = named (ascii "key=") c.key_of-key.result.now in
    let value : Bytes = named (ascii " value=") c.value_of-value.result.now in
    let texts : key ++ value ≡ texts_text (decode_rec c.args.«record».now) = texts-is c.args.«record».now _ _ c.key_of-key.ensures c.value_of-value.ensures in
    let ends : Ends c.args.at (key ++ value) = subst (Ends c.args.at) (sym (texts)) c.requires.3 in
    (ends-first c.args.at (key) (value) (ends), key-short c.args.«record».now c.requires.0 _ c.key_of-key.ensures c.requires.1)

pub put_named-requires : goal.put_named-requires
put_named-requires c =
    let key : Bytes = named (ascii "key=") c.key_of-key.result.now in
    let value : Bytes = named (ascii " value=") c.value_of-value.result.now in
    let texts : key ++ value ≡ texts_text (decode_rec c.args.«record».now) = texts-is c.args.«record».now _ _ c.key_of-key.ensures c.value_of-value.ensures in
    let ends : Ends c.args.at (key ++ value) = subst (Ends c.args.at) (sym (texts)) c.requires.3 in (
      ends-second c.args.at (key) (value) c.args.out.now _ _ (ends) c.put_named-next.ensures,
      value-short c.args.«record».now c.requires.0 _ c.value_of-value.ensures c.requires.2,
    )

pub returns : goal.returns
returns c =
    let key : Bytes = named (ascii "key=") c.key_of-key.result.now in
    let value : Bytes = named (ascii " value=") c.value_of-value.result.now in
    let texts : key ++ value ≡ texts_text (decode_rec c.args.«record».now) = texts-is c.args.«record».now _ _ c.key_of-key.ensures c.value_of-value.ensures in
    let end = c.put_named in
    subst (λ (t : Bytes). Put c.args.at t c.args.out.now end.new.out end.result) (texts)
    (then c.args.at (key) (value) c.args.out.now _ _ _ _ c.put_named-next.ensures end.ensures)
