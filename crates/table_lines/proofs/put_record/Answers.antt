-- `table_lines::put_record` meets its contract: two texts, one behind the other. Assumes nothing.
use Rattle.fields.specs.Numbers.{Bytes}
use Rattle.rules.specs.Layout.{decode_rec}
use Rattle.listing_room.proofs.Room.{ends-first, ends-second, then}
use Rattle.table_listing.specs.TableListing.{record_line, rest_text, texts_text}
use Rattle.table_lines.proofs.put_record.Goals as goal

pub put_texts-next-requires : goal.put_texts-next-requires
unfolding record_line
put_texts-next-requires c =
    let texts : Bytes = texts_text (decode_rec c.args.«record».now) in
    let rest : Bytes = rest_text (decode_rec c.args.«record».now) in
    (c.requires.0, c.requires.1, c.requires.2, ends-first c.args.at (texts) (rest) c.requires.3)

pub put_rest-requires : goal.put_rest-requires
unfolding record_line
put_rest-requires c =
    let texts : Bytes = texts_text (decode_rec c.args.«record».now) in
    let rest : Bytes = rest_text (decode_rec c.args.«record».now) in
    (c.requires.0, c.requires.1, c.requires.2, ends-second c.args.at (texts) (rest) c.args.out.now _ _ c.requires.3 c.put_texts-next.ensures)

pub returns : goal.returns
unfolding record_line
returns c =
    let texts : Bytes = texts_text (decode_rec c.args.«record».now) in
    let rest : Bytes = rest_text (decode_rec c.args.«record».now) in
    then c.args.at (texts) (rest) c.args.out.now _ _ _ _ c.put_texts-next.ensures c.put_rest.ensures
