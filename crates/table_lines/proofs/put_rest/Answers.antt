-- `table_lines::put_rest` meets its contract: version, status and start, one behind the other. Assumes nothing.
use mathlib.Core.Path.{◌≡◌, sym, subst}
use mathlib.Core.List.{◌++◌}
use Rattle.fields.specs.Numbers.{Bytes}
use Rattle.rules.specs.Listing.{ascii}
use Rattle.rules.specs.Layout.{decode_rec}
use Rattle.listing_text.specs.Texts.{numbered}
use Rattle.listing_room.specs.Room.{Ends, last_number, status_word}
use Rattle.listing_room.proofs.Room.{Put, three}
use Rattle.table_listing.specs.TableListing.{rest_text}
use Rattle.table_lines.proofs.Pieces.{rest-is}
use Rattle.table_lines.proofs.put_rest.Goals as goal

pub returns : goal.returns
returns c =
    let version : Bytes = numbered (ascii " version=") c.read_record-held.result.version in
    let word : Bytes = status_word c.read_record-held.result.status in
    let start : Bytes = last_number (ascii " start=") c.read_record-held.result.start in
    let rest : version ++ (word ++ start) ≡ rest_text (decode_rec c.args.«record».now) = rest-is c.args.«record».now _ c.read_record-held.ensures in
    let ends : Ends c.args.at (version ++ (word ++ start)) = subst (Ends c.args.at) (sym (rest)) c.requires.3 in
    let end = c.put_last in
    subst (λ (t : Bytes). Put c.args.at t c.args.out.now end.new.out end.result) (rest)
    (three c.args.at (version) (word) (start) c.args.out.now _ _ (ends) c.put_numbered-m.ensures _ _ c.put_status-n.ensures _ _
    end.ensures)
