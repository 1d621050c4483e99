-- `table_wrong::put_tail` meets its contract: by the two bytes. Assumes nothing.
use mathlib.Core.Path.{◌∙◌, sym, subst}
use Rattle.fields.specs.Numbers.{Bytes}
use Rattle.listing_room.proofs.Room.{Put}
use Rattle.table_listing.specs.TableListing.{refused_line}
use Rattle.table_wrong.proofs.Wrong.{some-mode, some-profile}
use Rattle.table_wrong.proofs.put_tail.Goals as goal

pub returns : goal.returns
unfolding refused_line
returns c =
    let a = c.args in
    let call = c.put_text in
    let mode = some-mode a.tail.now _ _ _ c.byte_at-m.ensures.0 c.of_byte-mode.ensures c.byte.ensures c.if-byte-m.false in
    let profile = some-profile a.tail.now _ _ _ c.byte_at-p.ensures.0 c.of_byte-profile.ensures c.byte-2.ensures c.if-byte-p.false in
    subst (λ (t : Bytes). Put 0 t a.out.now call.new.out call.result) (sym (mode ∙ profile)) call.ensures
