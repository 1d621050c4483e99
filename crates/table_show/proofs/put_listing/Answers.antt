-- `table_show::put_listing` meets its contract: by whether the bytes are a good table. Assumes nothing.
use mathlib.Core.Path.{sym, subst, ◌∙◌}
use Rattle.fields.specs.Numbers.{Bytes}
use Rattle.listing_room.proofs.Room.{Put}
use Rattle.table_listing.proofs.Told.{listing-bad, listing-good}
use Rattle.table_show.proofs.put_listing.Goals as goal

pub put_good-requires : goal.put_good-requires
put_good-requires c =
    sym c.check_table.ensures ∙ c.if-check_table.true

pub returns-then-check_table : goal.returns-then-check_table
returns-then-check_table c =
    let a = c.args in
    let call = c.put_good in
    subst (λ (t : Bytes). Put 0 t a.out.now call.new.out call.result)
    (sym (listing-good a.table.now (sym c.check_table.ensures ∙ c.if-check_table.true))) call.ensures

pub returns : goal.returns
returns c =
    let a = c.args in
    let call = c.put_line in
    subst (λ (t : Bytes). Put 0 t a.out.now call.new.out call.result)
    (sym (listing-bad a.table.now (sym c.check_table.ensures ∙ c.if-check_table.false))) call.ensures
