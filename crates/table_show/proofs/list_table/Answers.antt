-- `table_show::list_table` meets its contract: the listing is measured, and written where there is room. Assumes nothing.
use Rattle.rules.specs.Answers.{written_told}
use Rattle.rules.proofs.Unique.{tells}
use native.Mathlib.Omega.{arith}
use Rattle.table_listing.specs.TableListing.{table_listing}
use Rattle.table_show.proofs.Shown.{has_room, too_long}
use Rattle.table_show.proofs.list_table.Goals as goal

pub returns-then-out-n : goal.returns-then-out-n
returns-then-out-n c =
    let a = c.args in
    let call = c.put_listing-n in
    tells written_told (too_long (table_listing a.table.now) a.out.now call.new.out a.out.now _ call.ensures.0 call.auto.out c.if-out-n.true)

pub returns : goal.returns
returns c =
    let a = c.args in
    let first = c.put_listing-n in
    let call = c.put_listing in
    tells written_told
    (has_room (table_listing a.table.now) a.out.now first.new.out call.new.out _ first.ensures.0 first.auto.out (omega (arith, c.if-out-n.false)) _
    call.ensures)
