-- Where there is room the record is stored. Assumes nothing.
use mathlib.Core.Path.{◌∙◌, sym}
use borrow.Author.Tests.{leb-true, leb-false}
use Rattle.delta_write.proofs.Fronts.{fits, no-fit}
use Rattle.rules.proofs.Sending.{size-record}
use Rattle.delta_write.proofs.write_key_value.Goals as goal

pub returns-then-record_fits : goal.returns-then-record_fits
returns-then-record_fits c =
    fits _ _ c.args.datagram.now _ (size-record _) (leb-true _ _ (sym c.record_fits.ensures ∙ c.if-record_fits.true)) c.store_key_value.ensures

pub returns : goal.returns
returns c =
    let a = c.args in
    no-fit _ _ a.datagram.now (size-record _) (leb-false _ _ (sym c.record_fits.ensures ∙ c.if-record_fits.false))
