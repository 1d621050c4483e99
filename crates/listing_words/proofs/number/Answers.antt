-- `listing_words::number` meets its contract. Assumes nothing.
use mathlib.Core.Path.{sym, ◌∙◌}
use lib.Seq.{length-take-le}
use Rattle.listing_words.proofs.Read.{number-is, number-not, numeral-within}
use Rattle.listing_words.proofs.number.Goals as goal

pub slice_bounds-is_decimal-end : goal.slice_bounds-is_decimal-end
slice_bounds-is_decimal-end c =
    sym (length-take-le _ _ (numeral-within c.args.text.now _ c.read_digits.ensures _ c.in_ok-read.was))

pub returns-in_err-read : goal.returns-in_err-read
returns-in_err-read c =
    rw c.from_residual.ensures (number-not c.args.text.now _ c.read_digits.ensures c.in_err-read.was)

pub returns : goal.returns
returns c =
    c.then_some.ensures ∙ number-is c.args.text.now _ c.read_digits.ensures _ c.in_ok-read.was _ c.is_decimal.ensures
