-- `listing_line::after_id` meets its contract: a word, a number, and what stands behind it. Assumes nothing.
use Rattle.listing_read.specs.Unlist.{after_gc}
use Rattle.rules.specs.Listing.{ascii}
use Rattle.listing_line.proofs.Goes.{no_word, word-no-number, word_number}
use Rattle.listing_line.proofs.after_id.Goals as goal

pub returns-then-not-starts_with : goal.returns-then-not-starts_with
returns-then-not-starts_with c =
    no_word (ascii " gc=") (after_gc c.args.number) c.args.text.now _ c.starts_with.ensures _ c.if-not-starts_with.true

pub returns-in_default : goal.returns-in_default
returns-in_default c =
    word-no-number (ascii " gc=") (after_gc c.args.number) c.args.text.now _ c.starts_with.ensures _ c.if-not-starts_with.false c.behind-rest.ensures _
    c.number.ensures _ c.in_default.is

pub returns : goal.returns
returns c =
    word_number (ascii " gc=") (after_gc c.args.number) c.args.text.now _ c.starts_with.ensures _ c.if-not-starts_with.false c.behind-rest.ensures _
    c.number.ensures _ _ _ _ c.in-Some.is c.behind.ensures c.after_gc.ensures
