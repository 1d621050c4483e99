-- `listing_line::after_version` meets its contract: a word, and what stands behind it. Assumes nothing.
use mathlib.Core.Path.{refl}
use Rattle.rules.specs.Listing.{ascii}
use Rattle.listing_read.specs.Unlist.{NoLine, after_status, status}
use Rattle.listing_line.proofs.Goes.{goes_other, goes-word}
use Rattle.listing_line.proofs.after_version.Goals as goal

pub returns-then-not-starts_with : goal.returns-then-not-starts_with
returns-then-not-starts_with c =
    goes_other (ascii " status=") NoLine (status (after_status c.args.version)) c.args.text.now _ c.starts_with.ensures 0 _ c.if-not-starts_with.true refl

pub returns : goal.returns
returns c =
    goes-word (ascii " status=") NoLine (status (after_status c.args.version)) c.args.text.now _ c.starts_with.ensures _ _ _
    c.if-not-starts_with.false c.behind.ensures c.read_status.ensures
