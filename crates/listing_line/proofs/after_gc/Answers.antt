-- `listing_line::after_gc` meets its contract: a word, a number, and what stands behind it. Assumes nothing.
use Rattle.rules.specs.Delta.{NodeOp}
use Rattle.listing_read.specs.Unlist.{closed}
use Rattle.rules.specs.Listing.{ascii}
use Rattle.listing_line.proofs.Goes.{no_word, word-no-number, word_number}
use Rattle.listing_line.proofs.after_gc.Goals as goal

pub returns-then-not-starts_with : goal.returns-then-not-starts_with
returns-then-not-starts_with c =
    no_word (ascii " from=") (λ f. closed (NodeOp c.args.number c.args.last_gc f)) c.args.text.now _ c.starts_with.ensures _ c.if-not-starts_with.true

pub returns-in_default : goal.returns-in_default
returns-in_default c =
    word-no-number (ascii " from=") (λ f. closed (NodeOp c.args.number c.args.last_gc f)) c.args.text.now _ c.starts_with.ensures _ c.if-not-starts_with.false c.behind-rest.ensures _
    c.number.ensures _ c.in_default.is

pub returns : goal.returns
returns c =
    word_number (ascii " from=") (λ f. closed (NodeOp c.args.number c.args.last_gc f)) c.args.text.now _ c.starts_with.ensures _ c.if-not-starts_with.false c.behind-rest.ensures _
    c.number.ensures _ _ _ _ c.in-Some.is c.behind.ensures c.node_end.ensures
