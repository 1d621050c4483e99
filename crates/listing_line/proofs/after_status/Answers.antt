-- `listing_line::after_status` meets its contract: a word, a text, and what stands behind it. Assumes nothing.
use Rattle.listing_read.specs.Unlist.{after_key}
use mathlib.Core.Path.{sym}
use lib.Seq.{length-take-le}
use Rattle.rules.specs.Listing.{ascii}
use Rattle.rules.specs.Sizes.{max_key}
use Rattle.listing_line.proofs.Goes.{no-text-word, text-few, text-held, word-no-text, word-text}
use Rattle.listing_line.proofs.after_status.Goals as goal

pub returns-then-not-starts_with : goal.returns-then-not-starts_with
returns-then-not-starts_with c =
    no-text-word (ascii " key=") max_key (after_key c.args.version c.args.status) c.args.text.now _ c.starts_with.ensures _ c.if-not-starts_with.true

pub slice_bounds-key-end : goal.slice_bounds-key-end
slice_bounds-key-end c =
    text-held (ascii " key=") max_key (after_key c.args.version c.args.status) c.args.text.now _ c.starts_with.ensures _ _ c.if-not-starts_with.false c.behind-rest.ensures _
    c.text.ensures _ c.in-Some.is c.text.auto.out

pub slice_bounds-after_key-end : goal.slice_bounds-after_key-end
slice_bounds-after_key-end c =
    sym (length-take-le _ _ (text-held (ascii " key=") max_key (after_key c.args.version c.args.status) c.args.text.now _ c.starts_with.ensures _ _ c.if-not-starts_with.false c.behind-rest.ensures _
    c.text.ensures _ c.in-Some.is c.text.auto.out))

pub after_key-requires : goal.after_key-requires
after_key-requires c = (
  text-few (ascii " key=") max_key (after_key c.args.version c.args.status) c.args.text.now _ c.starts_with.ensures _ _ c.if-not-starts_with.false c.behind-rest.ensures _
      c.text.ensures _ c.in-Some.is c.text.auto.out,
  c.requires,
)

pub returns-in_default : goal.returns-in_default
returns-in_default c =
    word-no-text (ascii " key=") max_key (after_key c.args.version c.args.status) c.args.text.now _ c.starts_with.ensures _ _ c.if-not-starts_with.false c.behind-rest.ensures _
    c.text.ensures _ c.in_default.is

pub returns : goal.returns
returns c =
    word-text (ascii " key=") max_key (after_key c.args.version c.args.status) c.args.text.now _ c.starts_with.ensures _ _ c.if-not-starts_with.false c.behind-rest.ensures _
    c.text.ensures _ c.in-Some.is _ _ _ c.behind.ensures c.after_key.ensures
