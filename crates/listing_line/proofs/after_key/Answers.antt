-- `listing_line::after_key` meets its contract: a word, a text, and what stands behind it. Assumes nothing.
use Rattle.delta_write.specs.Written.{key_value}
use Rattle.listing_read.specs.Unlist.{closed}
use mathlib.Core.Path.{sym}
use lib.Seq.{length-take-le}
use Rattle.rules.specs.Listing.{ascii}
use Rattle.rules.specs.Sizes.{max_value}
use Rattle.listing_line.proofs.Goes.{no-text-word, text-few, text-held, word-no-text, word-text}
use Rattle.listing_line.proofs.after_key.Goals as goal

pub returns-then-not-starts_with : goal.returns-then-not-starts_with
returns-then-not-starts_with c =
    no-text-word (ascii " value=") max_value (λ v. closed (key_value c.args.key.now v c.args.version c.args.status)) c.args.text.now _ c.starts_with.ensures _ c.if-not-starts_with.true

pub slice_bounds-value-end : goal.slice_bounds-value-end
slice_bounds-value-end c =
    text-held (ascii " value=") max_value (λ v. closed (key_value c.args.key.now v c.args.version c.args.status)) c.args.text.now _ c.starts_with.ensures _ _ c.if-not-starts_with.false c.behind-rest.ensures _
    c.text.ensures _ c.in-Some.is c.text.auto.out

pub slice_bounds-record_end-end : goal.slice_bounds-record_end-end
slice_bounds-record_end-end c =
    sym (length-take-le _ _ (text-held (ascii " value=") max_value (λ v. closed (key_value c.args.key.now v c.args.version c.args.status)) c.args.text.now _ c.starts_with.ensures _ _ c.if-not-starts_with.false c.behind-rest.ensures _
    c.text.ensures _ c.in-Some.is c.text.auto.out))

pub record_end-requires : goal.record_end-requires
record_end-requires c = (
  c.requires.0,
  text-few (ascii " value=") max_value (λ v. closed (key_value c.args.key.now v c.args.version c.args.status)) c.args.text.now _ c.starts_with.ensures _ _ c.if-not-starts_with.false c.behind-rest.ensures _
      c.text.ensures _ c.in-Some.is c.text.auto.out,
  c.requires.1,
)

pub returns-in_default : goal.returns-in_default
returns-in_default c =
    word-no-text (ascii " value=") max_value (λ v. closed (key_value c.args.key.now v c.args.version c.args.status)) c.args.text.now _ c.starts_with.ensures _ _ c.if-not-starts_with.false c.behind-rest.ensures _
    c.text.ensures _ c.in_default.is

pub returns : goal.returns
returns c =
    word-text (ascii " value=") max_value (λ v. closed (key_value c.args.key.now v c.args.version c.args.status)) c.args.text.now _ c.starts_with.ensures _ _ c.if-not-starts_with.false c.behind-rest.ensures _
    c.text.ensures _ c.in-Some.is _ _ _ c.behind.ensures c.record_end.ensures
