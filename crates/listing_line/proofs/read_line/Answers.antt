-- `listing_line::read_line` meets its contract: by the first word. Assumes nothing.
use mathlib.Core.Path.{refl}
use Rattle.rules.specs.Listing.{ascii}
use Rattle.listing_read.specs.Unlist.{NoLine, after_id, after_max, after_version, number_form, printed, read_line, word}
use Rattle.listing_line.proofs.Goes.{goes_other, goes-word}
use Rattle.listing_line.proofs.read_line.Goals as goal

pub returns-then-starts_with : goal.returns-then-starts_with
unfolding read_line
returns-then-starts_with c =
    goes-word (ascii "op=node id=") (word (ascii "op=kv version=") (word (ascii "op=max version=") NoLine (printed number_form after_max) c.args.text.now) (printed number_form after_version) c.args.text.now) (printed number_form after_id) c.args.text.now _ c.starts_with.ensures _ _ _ c.if-starts_with.true c.behind.ensures c.node_line.ensures

pub returns-then-starts_with-2 : goal.returns-then-starts_with-2
unfolding read_line
returns-then-starts_with-2 c =
    goes_other (ascii "op=node id=") (word (ascii "op=kv version=") (word (ascii "op=max version=") NoLine (printed number_form after_max) c.args.text.now) (printed number_form after_version) c.args.text.now) (printed number_form after_id) c.args.text.now _ c.starts_with.ensures _ _ c.if-starts_with.false
    (goes-word (ascii "op=kv version=") (word (ascii "op=max version=") NoLine (printed number_form after_max) c.args.text.now) (printed number_form after_version) c.args.text.now _ c.starts_with-2.ensures _ _ _ c.if-starts_with-2.true c.behind-then-starts_with-2.ensures c.record_line.ensures)

pub returns-then-starts_with-3 : goal.returns-then-starts_with-3
unfolding read_line
returns-then-starts_with-3 c =
    goes_other (ascii "op=node id=") (word (ascii "op=kv version=") (word (ascii "op=max version=") NoLine (printed number_form after_max) c.args.text.now) (printed number_form after_version) c.args.text.now) (printed number_form after_id) c.args.text.now _ c.starts_with.ensures _ _ c.if-starts_with.false
    (goes_other (ascii "op=kv version=") (word (ascii "op=max version=") NoLine (printed number_form after_max) c.args.text.now) (printed number_form after_version) c.args.text.now _ c.starts_with-2.ensures _ _ c.if-starts_with-2.false
    (goes-word (ascii "op=max version=") (NoLine) (printed number_form after_max) c.args.text.now _ c.starts_with-3.ensures _ _ _ c.if-starts_with-3.true c.behind-then-starts_with-3.ensures c.max_line.ensures))

pub returns : goal.returns
unfolding read_line
returns c =
    goes_other (ascii "op=node id=") (word (ascii "op=kv version=") (word (ascii "op=max version=") NoLine (printed number_form after_max) c.args.text.now) (printed number_form after_version) c.args.text.now) (printed number_form after_id) c.args.text.now _ c.starts_with.ensures _ _ c.if-starts_with.false
    (goes_other (ascii "op=kv version=") (word (ascii "op=max version=") NoLine (printed number_form after_max) c.args.text.now) (printed number_form after_version) c.args.text.now _ c.starts_with-2.ensures _ _ c.if-starts_with-2.false
    (goes_other (ascii "op=max version=") NoLine (printed number_form after_max) c.args.text.now _ c.starts_with-3.ensures _ _ c.if-starts_with-3.false refl))
