-- `listing_line::read_status` meets its contract: by the first word. Assumes nothing.
use mathlib.Core.Path.{refl}
use Rattle.rules.specs.Listing.{status_text}
use Rattle.rules.specs.declared.Status.TheVariants.{Set, Delete, Ttl}
use Rattle.listing_read.specs.Unlist.{NoLine, after_status, word}
use Rattle.listing_line.proofs.Goes.{goes_other, goes-word}
use Rattle.listing_line.proofs.read_status.Goals as goal

pub returns-then-starts_with : goal.returns-then-starts_with
returns-then-starts_with c =
    goes-word (status_text Set) (word (status_text Delete) (word (status_text Ttl) NoLine (after_status c.args.version Ttl) c.args.text.now) (after_status c.args.version Delete) c.args.text.now) (after_status c.args.version Set) c.args.text.now _ c.starts_with.ensures _ _ _ c.if-starts_with.true c.behind.ensures c.after_status.ensures

pub returns-then-starts_with-2 : goal.returns-then-starts_with-2
returns-then-starts_with-2 c =
    goes_other (status_text Set) (word (status_text Delete) (word (status_text Ttl) NoLine (after_status c.args.version Ttl) c.args.text.now) (after_status c.args.version Delete) c.args.text.now) (after_status c.args.version Set) c.args.text.now _ c.starts_with.ensures _ _ c.if-starts_with.false
    (goes-word (status_text Delete) (word (status_text Ttl) NoLine (after_status c.args.version Ttl) c.args.text.now) (after_status c.args.version Delete) c.args.text.now _ c.starts_with-2.ensures _ _ _ c.if-starts_with-2.true c.behind-then-starts_with-2.ensures c.after_status-then-starts_with-2.ensures)

pub returns-then-starts_with-3 : goal.returns-then-starts_with-3
returns-then-starts_with-3 c =
    goes_other (status_text Set) (word (status_text Delete) (word (status_text Ttl) NoLine (after_status c.args.version Ttl) c.args.text.now) (after_status c.args.version Delete) c.args.text.now) (after_status c.args.version Set) c.args.text.now _ c.starts_with.ensures _ _ c.if-starts_with.false
    (goes_other (status_text Delete) (word (status_text Ttl) NoLine (after_status c.args.version Ttl) c.args.text.now) (after_status c.args.version Delete) c.args.text.now _ c.starts_with-2.ensures _ _ c.if-starts_with-2.false
    (goes-word (status_text Ttl) (NoLine) (after_status c.args.version Ttl) c.args.text.now _ c.starts_with-3.ensures _ _ _ c.if-starts_with-3.true c.behind-then-starts_with-3.ensures c.after_status-then-starts_with-3.ensures))

pub returns : goal.returns
returns c =
    goes_other (status_text Set) (word (status_text Delete) (word (status_text Ttl) NoLine (after_status c.args.version Ttl) c.args.text.now) (after_status c.args.version Delete) c.args.text.now) (after_status c.args.version Set) c.args.text.now _ c.starts_with.ensures _ _ c.if-starts_with.false
    (goes_other (status_text Delete) (word (status_text Ttl) NoLine (after_status c.args.version Ttl) c.args.text.now) (after_status c.args.version Delete) c.args.text.now _ c.starts_with-2.ensures _ _ c.if-starts_with-2.false
    (goes_other (status_text Ttl) NoLine (after_status c.args.version Ttl) c.args.text.now _ c.starts_with-3.ensures _ _ c.if-starts_with-3.false refl))
