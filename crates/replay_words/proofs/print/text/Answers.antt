-- `replay_words::print::text` meets its contract. Assumes nothing.
use mathlib.Core.Path.{refl, sym, ap, ◌∙◌}
use lib.ListN.{length}
use borrow.Author.Tests.{leb-true, leb-false}
use Rattle.fields.proofs.Lent.{lent}
use Rattle.replay_words.proofs.Said.{said, unsaid}
use Rattle.replay_words.proofs.print.text.Goals as goal

pub returns-then-has_room : goal.returns-then-has_room
returns-then-has_room c =
    let a = c.args in
    let f = c.copy_from_slice.ensures.after in
    said a.at _ a.text.now a.out.now _ (leb-true _ _ (sym c.has_room.ensures ∙ c.if-has_room.true)) refl
    (lent a.at (length a.text.now) a.out.now _ a.text.now f (ap length f))

pub returns : goal.returns
returns c =
    let a = c.args in
    unsaid a.at a.text.now a.out.now (leb-false _ _ (sym c.has_room.ensures ∙ c.if-has_room.false))
