-- `replay_words::read::copy` meets its contract. Assumes nothing.
use Rattle.replay_words.proofs.Stored.{not-counted, not-stored, is-counted, stored_front}
use Rattle.replay_words.proofs.read.copy.Goals as goal

pub returns-then-out-src : goal.returns-then-out-src
returns-then-out-src c =
    let a = c.args in
    (not-counted a.src.now a.out.now c.if-out-src.true, not-stored a.src.now a.out.now c.if-out-src.true)

pub returns : goal.returns
returns c =
    let a = c.args in
    (is-counted a.src.now a.out.now c.if-out-src.false, stored_front a.src.now _ a.out.now c.if-out-src.false c.copy_from_slice.ensures.after)
