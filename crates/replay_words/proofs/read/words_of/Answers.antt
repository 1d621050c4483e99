-- `replay_words::read::words_of` meets its contract. Assumes nothing.
use mathlib.Core.Path.{ap, ◌∙◌}
use lib.Dec.{eqb}
use lib.ListN.{length}
use borrow.Author.Rules.{rules}
use borrow.Author.Tests.{tests}
use Rattle.std.proofs.lemmas.Iterator.Consumers.{count_from_yields_List}
use Rattle.std.proofs.lemmas.Iterator.Splits.{YieldsList-from_slice_split}
use Rattle.replay_words.proofs.Pieces.{split_pieces}
use Rattle.replay_words.proofs.read.words_of.Goals as goal

pub returns : goal.returns
returns c =
    let a = c.args in
    let s = c.split.ensures in
    count_from_yields_List _ _ c.count.ensures.ran
    (YieldsList-from_slice_split _ (λ x. eqb x 32) a.line.now s.rest s.done s.closure (λ x b q k. search (rules, tests)))
    ∙ ap length (split_pieces 32 a.line.now)
