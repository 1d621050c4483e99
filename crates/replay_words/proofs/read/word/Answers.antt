-- `replay_words::read::word` meets its contract. Assumes nothing.
use mathlib.Core.Path.{ap, refl, ◌∙◌}
use lib.Dec.{eqb}
use borrow.Author.Rules.{rules}
use borrow.Author.Tests.{tests}
use Rattle.std.specs.List.{slice_get}
use Rattle.std.proofs.lemmas.Iterator.Consumers.{nth_from_yields_List}
use Rattle.std.proofs.lemmas.Iterator.Splits.{YieldsList-from_slice_split}
use Rattle.replay_words.proofs.Pieces.{split_pieces, piece_or}
use Rattle.replay_words.proofs.read.word.Goals as goal

pub returns : goal.returns
returns c =
    let a = c.args in
    let s = c.split.ensures in
    ap (λ x. x.now) c.unwrap_or.ensures
    ∙ piece_or _ _ _ a.k (
    nth_from_yields_List _ _ _ c.nth.ensures.ran
    (YieldsList-from_slice_split _ (λ x. eqb x 32) a.line.now s.rest s.done s.closure (λ x b q k. search (rules, tests)))
    ∙ ap (λ ps. slice_get ps a.k) (split_pieces 32 a.line.now)
    ) refl
