-- `replay_words::read::place_of` meets its contract. Assumes nothing.
use mathlib.Core.Path.{◌∙◌}
use lib.Dec.{eqb}
use borrow.Author.Rules.{rules}
use borrow.Author.Tests.{tests}
use Rattle.std.proofs.lemmas.Iterator.Search.{position_from_yields_List}
use Rattle.std.proofs.lemmas.Iterator.Splits.{YieldsList-from_slice_split}
use Rattle.std.specs.Cmp.Lexicographic.{pointwise}
use Rattle.replay_words.specs.Reading.{words_of}
use Rattle.replay_words.proofs.Pieces.{split_pieces, place_or}
use Rattle.replay_words.proofs.read.place_of.Goals as goal

pub returns : goal.returns
returns c =
    let a = c.args in
    let s = c.split.ensures in
    let p = position_from_yields_List (λ p. pointwise eqb p a.wanted.now) _ _ c.position-place.result c.position-place.ensures.ran
    (YieldsList-from_slice_split _ (λ x. eqb x 32) a.names.now s.rest s.done s.closure (λ x b q k. search (rules, tests)))
    (λ x b q k. search (rules, tests)) in
    c.unwrap_or.ensures ∙ place_or _ _ a.wanted.now (words_of a.names.now) c.words_of.ensures (rw (split_pieces 32 a.names.now) at p)
