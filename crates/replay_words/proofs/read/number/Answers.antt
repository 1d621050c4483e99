-- `replay_words::read::number` meets its contract. Assumes nothing.
use mathlib.Core.Path.{sym, ◌∙◌}
use Rattle.std.proofs.lemmas.Str.Parse.{without_leading_plus_none}
use Rattle.replay_words.proofs.Numerals.{parsed, no_text, begins_not, plus, not_utf8, utf8_same}
use Rattle.replay_words.proofs.read.number.Goals as goal

pub returns-then-starts_with : goal.returns-then-starts_with
returns-then-starts_with c =
    plus c.args.word.now (sym c.starts_with.ensures.value ∙ c.if-starts_with.true)

pub returns-in_err-ok : goal.returns-in_err-ok
returns-in_err-ok c =
    let l = c.args.word.now in
    c.from_residual.ensures ∙ no_text l (not_utf8 l _ _ c.from_utf8.ensures.cases c.ok.ensures.value c.in_err-ok.was)

pub returns : goal.returns
returns c =
    let l = c.args.word.now in
    let t = utf8_same l _ c.in_ok-ok.field-0 _ c.from_utf8.ensures.cases c.ok.ensures.value c.in_ok-ok.was in
    let n = begins_not l (sym c.starts_with.ensures.value ∙ c.if-starts_with.false) in
    let p = rw t at c.parse.ensures.value.0 in
    let q = rw (without_leading_plus_none l n) at p in
    c.ok-2.ensures.value ∙ parsed l c.parse.result q
