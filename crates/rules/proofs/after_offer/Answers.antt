use borrow.Author.Tests.{eq-eqb, ne_eqb, lt-ltb, le-ltb}
use borrow.Author.Tests.{eq-eqb, ne_eqb, lt-ltb, le-ltb}
use Rattle.rules.specs.Node.{offer_of}
use Rattle.rules.proofs.after_offer.Goals as goal

pub returns-then-held-eq0 : goal.returns-then-held-eq0
unfolding offer_of
returns-then-held-eq0 c =
    simp (offer_of, eq-eqb _ 0 c.if-held-eq0.true)

pub returns-then-held-got : goal.returns-then-held-got
unfolding offer_of
returns-then-held-got c =
    simp (offer_of, ne_eqb _ 0 c.if-held-eq0.false, lt-ltb _ _ c.if-held-got.true)

pub returns : goal.returns
unfolding offer_of
returns c =
    simp (offer_of, ne_eqb _ 0 c.if-held-eq0.false, le-ltb _ _ c.if-held-got.false)
