-- `replay_words::print::list` meets its contract: what is left to print, printed now, gives what the contract says. Assumes nothing.
use Prim.Native.Nat.{ℕ}
use mathlib.Core.Path.{◌≡◌, ap, ◌∙◌}
use mathlib.Core.List.{[], ◌∷◌}
use Rattle.rules.specs.Listing.{decimal}
use Rattle.replay_words.specs.Printing.{Page, page, say}
use Rattle.replay_words.proofs.Said.{more_turn, more-end, list-none, list-first}
use Rattle.replay_words.proofs.print.list.Goals as goal

more : (p m q : Page) (b v : ℕ) → v ≡ b → m ≡ say (44 ∷ []) p → q ≡ say (decimal v) m → q ≡ say (decimal b) (say (44 ∷ []) p)
more p m q b v e g h = cc

pub returns-in_default : goal.returns-in_default
returns-in_default c =
    list-none _ _ _ c.in_default.ensures.cases c.byte.ensures

pub loop-value-preserved : goal.loop-value-preserved
loop-value-preserved c =
    more_turn c.in-Some.rest.now _ _ _ _ c.loop-value-test.true c.loop-value.invariant
    (more _ _ _ _ _ c.from-in-loop-value.ensures c.byte-next.ensures c.decimal-next-in-loop-value.ensures)

pub returns : goal.returns
returns c =
    let a = c.args in
    more-end c.in-Some.rest.now _ _ (page 0 []) _ c.loop-value-test.false c.loop-value.invariant
    ∙ list-first a.bytes.now _ _ _ _ c.in-Some.ensures.cases.0 (c.decimal-next.ensures ∙ ap (λ (k : ℕ). say (decimal k) (page a.at a.out.now)) c.from.ensures)
