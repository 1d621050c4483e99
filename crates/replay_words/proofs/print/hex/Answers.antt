-- `replay_words::print::hex` meets its contract: what is left to print, printed now, gives what the contract says. Assumes nothing.
use Prim.Native.Nat.{ℕ, ◌/◌, ◌%◌}
use mathlib.Core.Path.{◌≡◌, ap, ◌∙◌}
use mathlib.Core.List.{[], ◌∷◌}
use Rattle.replay_words.specs.Printing.{Page, page, say, says, hex_digit, hex_texts}
use Rattle.replay_words.proofs.Said.{hex-turn, hex-end}
use Rattle.replay_words.proofs.print.hex.Goals as goal

two : (p m q : Page) (b d e : ℕ) → d ≡ hex_digit (b / 16) → e ≡ hex_digit (b % 16) → m ≡ say (d ∷ []) p → q ≡ say (e ∷ []) m
    → q ≡ say (hex_digit (b % 16) ∷ []) (say (hex_digit (b / 16) ∷ []) p)
two p m q b d e g h i j = cc

pub loop-value-preserved : goal.loop-value-preserved
loop-value-preserved c =
    hex-turn c.args.bytes.now _ _ _ _ c.loop-value-test.true c.loop-value.invariant
    (two _ _ _ _ _ _ c.digit.ensures c.digit-in-loop-value.ensures c.byte-next-in-loop-value.ensures c.byte-next-in-loop-value-2.ensures)

pub returns : goal.returns
returns c =
    let s = c.args.bytes.now in
    hex-end s _ _ (page 0 []) _ c.loop-value-test.false c.loop-value.invariant ∙ ap (says (hex_texts s)) c.byte-next.ensures
