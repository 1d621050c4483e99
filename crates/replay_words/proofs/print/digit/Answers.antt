-- `replay_words::print::digit` meets its contract. Assumes nothing.
use Prim.Native.Nat.{ℕ, ◌+◌, ◌≤◌, ◌<◌}
use mathlib.Core.Path.{◌≡◌}
use borrow.Author.Tests.{lt-ltb, le-ltb}
use Rattle.replay_words.specs.Printing.{hex_digit}
use Rattle.replay_words.proofs.print.digit.Goals as goal

low : (v : ℕ) → v < 10 → 48 + v ≡ hex_digit v
low v h = rw (lt-ltb v 10 h)

high : (v : ℕ) → 10 ≤ v → 87 + v ≡ hex_digit v
high v h = rw (le-ltb v 10 h)

pub returns-then-value-lt10 : goal.returns-then-value-lt10
returns-then-value-lt10 c =
    low _ c.if-value-lt10.true

pub returns : goal.returns
returns c =
    high _ c.if-value-lt10.false
