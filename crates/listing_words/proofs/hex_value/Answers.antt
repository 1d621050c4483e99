-- `listing_words::hex_value` meets its contract. Assumes nothing.
use Prim.Native.Nat.{ℕ, ◌-◌, ◌≤◌, ◌<◌}
use mathlib.Core.Path.{◌≡◌}
use native.Mathlib.Omega.{arith}
use borrow.Author.Tests.{le-ltb, lt-ltb}
use Rattle.listing_read.specs.Unlist.{hex_value}
use Rattle.listing_words.proofs.hex_value.Goals as goal

none : (b : ℕ) → b < 48 → 0 ≡ hex_value b
unfolding hex_value
none b h =
    let g : b < 58 = omega arith in
    let z : 0 ≡ b - 48 = omega arith in
    rw (lt-ltb b 58 g) z

low : (b : ℕ) → b < 58 → b - 48 ≡ hex_value b
unfolding hex_value
low b h = rw (lt-ltb b 58 h)

high : (b : ℕ) → 58 ≤ b → b - 55 ≡ hex_value b
unfolding hex_value
high b h = rw (le-ltb b 58 h)

pub returns-then-b-lt48 : goal.returns-then-b-lt48
returns-then-b-lt48 c =
    (none c.args.b c.if-b-lt48.true, omega arith)

pub returns-then-b-lt58 : goal.returns-then-b-lt58
returns-then-b-lt58 c =
    (low c.args.b c.if-b-lt58.true, omega arith)

pub returns : goal.returns
returns c =
    (high c.args.b c.if-b-lt58.false, omega arith)
