-- `listing_words::with_digit` meets its contract: ten times the value and the digit, where that is below 2^64. Assumes nothing.
use Prim.Native.Nat.{ℕ, ◌+◌, ◌-◌, ◌*◌, ◌^◌, ◌≤◌, ◌<◌}
use mathlib.Core.Path.{◌≡◌}
use mathlib.Core.Bool.{true}
use native.Mathlib.Omega.{arith}
use lib.Dec.{leb}
use borrow.Author.Tests.{le-ltb, leb-true, lt-ltb}
use Rattle.fields.proofs.Choice.{and_left}
use Rattle.listing_read.specs.Unlist.{is_digit}
use Rattle.listing_words.specs.Words.{grown}
use Rattle.std.specs.Prelude.{None, Option, Some, SomeIff}
use Rattle.listing_words.proofs.with_digit.Goals as goal

least : (b : ℕ) → is_digit b ≡ true → 48 ≤ b
least b h = leb-true 48 b (and_left (leb 48 b) (leb b 57) h)

over : (v b : ℕ) → 1844674407370955161 < v → None ≡ grown v b
unfolding grown
over v b h =
    let g : 256 ^ 8 ≤ v * 10 + (b - 48) = omega arith in
    rw (le-ltb (v * 10 + (b - 48)) (256 ^ 8) g)

summed : (v b high low : ℕ) (r : Option ℕ) → high ≡ v * 10 → low ≡ b - 48 → SomeIff r (high + low < 2 ^ 64) (high + low) → r ≡ grown v b
unfolding grown
summed v b high low None e f h =
    let g : 256 ^ 8 ≤ v * 10 + (b - 48) = omega (arith, h) in
    rw (le-ltb (v * 10 + (b - 48)) (256 ^ 8) g)
summed v b high low (Some m) e f h =
    let k : v * 10 + (b - 48) < 256 ^ 8 = omega (arith, h.0) in
    let n : m ≡ v * 10 + (b - 48) = omega (arith, h.1) in
    rw (lt-ltb (v * 10 + (b - 48)) (256 ^ 8) k, n)

pub overflow_sub-digit : goal.overflow_sub-digit
overflow_sub-digit c =
    omega (arith, least c.args.digit c.requires)

pub returns-then-value-gt-TENTH : goal.returns-then-value-gt-TENTH
returns-then-value-gt-TENTH c =
    over _ _ c.if-value-gt-TENTH.true

pub returns : goal.returns
returns c =
    summed _ _ _ _ _ c.tenfold.ensures c.from-low.ensures c.checked_add.ensures
