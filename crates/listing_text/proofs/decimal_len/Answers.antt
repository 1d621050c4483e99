-- `listing_text::decimal_len` meets its contract: the digits counted and those of what is left are one more than the whole's. Assumes nothing.
use Prim.Native.Nat.{ℕ, ◌+◌, ◌/◌, ◌^◌, ◌≤◌, ◌<◌}
use mathlib.Core.Path.{◌≡◌, ap, ◌∙◌}
use native.Mathlib.Omega.{arith}
use lib.ListN.{length, length-append}
use Rattle.rules.specs.Listing.{decimal}
use Rattle.listing_text.proofs.Texts.{decimal-one, decimal-more, decimal-long}
use Rattle.listing_text.proofs.decimal_len.Goals as goal

-- one turn, and the last
turn : (left n k : ℕ) → 10 ≤ left → left < 2 ^ 64 → n + length (decimal left) ≡ k → n + 1 + length (decimal (left / 10)) ≡ k
turn left n k h g e =
    let d : length (decimal left) ≡ length (decimal (left / 10)) + 1 = ap length (decimal-more left h g) ∙ length-append (decimal (left / 10)) _ in
    omega arith

last : (left : ℕ) → left < 10 → length (decimal left) ≡ 1
last left h = ap length (decimal-one left h)

pub overflow_add-n : goal.overflow_add-n
overflow_add-n c =
    omega (arith, decimal-long c.args.v)

pub loop-left-preserved : goal.loop-left-preserved
loop-left-preserved c =
    (omega arith, turn _ _ _ c.loop-left-test.true (omega arith) c.loop-left.invariant.1)

pub returns : goal.returns
returns c =
    let one = last c.loop-left.left c.loop-left-test.false in
    (omega arith, omega (arith, decimal-long c.args.v))
