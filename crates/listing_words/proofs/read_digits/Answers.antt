-- `listing_words::read_digits` meets its contract: the value so far with the digits that are left is the whole's. Assumes nothing.
use Prim.Native.Nat.{ℕ}
use mathlib.Core.Bool.{true, false}
use mathlib.Core.Path.{ap, ◌≡◌, sym, ◌∙◌}
use native.Mathlib.Omega.{arith}
use lib.ListN.{length, get_or}
use Rattle.listing_read.specs.Unlist.{is_digit}
use Rattle.std.specs.Prelude.{Some}
use Rattle.listing_words.proofs.Read.{digits-all, digits-next, digits-over, front_ends, front-more, front-stops}
use Rattle.listing_words.proofs.read_digits.Goals as goal

pub with_digit-requires : goal.with_digit-requires
with_digit-requires c =
    let yes : c.is_digit.result ≡ true = cc in
    sym c.is_digit.ensures ∙ yes

pub returns-in_err-value : goal.returns-in_err-value
returns-in_err-value c =
    let yes : c.is_digit.result ≡ true = cc in
    let q = c.loop-i in
    let text = c.args.text.now in
    let next = front-more is_digit text q.i _ c.loop-i-test.true c.is_digit.ensures yes in
    rw c.from_residual.ensures (digits-over text q.value q.i (get_or text q.i 0) _ next q.invariant.0 c.with_digit.ensures c.in_err-value.was)

pub loop-i-preserved : goal.loop-i-preserved
loop-i-preserved c =
    let yes : c.is_digit.result ≡ true = cc in
    let q = c.loop-i in
    let text = c.args.text.now in
    let next = front-more is_digit text q.i _ c.loop-i-test.true c.is_digit.ensures yes in
    digits-next text q.value q.i (get_or text q.i 0) _ next q.invariant.0 q.invariant.1 c.with_digit.ensures _ c.in_ok-value.was

pub returns-then-not-is_digit : goal.returns-then-not-is_digit
returns-then-not-is_digit c =
    let no : c.is_digit.result ≡ false = cc in
    let q = c.loop-i in
    let text = c.args.text.now in
    digits-all text q.value q.i (front-stops is_digit text q.i _ c.loop-i-test.true c.is_digit.ensures no) q.invariant.0 q.invariant.1 q.invariant.2

pub returns : goal.returns
returns c =
    let q = c.loop-i in
    let text = c.args.text.now in
    let whole : length text ≡ q.i = omega (arith, c.loop-i-test.false) in
    ap (λ (n : ℕ). (Some (record { value = q.value; len = n }))) whole ∙ digits-all text q.value q.i (front_ends is_digit text q.i c.loop-i-test.false) q.invariant.0 q.invariant.1 q.invariant.2
