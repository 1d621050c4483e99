-- `listing_text::put_decimal` meets its contract: the digits that are left, put now, give what the contract says. Assumes nothing.
use Prim.Native.Nat.{ℕ, ◌+◌, ◌-◌}
use mathlib.Core.Path.{◌≡◌, refl, ap, ◌∙◌}
use mathlib.Core.List.{List}
use native.Mathlib.Omega.{arith}
use lib.ListN.{length, length-set}
use Rattle.fields.specs.Parts.{put}
use Rattle.rules.specs.Listing.{decimal}
use Rattle.listing_text.proofs.Texts.{last-all, put-last, put-none}
use Rattle.listing_text.proofs.put_decimal.Goals as goal

pub loop-i-init : goal.loop-i-init
loop-i-init c =
    let a = c.args in
    let all : a.at + c.decimal_len.result - a.at ≡ length (decimal a.v) = omega (arith, c.decimal_len.ensures.0) in
    (refl, ap (λ (r : List ℕ). put a.at r a.out.now) (last-all _ a.v (omega arith) all))

pub loop-i-preserved : goal.loop-i-preserved
loop-i-preserved c =
    let a = c.args in
    let q = c.loop-i in
    let t = put-last a.at q.i q.left _ q.out _ c.loop-i-test.true (omega arith) c.last_digit.ensures q.invariant.1 in
    (length-set q.out _ _ ∙ q.invariant.0, t)

pub returns : goal.returns
returns c =
    let q = c.loop-i in
    (ap (λ (n : ℕ). c.args.at + n) c.decimal_len.ensures.0, put-none c.args.at q.i q.left q.out _ (omega arith) q.invariant.1)
