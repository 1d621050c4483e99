-- `listing::list_good` meets its contract: the lines and the last one behind them, or no room for them. Assumes nothing.
use Prim.Native.Nat.{◌+◌}
use mathlib.Core.Path.{◌≡◌}
use native.Mathlib.Omega.{arith}
use lib.ListN.{length}
use Rattle.fields.specs.Numbers.{Bytes}
use Rattle.rules.specs.Listing.{ascii}
use Rattle.listing_text.specs.Texts.{TextFits}
use Rattle.listing_text.proofs.Texts.{fits-second, then}
use Rattle.listing_ops.specs.Lines.{lines_from, two_numbers}
use Rattle.listing.specs.Shapes.{good_text}
use Rattle.listing.proofs.Lines.{front-none, front-whole, good-long}
use Rattle.listing.proofs.list_good.Goals as goal

pub returns-then-out-n : goal.returns-then-out-n
returns-then-out-n c =
    let long : let a = c.args in
    length (good_text a.delta.now a.ops) ≡ c.lines_len.result + 19 + c.decimal_len.result + c.decimal_len-2.result = let a = c.args in
    omega (arith, good-long a.delta.now a.ops, c.lines_len.ensures.0, c.decimal_len.ensures.0, c.decimal_len-2.ensures.0) in
    let a = c.args in
    front-none (good_text a.delta.now a.ops) a.out.now (omega (arith, long, c.if-out-n.true))

pub put_lines-at-requires : goal.put_lines-at-requires
put_lines-at-requires c =
    omega (arith, c.lines_len.ensures.0, c.if-out-n.false)

pub put_two_numbers-requires : goal.put_two_numbers-requires
unfolding good_text
put_two_numbers-requires c =
    let last : Bytes = two_numbers (ascii "end=ok ops=") c.args.ops (ascii " bytes=") (length c.args.delta.now) in
    let long : let a = c.args in
    length (good_text a.delta.now a.ops) ≡ c.lines_len.result + 19 + c.decimal_len.result + c.decimal_len-2.result = let a = c.args in
    omega (arith, good-long a.delta.now a.ops, c.lines_len.ensures.0, c.decimal_len.ensures.0, c.decimal_len-2.ensures.0) in
    let fits : let a = c.args in TextFits 0 (good_text a.delta.now a.ops) a.out.now = omega (arith, long, c.if-out-n.false) in
    fits-second 0 (lines_from c.args.delta.now 0) (last) c.args.out.now _ _ (fits) c.put_lines-at.ensures

pub returns : goal.returns
unfolding good_text
returns c =
    let last : Bytes = two_numbers (ascii "end=ok ops=") c.args.ops (ascii " bytes=") (length c.args.delta.now) in
    let long : let a = c.args in
    length (good_text a.delta.now a.ops) ≡ c.lines_len.result + 19 + c.decimal_len.result + c.decimal_len-2.result = let a = c.args in
    omega (arith, good-long a.delta.now a.ops, c.lines_len.ensures.0, c.decimal_len.ensures.0, c.decimal_len-2.ensures.0) in
    let fits : let a = c.args in TextFits 0 (good_text a.delta.now a.ops) a.out.now = omega (arith, long, c.if-out-n.false) in
    let end = c.put_two_numbers.ensures in
    let whole = then 0 (lines_from c.args.delta.now 0) (last) c.args.out.now _ _ _ _ (fits) c.put_lines-at.ensures end in
    let e = long in
    front-whole (good_text c.args.delta.now c.args.ops) c.args.out.now _ _ (omega (arith, fits)) (omega (arith, e)) whole.1
