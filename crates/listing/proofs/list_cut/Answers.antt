-- `listing::list_cut` meets its contract: the one line, or no room for it. Assumes nothing.
use Prim.Native.Nat.{◌+◌}
use mathlib.Core.Path.{◌≡◌}
use native.Mathlib.Omega.{arith}
use lib.ListN.{length}
use Rattle.listing.specs.Shapes.{cut_text}
use Rattle.listing.proofs.Lines.{cut-long, front-none, front-whole}
use Rattle.listing.proofs.list_cut.Goals as goal

pub returns-then-out-n : goal.returns-then-out-n
returns-then-out-n c =
    let long : let a = c.args in
    length (cut_text a.code a.at a.need) ≡ 28 + c.decimal_len.result + c.decimal_len-2.result + c.decimal_len-3.result = let a = c.args in
    omega
    (arith, cut-long a.code a.at a.need, c.decimal_len.ensures.0, c.decimal_len-2.ensures.0, c.decimal_len-3.ensures.0) in
    let a = c.args in
    front-none (cut_text a.code a.at a.need) a.out.now (omega (arith, long, c.if-out-n.true))

pub put_cut-requires : goal.put_cut-requires
put_cut-requires c =
    let long : let a = c.args in
    length (cut_text a.code a.at a.need) ≡ 28 + c.decimal_len.result + c.decimal_len-2.result + c.decimal_len-3.result = let a = c.args in
    omega
    (arith, cut-long a.code a.at a.need, c.decimal_len.ensures.0, c.decimal_len-2.ensures.0, c.decimal_len-3.ensures.0) in
    omega (arith, long, c.if-out-n.false)

pub returns : goal.returns
returns c =
    let long : let a = c.args in
    length (cut_text a.code a.at a.need) ≡ 28 + c.decimal_len.result + c.decimal_len-2.result + c.decimal_len-3.result = let a = c.args in
    omega
    (arith, cut-long a.code a.at a.need, c.decimal_len.ensures.0, c.decimal_len-2.ensures.0, c.decimal_len-3.ensures.0) in
    let e = long in
    let a = c.args in
    front-whole (cut_text a.code a.at a.need) a.out.now _ _ (omega (arith, e, c.if-out-n.false)) (omega (arith, e))
    c.put_cut.ensures.1
