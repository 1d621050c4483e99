-- `listing::list_fault` meets its contract: the one line, or no room for it. Assumes nothing.
use Prim.Native.Nat.{◌+◌}
use mathlib.Core.Path.{◌≡◌}
use native.Mathlib.Omega.{arith}
use lib.ListN.{length}
use Rattle.listing.specs.Shapes.{fault_text}
use Rattle.listing.proofs.Lines.{front-none, front-whole, fault-long}
use Rattle.listing.proofs.list_fault.Goals as goal

pub returns-then-out-n : goal.returns-then-out-n
returns-then-out-n c =
    let long : let a = c.args in
    length (fault_text a.code a.at) ≡ 22 + c.decimal_len.result + c.decimal_len-2.result = let a = c.args in
    omega (arith, fault-long a.code a.at, c.decimal_len.ensures.0, c.decimal_len-2.ensures.0) in
    let a = c.args in
    front-none (fault_text a.code a.at) a.out.now (omega (arith, long, c.if-out-n.true))

pub put_two_numbers-requires : goal.put_two_numbers-requires
unfolding fault_text
put_two_numbers-requires c =
    let long : let a = c.args in
    length (fault_text a.code a.at) ≡ 22 + c.decimal_len.result + c.decimal_len-2.result = let a = c.args in
    omega (arith, fault-long a.code a.at, c.decimal_len.ensures.0, c.decimal_len-2.ensures.0) in
    omega (arith, long, c.if-out-n.false)

pub returns : goal.returns
unfolding fault_text
returns c =
    let long : let a = c.args in
    length (fault_text a.code a.at) ≡ 22 + c.decimal_len.result + c.decimal_len-2.result = let a = c.args in
    omega (arith, fault-long a.code a.at, c.decimal_len.ensures.0, c.decimal_len-2.ensures.0) in
    let e = long in
    let a = c.args in
    front-whole (fault_text a.code a.at) a.out.now _ _ (omega (arith, e, c.if-out-n.false)) (omega (arith, e))
    c.put_two_numbers.ensures.1
