-- Tests that are gathered in the bits of one byte: `|` is zero where both are, and `^` where both are the same. Assumes nothing.
use Prim.Native.Nat.{ℕ}
use mathlib.Core.Path.{◌≡◌, sym, ap, ◌∙◌}
use mathlib.Core.Bool.{◌&&◌}
use native.Mathlib.Omega.{arith}
use lib.Bits.{bit_or, bit_xor, and_le_l, and_le_r, or_add_and, xor_add_and, xor_self}
use lib.Dec.{eqb}
use borrow.Author.Tests.{eqb-true, eq-eqb}
use Rattle.fields.proofs.Choice.{and_left, and_right, and_intro, same_test}

pub or-none : (a b : ℕ) → eqb (bit_or a b) 0 ≡ (eqb a 0 && eqb b 0)
or-none a b =
    same_test (eqb (bit_or a b) 0) (eqb a 0 && eqb b 0)
    (λ e. let z = eqb-true (bit_or a b) 0 e in
    and_intro (eqb a 0) (eqb b 0) (eq-eqb a 0 (omega (arith, or_add_and a b, and_le_r a b))) (eq-eqb b 0 (omega (arith, or_add_and a b, and_le_l a b))))
    (λ e. let p = eqb-true a 0 (and_left (eqb a 0) (eqb b 0) e) in
    let q = eqb-true b 0 (and_right (eqb a 0) (eqb b 0) e) in
    eq-eqb (bit_or a b) 0 (omega (arith, or_add_and a b)))

pub xor-none : (a b : ℕ) → eqb (bit_xor a b) 0 ≡ eqb a b
xor-none a b =
    same_test (eqb (bit_xor a b) 0) (eqb a b)
    (λ e. let z = eqb-true (bit_xor a b) 0 e in
    eq-eqb a b (omega (arith, xor_add_and a b, and_le_l a b, and_le_r a b)))
    (λ e. let p = eqb-true a b e in
    eq-eqb (bit_xor a b) 0 (ap (bit_xor a) (sym p) ∙ xor_self a))
