-- `fields::times` meets its contract: the product of two numbers of 16 bits has 32. Assumes nothing.
use Prim.Native.Nat.{ℕ, ◌*◌, ◌<◌}
use native.Mathlib.Omega.{arith}
use native.Mathlib.Nat.{mul-le-mul_left, le_of_lt}
use Rattle.fields.proofs.times.Goals as goal

product : (n w : ℕ) → n < 65536 → w < 65536 → n * w < 4294967296
product n w h g = omega (arith, mul-le-mul_left n (le_of_lt g))

pub overflow_mul-result : goal.overflow_mul-result
overflow_mul-result c =
    omega (arith, product c.args.n c.args.width c.requires.0 c.requires.1)

pub overflow_cast-result-3 : goal.overflow_cast-result-3
overflow_cast-result-3 c =
    omega (arith, product c.args.n c.args.width c.requires.0 c.requires.1)
