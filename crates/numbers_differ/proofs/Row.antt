-- Numbers in a row. Assumes nothing.
use Prim.Native.Nat.{ℕ, suc, ◌+◌, ◌-◌, ◌≤◌, ◌<◌}
use mathlib.Core.Path.{◌≡◌}
use mathlib.Core.List.{List, ◌∷◌}
use native.Mathlib.Omega.{arith}
use native.Mathlib.Numerals.{add-one}
use lib.ListN.{length, get_or, take, drop}
use lib.Seq.{drop-cons}

-- the numbers from i on
pub rest-next : (vs : List ℕ) (i n : ℕ) → i < n → n ≤ length vs → take (n - i) (drop i vs) ≡ get_or vs i 0 ∷ take (n - (i + 1)) (drop (i + 1) vs)
rest-next vs i n h g =
    let p : n - i ≡ suc (n - (i + 1)) = omega arith in
    rw (p, add-one i, drop-cons vs i 0 (omega arith))
