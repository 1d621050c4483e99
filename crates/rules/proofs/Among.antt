-- Whether a number stands among others, as the library's `contains` says it. Assumes nothing.
use Prim.Native.Nat.{ℕ}
use mathlib.Core.Path.{◌≡◌, refl}
use mathlib.Core.List.{List, [], ◌∷◌}
use native.Mathlib.Omega.{arith}
use lib.Dec.{eqb}
use Rattle.std.proofs.lemmas.Bool.Decides.{nat_tests}
use Rattle.std.specs.List.{list_any}
use Rattle.rules.specs.Table.{among}

pub any_among : (x : ℕ) (ns : List ℕ) → list_any (λ y. eqb y x) ns ≡ among x ns
unfolding among
any_among x [] = refl
any_among x (n ∷ ns) = let e = any_among x ns in grind (arith, nat_tests)
