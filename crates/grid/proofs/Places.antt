-- The place of a number among the columns: one that is there, one that is not, and where one belongs. Assumes nothing.
use Prim.Native.Nat.{ℕ, suc, ◌≤◌, ◌<◌}
use mathlib.Core.Bool.{Bool, true, false, false≢true}
use mathlib.Core.List.{List, [], ◌∷◌}
use mathlib.Core.Path.{◌≡◌, refl}
use native.Mathlib.Omega.{arith}
use lib.Dec.{eqb, ltb}
use lib.ListN.{length}
use Rattle.fields.specs.Choice.{pick}
use Rattle.rules.specs.Table.{among}
use Rattle.grid.specs.Grid.{place_for, place_of}

pub place-fits : (i : ℕ) (ns : List ℕ) → place_for i ns ≤ length ns
unfolding place_for
place-fits i [] = omega arith
place-fits i (n ∷ ns) = by (ltb n i) (place-fits i ns)
  where
    by : (t : Bool) → place_for i ns ≤ length ns → pick t (suc (place_for i ns)) 0 ≤ suc (length ns)
    by true h = omega arith
    by false h = omega arith

pub place-there : (i : ℕ) (ns : List ℕ) → place_of i ns < length ns → among i ns ≡ true
unfolding place_of among
place-there i [] h = absurd (omega arith)
place-there i (n ∷ ns) h = by (eqb i n) h (place-there i ns)
  where
    by : (t : Bool) → pick t 0 (suc (place_of i ns)) < suc (length ns) → (place_of i ns < length ns → among i ns ≡ true) → pick t true (among i ns) ≡ true
    by true g f = refl
    by false g f = f (omega arith)

pub place-missing : (i : ℕ) (ns : List ℕ) → length ns ≤ place_of i ns → among i ns ≡ false
unfolding place_of among
place-missing i [] h = refl
place-missing i (n ∷ ns) h = by (eqb i n) h (place-missing i ns)
  where
    by : (t : Bool) → suc (length ns) ≤ pick t 0 (suc (place_of i ns)) → (length ns ≤ place_of i ns → among i ns ≡ false) → pick t true (among i ns) ≡ false
    by true g f = absurd (omega arith)
    by false g f = f (omega arith)

pub place_found : (i : ℕ) (ns : List ℕ) → among i ns ≡ true → place_of i ns < length ns
unfolding place_of among
place_found i [] e = absurd (false≢true e)
place_found i (n ∷ ns) e = by (eqb i n) e (place_found i ns)
  where
    by : (t : Bool) → pick t true (among i ns) ≡ true → (among i ns ≡ true → place_of i ns < length ns) → pick t 0 (suc (place_of i ns)) < suc (length ns)
    by true g f = omega arith
    by false g f = let h = f g in omega arith
