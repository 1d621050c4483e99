-- `delta_follow::is_seen` meets its contract: the first numbers, from the front and from the newest back, hold the same. Assumes nothing.
use Prim.Native.Nat.{ℕ, zero, suc, ◌+◌, ◌≤◌}
use mathlib.Core.Path.{◌≡◌, ◌∙◌, refl, ap}
use mathlib.Core.Bool.{Bool, true, false, ◌||◌}
use mathlib.Core.List.{List}
use native.Mathlib.Omega.{arith}
use lib.Dec.{eqb}
use lib.ListN.{get_or, length, take}
use Rattle.std.proofs.lemmas.Bool.Decides.{nat_tests}
use Rattle.std.proofs.lemmas.List.Folds.{list_any_more}
use Rattle.std.specs.List.{list_any}
use Rattle.fields.specs.Choice.{pick}
use Rattle.rules.specs.Table.{among}
use Rattle.delta_follow.specs.Following.{seen_of}
use Rattle.delta_follow.proofs.is_seen.Goals as goal

later : (x y : ℕ) (b : Bool) → (b || eqb y x) ≡ pick (eqb x y) true b
later x y true = grind (arith, nat_tests)
later x y false = grind (arith, nat_tests)

any-seen : (n x : ℕ) (a : List ℕ) → n ≤ length a → list_any (λ y. eqb y x) (take n a) ≡ among x (seen_of n a)
unfolding among seen_of
any-seen zero x a h = refl
any-seen (suc n) x a h =
    let up : suc n ≡ n + 1 = omega arith in
    ap (λ k. list_any (λ y. eqb y x) (take k a)) up ∙ list_any_more (λ y. eqb y x) a n 0 (omega (arith, h)) ∙ ap (λ b. b || eqb (get_or a n 0) x) (any-seen n x a (omega (arith, h))) ∙ later x (get_or a n 0) _

pub returns : goal.returns
returns c =
    c.contains.ensures.value ∙ any-seen _ _ _ (omega (arith, c.requires, c.told-seen))
