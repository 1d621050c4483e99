-- What a reading entry point answers once the check of number 14 has said what the bytes are: the rule on the table, or the refusal. Where the call also
-- fills a lent list, the same of its answer and the list. Assumes nothing.
use mathlib.Core.Path.{◌≡◌, refl, sym, ◌∙◌, subst}
use mathlib.Core.Bool.{Bool, true, false}
use mathlib.Core.List.{List}
use Prim.Native.Nat.{ℕ}
use Rattle.fields.proofs.Choice.{pick_true, pick-false}
use Rattle.rules.specs.Given.{Given, given, Gives}
use Rattle.rules.specs.Table.{Table}
use Rattle.rules.specs.Whole.{decode_whole, valid_whole}
use Rattle.rules.specs.Lent.{from_table}

-- by what the check answered
module _ {A : Type 0} (bad : A) (rule : Table → A) (l : List ℕ) {checked : Bool} (e : checked ≡ valid_whole l) where
  pub read-good : checked ≡ true → (r : A) → r ≡ rule (decode_whole l).table → r ≡ from_table bad rule l
  unfolding from_table
  read-good t r p = p ∙ sym (pick_true (valid_whole l) (rule (decode_whole l).table) bad (sym e ∙ t))

  pub read-bad : checked ≡ false → bad ≡ from_table bad rule l
  unfolding from_table
  read-bad t = sym (pick-false (valid_whole l) (rule (decode_whole l).table) bad (sym e ∙ t))

module _ {A M : Type 0} (rule : Table → Given A M) (l : List ℕ) {checked : Bool} (e : checked ≡ valid_whole l) where
  pub fill-good : (bad : Given A M) → checked ≡ true → (a : A) (m : M) → Gives (rule (decode_whole l).table) a m → Gives (from_table bad rule l) a m
  fill-good bad t a m p = subst (λ (x : Given A M). Gives x a m) (read-good bad rule l e t (rule (decode_whole l).table) refl) p

  pub fill-bad : checked ≡ false → (a : A) (m : M) → Gives (from_table (given a m) rule l) a m
  fill-bad t a m = subst (λ (x : Given A M). Gives x a m) (read-bad (given a m) rule l e t) (refl, refl)
