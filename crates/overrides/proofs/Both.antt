-- What a call on overrides and a table answers once both checks have said what the bytes are. Assumes nothing.
use Prim.Native.Nat.{ℕ}
use mathlib.Core.Path.{◌≡◌, refl, sym, ◌∙◌, subst}
use mathlib.Core.Bool.{Bool, true, false}
use mathlib.Core.List.{List}
use native.Mathlib.Omega.{arith}
use Rattle.fields.proofs.Choice.{pick_true, pick-false}
use Rattle.rules.specs.Given.{Given, Gives}
use Rattle.rules.specs.Node.{Node}
use Rattle.rules.specs.Table.{Table}
use Rattle.rules.specs.Lent.{from_table}
use Rattle.rules.specs.Layout.{decode_node}
use Rattle.rules.specs.Whole.{decode_whole, valid_whole}
use Rattle.table_read.proofs.Entry.{read-good, read-bad}
use Rattle.overrides.specs.Overrides.{valid_node}
use Rattle.overrides.specs.Both.{which_code, from_both}
use Rattle.overrides.specs.declared.Which.{Which}
use Rattle.overrides.specs.declared.Which.TheVariants as which

-- the number tells it
pub same-which : (a b : Which) → which_code a ≡ which_code b → a ≡ b
same-which which.Neither which.Neither e = refl
same-which which.Neither which.Overrides e = absurd (omega arith)
same-which which.Neither which.Table e = absurd (omega arith)
same-which which.Overrides which.Neither e = absurd (omega arith)
same-which which.Overrides which.Overrides e = refl
same-which which.Overrides which.Table e = absurd (omega arith)
same-which which.Table which.Neither e = absurd (omega arith)
same-which which.Table which.Overrides e = absurd (omega arith)
same-which which.Table which.Table e = refl

module _ {A : Type 0} (bad : Which → A) (rule : Node → Table → A) (o t : List ℕ) {first : Bool} (e : first ≡ valid_node o) where
  pub bad-over : first ≡ false → bad which.Overrides ≡ from_both bad rule o t
  unfolding from_both
  bad-over h = sym (pick-false (valid_node o) (from_table (bad which.Table) (rule (decode_node o).node) t) (bad which.Overrides) (sym e ∙ h))

  good-over : first ≡ true → from_table (bad which.Table) (rule (decode_node o).node) t ≡ from_both bad rule o t
  unfolding from_both
  good-over h = sym (pick_true (valid_node o) (from_table (bad which.Table) (rule (decode_node o).node) t) (bad which.Overrides) (sym e ∙ h))

  module _ (h : first ≡ true) {second : Bool} (f : second ≡ valid_whole t) where
    pub bad-under : second ≡ false → bad which.Table ≡ from_both bad rule o t
    bad-under g = read-bad (bad which.Table) (rule (decode_node o).node) t f g ∙ good-over h

    pub good-both : second ≡ true → (r : A) → r ≡ rule (decode_node o).node (decode_whole t).table → r ≡ from_both bad rule o t
    good-both g r p = read-good (bad which.Table) (rule (decode_node o).node) t f g r p ∙ good-over h

-- the same of a call that fills a lent list
module _ {A M : Type 0} (bad : Which → Given A M) (rule : Node → Table → Given A M) (o t : List ℕ) {first : Bool} (e : first ≡ valid_node o) where
  pub bad-over-fills : first ≡ false → Gives (from_both bad rule o t) (bad which.Overrides).answer (bad which.Overrides).lent
  bad-over-fills h = subst (λ (x : Given A M). Gives x (bad which.Overrides).answer (bad which.Overrides).lent) (bad-over bad rule o t e h) (refl, refl)

  module _ (h : first ≡ true) {second : Bool} (f : second ≡ valid_whole t) where
    pub bad-under-fills : second ≡ false → Gives (from_both bad rule o t) (bad which.Table).answer (bad which.Table).lent
    bad-under-fills g = subst (λ (x : Given A M). Gives x (bad which.Table).answer (bad which.Table).lent) (bad-under bad rule o t e h f g) (refl, refl)

    pub good-both-fills : second ≡ true → (a : A) (m : M) → Gives (rule (decode_node o).node (decode_whole t).table) a m → Gives (from_both bad rule o t) a m
    good-both-fills g a m p = subst (λ (x : Given A M). Gives x a m) (good-both bad rule o t e h f g (rule (decode_node o).node (decode_whole t).table) refl) p
