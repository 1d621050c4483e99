-- What is told of numbers: a table made in the mode and the profile of two numbers, an override written under the status of a number. Assumes nothing.
use Prim.Native.Nat.{ℕ}
use mathlib.Core.Path.{◌≡◌, refl, ap, ap₂, sym, ◌∙◌}
use mathlib.Core.Bool.{Bool, true, false}
use mathlib.Core.List.{List}
use lib.Dec.{eqb}
use borrow.Author.Tests.{eqb-true, eq-eqb}
use Rattle.fields.specs.Choice.{pick}
use Rattle.rules.specs.Answers.{mode_of, profile_of}
use Rattle.rules.specs.Given.{Gives, given}
use Rattle.rules.specs.Node.{Node, Setting, SettingTtl}
use Rattle.rules.specs.Table.{Entry, Table}
use Rattle.rules.specs.Delta.{status_byte}
use Rattle.rules.specs.Layout.{decode_node}
use Rattle.rules.specs.Profile.{kind}
use Rattle.rules.specs.Whole.{mode_of_byte, profile_of_byte, decode_whole, valid_whole}
use Rattle.std.specs.Prelude.{Err}
use Rattle.rules.specs.declared.Mode.{Mode}
use Rattle.rules.specs.declared.Profile.{Profile}
use Rattle.rules.specs.declared.Refusal.TheVariants.{BadTable, BadTag}
use Rattle.rules.specs.declared.Status.{Status}
use Rattle.rules.specs.declared.Status.TheVariants.{Set, Delete, Ttl}
use Rattle.nodes.specs.New.{lent_made}
use Rattle.local.specs.Wanted.{wanted_of}
use Rattle.overrides.specs.Overrides.{valid_node, on_overrides, called, written, lent_write_override}
use Rattle.overrides.specs.Both.{from_both}
use Rattle.overrides.specs.declared.Which.{Which}
use Rattle.overrides.proofs.Both.{good-both}
use Rattle.library.specs.Numbers.{made_by}

-- a test of two numbers
same_not : (x n : ℕ) → (x ≡ n → ⊥) → eqb x n ≡ false
same_not x n h = go (eqb x n) refl
  where
    go : (b : Bool) → eqb x n ≡ b → eqb x n ≡ false
    go true p = absurd (h (eqb-true x n p))
    go false p = p

module _ (n o : ℕ) (l : List ℕ) (m : Mode) (e : m ≡ mode_of_byte n) (b : ℕ) (q : b ≡ mode_of m) where
  back : b ≡ mode_of (mode_of_byte n)
  back = q ∙ ap mode_of e

  pub no_mode : (b ≡ n → ⊥) → Gives (made_by n o l) (Err BadTable) l
  unfolding made_by
  no_mode h = let t : eqb (mode_of (mode_of_byte n)) n ≡ false = same_not (mode_of (mode_of_byte n)) n (λ p. h (back ∙ p)) in (rw (made_by, t) refl, rw (made_by, t) refl)

  module _ (in-mode : b ≡ n) (p : Profile) (i : p ≡ profile_of_byte o) (c : ℕ) (f : c ≡ profile_of p) where
    back-too : c ≡ profile_of (profile_of_byte o)
    back-too = f ∙ ap profile_of i

    mode-is : eqb (mode_of (mode_of_byte n)) n ≡ true
    mode-is = eq-eqb (mode_of (mode_of_byte n)) n (sym back ∙ in-mode)

    pub no-profile : (c ≡ o → ⊥) → Gives (made_by n o l) (Err BadTable) l
    unfolding made_by
    no-profile h =
        let s = mode-is in
        let t : eqb (profile_of (profile_of_byte o)) o ≡ false = same_not (profile_of (profile_of_byte o)) o (λ y. h (back-too ∙ y)) in
        (rw (made_by, s, t) refl, rw (made_by, s, t) refl)

    pub made_in : c ≡ o → lent_made (kind m p) l ≡ made_by n o l
    unfolding made_by
    made_in h =
        let s = mode-is in
        let t : eqb (profile_of (profile_of_byte o)) o ≡ true = eq-eqb (profile_of (profile_of_byte o)) o (sym back-too ∙ h) in
        ap₂ (λ (x : Mode) (y : Profile). lent_made (kind x y) l) e i ∙ (rw (made_by, s, t) refl)

-- a number stands for its status, or is 10 too, as in a write to a table
module _ (v : List ℕ) (now : ℕ) (k : List ℕ) (n : ℕ) where
  number-written : (e : Entry) → written (status_byte (wanted_of n)) v now k e ≡ written n v now k e
  unfolding written
  number-written e = go (eqb n (status_byte Set)) refl (eqb n (status_byte Ttl)) refl
    where
      go : (x : Bool) → eqb n (status_byte Set) ≡ x → (y : Bool) → eqb n (status_byte Ttl) ≡ y → written (status_byte (pick x Set (pick y Ttl Delete))) v now k e ≡ written n v now k e
      go true p y q = ap (λ (m : ℕ). written m v now k e) (sym (eqb-true n (status_byte Set) p))
      go false p true q = ap (λ (m : ℕ). written m v now k e) (sym (eqb-true n (status_byte Ttl) q))
      go false p false q =
          sym (ap₂ (λ (x y : Bool). pick x (called (Setting v) k e) (pick y (called (SettingTtl v now) k e) (given (Err BadTag) e))) p q)

  pub number-override : (s : Status) → s ≡ wanted_of n → (b : List ℕ) → lent_write_override (status_byte s) v now k b ≡ lent_write_override n v now k b
  number-override s e b =
      ap (λ (x : Status). lent_write_override (status_byte x) v now k b) e ∙ (λ j. on_overrides (Err BadTable) (λ x. number-written x j) b)

-- overrides and a table that the checks accept
module _ (o t : List ℕ) (v : valid_node o ≡ true) (w : valid_whole t ≡ true) where
  pub good-over : {A : Type 0} (bad : Which → A) (rule : Node → Table → A) (r : A) → r ≡ rule (decode_node o).node (decode_whole t).table → r ≡ from_both bad rule o t
  good-over bad rule r p = good-both bad rule o t (sym v) refl (sym w) refl r p
