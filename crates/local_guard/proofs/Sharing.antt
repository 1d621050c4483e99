-- What the shared profile refuses of a call, step by step as the code takes them: 1 comes before, then 19, then 5 of a write. Assumes nothing.
use Prim.Native.Nat.{ℕ, ◌≤◌, ◌<◌}
use mathlib.Core.Bool.{Bool, true, false}
use mathlib.Core.List.{List}
use mathlib.Core.Option.{Option, none, some}
use mathlib.Core.Path.{◌≡◌, ◌∙◌, ap, refl, sym}
use lib.Dec.{leb}
use lib.ListN.{length}
use borrow.Author.Tests.{le-leb, lt-leb}
use Rattle.fields.specs.Choice.{pick}
use Rattle.fields.proofs.Choice.{and_no, and_yes}
use Rattle.rules.specs.Sizes.{max_each, max_key, max_value}
use Rattle.rules.specs.Node.{Call, KeyValue, Rec, brought, find}
use Rattle.rules.specs.Party.{of_keys, own}
use Rattle.rules.specs.Profile.{brings, full_guard, guard_at, guard_of, sizes_fit}
use Rattle.rules.specs.declared.Party.{Party}
use Rattle.rules.specs.declared.Profile.TheVariants.{Shared}
use Rattle.rules.specs.declared.Refusal.TheVariants.{NodeFull, OtherParty}
use Rattle.local_guard.specs.Guarding.{guarded_by}
use Rattle.std.specs.Prelude.{Err, Result}
use Rattle.rules.specs.declared.Refusal.{Refusal}
use Rattle.rules.specs.Results.{done}

-- ---- the sizes

module _ (c : Call) (k : List ℕ) where
  pub key-too-long : max_key < length k → false ≡ sizes_fit c k
  key-too-long h = sym (and_no (leb (length k) max_key) (leb (length (brought c)) max_value) (lt-leb (length k) max_key h))

  pub by_value : length k ≤ max_key → leb (length (brought c)) max_value ≡ sizes_fit c k
  by_value h = sym (and_yes (leb (length k) max_key) (leb (length (brought c)) max_value) (le-leb (length k) max_key h))

-- ---- a write: the 17th key

module _ (mine : List ℕ → Bool) (r : KeyValue) (l : List Rec) (n : ℕ) (q : n ≡ length (of_keys mine l)) where
  pub has_room : n < max_each → (o : Option Rec) → done ≡ guarded_by (full_guard mine (some r) o l)
  has_room h none = sym (ap (λ (x : Bool). guarded_by (pick x (some NodeFull) none)) (ap (leb max_each) (sym q) ∙ lt-leb max_each n h))
  has_room h (some x) = refl

  pub there : (o : Option Rec) (x : Rec) → o ≡ some x → done ≡ guarded_by (full_guard mine (some r) o l)
  there o x e = sym (ap (λ (y : Option Rec). guarded_by (full_guard mine (some r) y l)) e)

  pub full : max_each ≤ n → (o : Option Rec) → o ≡ none → Err NodeFull ≡ guarded_by (full_guard mine (some r) o l)
  full h o e =
      sym (ap (λ (x : Bool). guarded_by (pick x (some NodeFull) none)) (ap (leb max_each) (sym q) ∙ le-leb max_each n h)) ∙ sym (ap (λ (y : Option Rec). guarded_by (full_guard mine (some r) y l)) e)

-- of the record it only matters that there is one
pub any-record : (mine : List ℕ → Bool) (r s : KeyValue) (o : Option Rec) (l : List Rec) → full_guard mine (some r) o l ≡ full_guard mine (some s) o l
any-record mine r s none l = refl
any-record mine r s (some x) l = refl

-- ---- the call

module _ (q : Party) (c : Call) (k : List ℕ) (l : List Rec) {fits : Bool} (e : fits ≡ sizes_fit c k) where
  pub too_long : fits ≡ false → done ≡ guarded_by (guard_at Shared q c k l)
  too_long f = sym (ap (λ (x : Bool). guarded_by (pick x (guard_of Shared q c k l) none)) (sym e ∙ f))

  module _ (f : fits ≡ true) {owns : Bool} (o : owns ≡ own q k) where
    within : guarded_by (pick owns (full_guard (own q) (brings c k) (find k l) l) (some OtherParty)) ≡ guarded_by (guard_at Shared q c k l)
    within =
        ap (λ (x : Bool). guarded_by (pick x (full_guard (own q) (brings c k) (find k l) l) (some OtherParty))) o
        ∙ sym (ap (λ (x : Bool). guarded_by (pick x (guard_of Shared q c k l) none)) (sym e ∙ f))

    pub others : owns ≡ false → Err OtherParty ≡ guarded_by (guard_at Shared q c k l)
    others g = sym (ap (λ (x : Bool). guarded_by (pick x (full_guard (own q) (brings c k) (find k l) l) (some OtherParty))) g) ∙ within

    pub its_own : owns ≡ true → (g : (Result (Unit {0}) Refusal)) → g ≡ guarded_by (full_guard (own q) (brings c k) (find k l) l) → g ≡ guarded_by (guard_at Shared q c k l)
    its_own h g p = p ∙ sym (ap (λ (x : Bool). guarded_by (pick x (full_guard (own q) (brings c k) (find k l) l) (some OtherParty))) h) ∙ within
