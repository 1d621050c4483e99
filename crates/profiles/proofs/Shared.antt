-- A local call that the guard of a shared table lets through keeps the rules of the shared profile: the key is of one of the two parties, and neither has over 16
-- records. Assumes nothing.
use Prim.Native.Nat.{ℕ}
use mathlib.Core.Bool.{Bool, true, false, false≢true}
use mathlib.Core.List.{List, [], ◌∷◌}
use mathlib.Core.Option.{Option, none, some}
use mathlib.Core.Path.{◌≡◌, refl, ap, sym, ◌∙◌}
use native.Mathlib.Omega.{arith}
use lib.Dec.{eqb, leb}
use lib.ListN.{length}
use borrow.Author.Tests.{le-leb, leb-false, eqb-true}
use Rattle.fields.specs.Choice.{pick}
use Rattle.fields.specs.Order.{starts_with}
use Rattle.fields.proofs.Choice.{and_intro, and_left, and_right}
use Rattle.rules.specs.Sizes.{max_each}
use Rattle.rules.specs.Node.{KeyValue, Rec, Call, Setting, SettingTtl, Deleting, DeletingAfterTtl, Change, Give, Refuse, find, store, wish}
use Rattle.rules.specs.Party.{own, of_keys, roomy_each}
use Rattle.rules.specs.Profile.{brings, full_guard, in_form, party_guard}
use Rattle.rules.specs.declared.Profile.TheVariants.{Shared}
use Rattle.rules.specs.declared.Party.{Party}
use Rattle.rules.specs.declared.Party.TheVariants.{Metering, Building, Nobody}
use Rattle.rules.specs.declared.Refusal.{Refusal}
use Rattle.rules.specs.declared.Refusal.TheVariants.{NodeFull, OtherParty}
use Rattle.rules.proofs.Records.{Sorted, key_of}
use Rattle.profiles.proofs.Counts.{count_held, count-other, count-stored}

-- no key is of both
pub not-both : (k : List ℕ) → own Metering k ≡ true → own Building k ≡ false
unfolding starts_with
not-both [] e = absurd (false≢true e)
not-both (a ∷ k) e = go (eqb 109 a) refl e
  where
    other : (b : Bool) → eqb 98 a ≡ b → 109 ≡ a → pick b (starts_with (47 ∷ []) k) false ≡ false
    other true q s = let z = eqb-true 98 a q in absurd (omega (arith, z, s))
    other false q s = refl

    go : (b : Bool) → eqb 109 a ≡ b → pick b (starts_with (47 ∷ []) k) false ≡ true → pick (eqb 98 a) (starts_with (47 ∷ []) k) false ≡ false
    go true q e = other (eqb 98 a) refl (eqb-true 109 a q)
    go false q e = absurd (false≢true e)

not-metering : (k : List ℕ) → own Building k ≡ true → own Metering k ≡ false
not-metering k e = go (own Metering k) refl
  where
    go : (b : Bool) → own Metering k ≡ b → b ≡ false
    go true q = absurd (false≢true (sym (not-both k q) ∙ e))
    go false q = refl

some-none : {A : Type 0} (r : Refusal) → some r ≡ none → A
some-none r e = let z : ◌≡◌ {A = ℕ} 0 1 = cc in absurd (omega arith)

refuse-give : {A : Type 0} (r : Refusal) (c : Change) → Refuse r ≡ Give c → A
refuse-give r c e = let z : ◌≡◌ {A = ℕ} 0 1 = cc in absurd (omega arith)

-- an own key is in form
pub own-formed : (q : Party) (r : KeyValue) → own q r.key ≡ true → in_form Shared r ≡ true
own-formed Metering r m = rw m
own-formed Building r m = go (own Metering r.key) m
  where
    go : (b : Bool) → own Building r.key ≡ true → pick b true (own Building r.key) ≡ true
    go true e = refl
    go false e = e
own-formed Nobody r m = absurd (false≢true m)

-- what the guard lets through: an own key, and room for it where it is new
module _ (k : List ℕ) (l : List Rec) (ch : Change) where
  abbrev Free-for : Party → Type 0
  Free-for q = find k l ≡ none → leb max_each (length (of_keys (own q) l)) ≡ false

  pub passes : (q : Party) (c : Call) → wish c (find k l) ≡ Give ch → party_guard (own q) k (brings c k) (find k l) l ≡ none → (own q k ≡ true) × Free-for q
  unfolding wish
  passes q c w g = go (own q k) refl g
    where
      free : (b : Bool) → pick b (some NodeFull) none ≡ none → b ≡ false
      free true e = some-none NodeFull e
      free false e = refl

      new-key : (c : Call) → wish c none ≡ Give ch → full_guard (own q) (brings c k) none l ≡ none → leb max_each (length (of_keys (own q) l)) ≡ false
      new-key (Setting v) w g = free _ g
      new-key (SettingTtl v now) w g = free _ g
      new-key (Deleting now) w g = refuse-give _ ch w
      new-key (DeletingAfterTtl now) w g = refuse-give _ ch w

      go : (b : Bool) → own q k ≡ b → pick b (full_guard (own q) (brings c k) (find k l) l) (some OtherParty) ≡ none → (own q k ≡ true) × Free-for q
      go true m g = (m, λ e. new-key c (sym (ap (wish c) e) ∙ w) (sym (ap (λ (o : Option Rec). full_guard (own q) (brings c k) o l) e) ∙ g))
      go false m g = some-none OtherParty g

-- neither has over 16 when the record is stored
module _ (r : Rec) (l : List Rec) (sorted : Sorted l) where
  abbrev few : Party → List Rec → Bool
  few q x = leb (length (of_keys (own q) x)) max_each

  own-few : (q : Party) → few q l ≡ true → (find (key_of r) l ≡ none → leb max_each (length (of_keys (own q) l)) ≡ false) → few q (store r l) ≡ true
  own-few q h g = go (find (key_of r) l) refl
    where
      go : (o : Option Rec) → find (key_of r) l ≡ o → few q (store r l) ≡ true
      go none e =
          let a = leb-false max_each (length (of_keys (own q) l)) (g e) in
          let b = count-stored (own q) r l in
          le-leb (length (of_keys (own q) (store r l))) max_each (omega arith)
      go (some x) e = ap (λ (n : ℕ). leb n max_each) (count_held (own q) r l {x = x} sorted e) ∙ h

  other-few : (q : Party) → own q (key_of r) ≡ false → few q l ≡ true → few q (store r l) ≡ true
  other-few q m h = ap (λ (n : ℕ). leb n max_each) (count-other (own q) r l m) ∙ h

  pub stored-few : (q : Party) → own q (key_of r) ≡ true → roomy_each l ≡ true → (find (key_of r) l ≡ none → leb max_each (length (of_keys (own q) l)) ≡ false) → roomy_each (store r l) ≡ true
  stored-few Metering m h g =
      and_intro (few Metering (store r l)) (few Building (store r l)) (own-few Metering (and_left (few Metering l) (few Building l) h) g)
      (other-few Building (not-both (key_of r) m) (and_right (few Metering l) (few Building l) h))
  stored-few Building m h g =
      and_intro (few Metering (store r l)) (few Building (store r l)) (other-few Metering (not-metering (key_of r) m) (and_left (few Metering l) (few Building l) h))
      (own-few Building (and_right (few Metering l) (few Building l) h) g)
  stored-few Nobody m h g = absurd (false≢true m)
