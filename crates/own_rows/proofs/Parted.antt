-- In a node of a shared table the records of the building manager stand before those of the metering firm: the keys rise, every key is of one of the two,
-- and `b/` comes before `m/`. So the records are those of the one and then those of the other (`parted`). Assumes nothing.
use Prim.Native.Nat.{ℕ}
use mathlib.Core.Path.{◌≡◌, refl, ap, ap₂, sym, ◌∙◌}
use mathlib.Core.Bool.{Bool, true, false}
use mathlib.Core.List.{List, [], ◌∷◌, ◌++◌}
use native.Mathlib.Omega.{arith}
use borrow.Author.Tests.{eqb-true}
use lib.Dec.{eqb}
use Rattle.fields.specs.Choice.{pick, keep, all, ◌∈◌, here, later}
use Rattle.fields.specs.Order.{less_bytes, starts_with}
use Rattle.fields.proofs.Choice.{and_left, and_right, all_from}
use Rattle.fields.proofs.Ordered.{less_other, less-not}
use Rattle.rules.specs.Node.{Rec}
use Rattle.rules.specs.Table.{keys_rise}
use Rattle.rules.specs.Party.{own, someones, of_keys}
use Rattle.rules.specs.Profile.{in_form, recs_formed}
use Rattle.rules.specs.declared.Profile.TheVariants.{Shared}
use Rattle.rules.specs.declared.Party.TheVariants.{Metering, Building}
use Rattle.rules.proofs.Records.{Above, Sorted}
use Rattle.rules.proofs.Obeys.{keys-sorted}

pub false-true : {X : Type 0} → false ≡ true → X
false-true e = let z : ◌≡◌ {A = ℕ} 0 1 = cc in absurd (omega arith)

-- ---- those that pass a test: none of them, all of them

pub keep-none : {A : Type 0} (p : A → Bool) (l : List A) → ((x : A) → x ∈ l → p x ≡ false) → keep p l ≡ []
unfolding keep
keep-none p [] h = refl
keep-none p (a ∷ l) h = rw (h a (here refl)) (keep-none p l (λ x m. h x (later m)))

pub keep_all : {A : Type 0} (p : A → Bool) (l : List A) → ((x : A) → x ∈ l → p x ≡ true) → keep p l ≡ l
unfolding keep
keep_all {A} p [] h = refl
keep_all {A} p (a ∷ l) h = rw (h a (here refl)) (ap (λ (r : List A). a ∷ r) (keep_all p l (λ x m. h x (later m))))

-- ---- keys

-- a key that begins with a string begins with its first byte
pub record Begins (a : ℕ) (k : List ℕ) : Type 0 where
  pub rest : List ℕ
  pub is : k ≡ a ∷ rest

pub begins : (a : ℕ) (j k : List ℕ) → starts_with (a ∷ j) k ≡ true → Begins a k
unfolding starts_with
begins a j [] e = false-true e
begins a j (b ∷ k) e = go (eqb a b) refl e
  where
    go : (t : Bool) → eqb a b ≡ t → pick t (starts_with j k) false ≡ true → Begins a (b ∷ k)
    go true q e = record { rest = k; is = ap (λ (x : ℕ). x ∷ k) (sym (eqb-true a b q)) }
    go false q e = false-true e

pub building-less : (j k : List ℕ) → own Building j ≡ true → own Metering k ≡ true → less_bytes j k ≡ true
unfolding less_bytes
building-less j k b m =
    let x = begins 98 (47 ∷ []) j b in
    let y = begins 109 (47 ∷ []) k m in
    ap₂ less_bytes x.is y.is

-- no key is of both
pub metering-not-building : (k : List ℕ) → own Metering k ≡ true → own Building k ≡ false
metering-not-building k m = go (own Building k) refl
  where
    go : (t : Bool) → own Building k ≡ t → t ≡ false
    go true b = absurd (less_other k k (building-less k k b m) refl)
    go false b = refl

-- what comes behind a key of the metering firm is the metering firm's
behind-metering : (j k : List ℕ) → own Metering j ≡ true → less_bytes j k ≡ true → someones k ≡ true → own Metering k ≡ true
behind-metering j k m h s = go (own Metering k) (own Building k) refl s
  where
    go : (t u : Bool) → own Building k ≡ u → pick t true u ≡ true → t ≡ true
    go true u b s = refl
    go false true b s = false-true (sym (less-not k j (building-less k j b m)) ∙ h)
    go false false b s = s

-- ---- records

module _ (l : List Rec) (m : (x : Rec) → x ∈ l → own Metering x.kv.key ≡ true) where
  all-metering : of_keys (own Metering) l ≡ l
  all-metering = keep_all (λ (r : Rec). own Metering r.kv.key) l m

  no-building : of_keys (own Building) l ≡ []
  no-building = keep-none (λ (r : Rec). own Building r.kv.key) l (λ x i. metering-not-building x.kv.key (m x i))

sorted-parted : (l : List Rec) → Sorted l → recs_formed Shared l ≡ true → l ≡ of_keys (own Building) l ++ of_keys (own Metering) l
unfolding keep all Sorted Above
sorted-parted [] s f = refl
sorted-parted (a ∷ l) s f = go (own Metering a.kv.key) (own Building a.kv.key) refl refl (sorted-parted l s.1 rest)
  where
    first : someones a.kv.key ≡ true
    first = and_left (in_form Shared a.kv) (recs_formed Shared l) f

    rest : recs_formed Shared l ≡ true
    rest = and_right (in_form Shared a.kv) (recs_formed Shared l) f

    b : List Rec
    b = of_keys (own Building) l

    c : List Rec
    c = of_keys (own Metering) l

    behind : own Metering a.kv.key ≡ true → (x : Rec) → x ∈ l → own Metering x.kv.key ≡ true
    behind q x i =
        behind-metering a.kv.key x.kv.key q (s.0 x i) (all_from (λ (r : Rec). in_form Shared r.kv) l rest x i)

    go : (t u : Bool) → own Metering a.kv.key ≡ t → own Building a.kv.key ≡ u → l ≡ b ++ c → a ∷ l ≡ pick u (a ∷ b) b ++ pick t (a ∷ c) c
    go true true q p ih = false-true (sym (metering-not-building a.kv.key q) ∙ p)
    go true false q p ih =
        sym (ap₂ (λ (x y : List Rec). x ++ a ∷ y) (no-building l (behind q)) (all-metering l (behind q)))
    go false true q p ih = ap (λ (x : List Rec). a ∷ x) ih
    go false false q p ih = false-true (ap₂ (λ (x y : Bool). pick x true y) (sym q) (sym p) ∙ first)

-- of rising keys
pub parted : (l : List Rec) → keys_rise l ≡ true → recs_formed Shared l ≡ true → l ≡ of_keys (own Building) l ++ of_keys (own Metering) l
parted l s f = sorted-parted l (keys-sorted l s) f
