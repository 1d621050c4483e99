-- Laying hits over hits: what comes first of two sides whose keys rise, what stands in the outcome, how many there are, and that keys rise in it. Assumes nothing.
use Prim.Native.Nat.{ℕ, suc, ◌+◌, ◌≤◌, zero-le}
use mathlib.Core.Path.{◌≡◌, refl, ap, sym, ◌∙◌, subst}
use mathlib.Core.Bool.{Bool, true, false}
use mathlib.Core.List.{List, [], ◌∷◌}
use mathlib.Core.Logic.{◌⊎◌, inl, inr}
use native.Mathlib.Omega.{arith}
use lib.ListN.{length}
use Rattle.fields.specs.Choice.{pick, ◌∈◌, here, later}
use Rattle.fields.specs.Order.{same_bytes, less_bytes}
use Rattle.fields.proofs.Choice.{in-none, in-cons, pick_true, pick-false}
use Rattle.fields.proofs.Ordered.{same_true, eq-same, less-same, less-not, less-total, less-trans}
use Rattle.rules.specs.Node.{Rec}
use Rattle.rules.proofs.Records.{Above, Sorted, key_of}
use Rattle.over_list.specs.Merged.{Hit, hit, key_of_hit, hits_by, lay_over, overlaid, recs_of}

-- every key of the hits comes after k
unfoldable pub AllAbove : List ℕ → List Hit → Type 0
AllAbove k l = (h : Hit) → h ∈ l → less_bytes k (key_of_hit h) ≡ true

pub none_above : (k : List ℕ) → AllAbove k []
unfolding AllAbove
none_above k h m = absurd (in-none m)

-- ---- the hits of records that pass a test

-- they come after k where the records do
pub hits-above : (f : Rec → Bool) (k : List ℕ) (i : ℕ) (l : List Rec) → Above k l → AllAbove k (hits_by f i l)
unfolding AllAbove hits_by Above
hits-above f k i [] a h m = absurd (in-none m)
hits-above f k i (r ∷ l) a h m = go (f r) m (hits-above f k (suc i) l (λ x u. a x (later u)) h)
  where
    first : (h ≡ hit i r) ⊎ (h ∈ hits_by f (suc i) l) → (h ∈ hits_by f (suc i) l → less_bytes k (key_of_hit h) ≡ true) → less_bytes k (key_of_hit h) ≡ true
    first (inl e) rest = ap (λ (x : Hit). less_bytes k (key_of_hit x)) e ∙ a r (here refl)
    first (inr n) rest = rest n

    go : (t : Bool) → h ∈ pick t (hit i r ∷ hits_by f (suc i) l) (hits_by f (suc i) l) → (h ∈ hits_by f (suc i) l → less_bytes k (key_of_hit h) ≡ true)
        → less_bytes k (key_of_hit h) ≡ true
    go true n rest = first (in-cons n) rest
    go false n rest = rest n

-- no more than there are records
pub hits_few : (f : Rec → Bool) (i : ℕ) (l : List Rec) → length (hits_by f i l) ≤ length l
unfolding hits_by
hits_few f i [] = zero-le
hits_few f i (r ∷ l) = go (f r) (hits_few f (suc i) l)
  where
    go : (t : Bool) → length (hits_by f (suc i) l) ≤ length l → length (pick t (hit i r ∷ hits_by f (suc i) l) (hits_by f (suc i) l)) ≤ suc (length l)
    go true ih = omega arith
    go false ih = omega arith

-- ---- one hit

module _ (h : Hit) where
  -- where all come after it
  pub lay-first : (l : List Hit) → AllAbove (key_of_hit h) l → lay_over h l ≡ h ∷ l
  unfolding lay_over AllAbove
  lay-first [] a = refl
  lay-first (x ∷ l) a =
      let less : less_bytes (key_of_hit h) (key_of_hit x) ≡ true = a x (here refl) in
      pick-false (same_bytes (key_of_hit h) (key_of_hit x)) (h ∷ l) _ (less-same (key_of_hit h) (key_of_hit x) less)
      ∙ pick_true (less_bytes (key_of_hit h) (key_of_hit x)) (h ∷ x ∷ l) (x ∷ lay_over h l) less

  -- over one of its key
  pub lay-same : (x : Hit) (l : List Hit) → key_of_hit h ≡ key_of_hit x → lay_over h (x ∷ l) ≡ h ∷ l
  unfolding lay_over
  lay-same x l e = pick_true (same_bytes (key_of_hit h) (key_of_hit x)) (h ∷ l) _ (eq-same (key_of_hit h) (key_of_hit x) e)

  -- behind one that it comes after
  pub lay-behind : (x : Hit) (l : List Hit) → less_bytes (key_of_hit x) (key_of_hit h) ≡ true → lay_over h (x ∷ l) ≡ x ∷ lay_over h l
  unfolding lay_over
  lay-behind x l less =
      let other : same_bytes (key_of_hit h) (key_of_hit x) ≡ false = differ (same_bytes (key_of_hit h) (key_of_hit x)) refl in
      pick-false (same_bytes (key_of_hit h) (key_of_hit x)) (h ∷ l) _ other
      ∙ pick-false (less_bytes (key_of_hit h) (key_of_hit x)) (h ∷ x ∷ l) (x ∷ lay_over h l) (less-not (key_of_hit x) (key_of_hit h) less)
    where
      differ : (t : Bool) → same_bytes (key_of_hit h) (key_of_hit x) ≡ t → t ≡ false
      differ true q = sym (eq-same (key_of_hit x) (key_of_hit h) (sym (same_true (key_of_hit h) (key_of_hit x) q))) ∙ less-same (key_of_hit x) (key_of_hit h) less
      differ false q = refl

  -- what stands there is the hit, or an old one
  lay-from : (l : List Hit) {x : Hit} → x ∈ lay_over h l → (x ≡ h) ⊎ (x ∈ l)
  unfolding lay_over
  lay-from [] m = in-cons m
  lay-from (a ∷ l) {x} m = go (same_bytes (key_of_hit h) (key_of_hit a)) (less_bytes (key_of_hit h) (key_of_hit a)) m (lay-from l)
    where
      skip : (x ≡ h) ⊎ (x ∈ l) → (x ≡ h) ⊎ (x ∈ a ∷ l)
      skip (inl e) = inl e
      skip (inr n) = inr (later n)

      behind : (x ≡ a) ⊎ (x ∈ lay_over h l) → (x ∈ lay_over h l → (x ≡ h) ⊎ (x ∈ l)) → (x ≡ h) ⊎ (x ∈ a ∷ l)
      behind (inl e) ih = inr (here e)
      behind (inr n) ih = skip (ih n)

      go : (s t : Bool) → x ∈ pick s (h ∷ l) (pick t (h ∷ a ∷ l) (a ∷ lay_over h l)) → (x ∈ lay_over h l → (x ≡ h) ⊎ (x ∈ l)) → (x ≡ h) ⊎ (x ∈ a ∷ l)
      go true t n ih = skip (in-cons n)
      go false true n ih = in-cons n
      go false false n ih = behind (in-cons n) ih

  pub lay-above : (k : List ℕ) (l : List Hit) → less_bytes k (key_of_hit h) ≡ true → AllAbove k l → AllAbove k (lay_over h l)
  unfolding AllAbove
  lay-above k l less a x m = go (lay-from l m)
    where
      go : (x ≡ h) ⊎ (x ∈ l) → less_bytes k (key_of_hit x) ≡ true
      go (inl e) = ap (λ (y : Hit). less_bytes k (key_of_hit y)) e ∙ less
      go (inr n) = a x n

  lay-few : (l : List Hit) → length (lay_over h l) ≤ suc (length l)
  unfolding lay_over
  lay-few [] = omega arith
  lay-few (a ∷ l) = go (same_bytes (key_of_hit h) (key_of_hit a)) (less_bytes (key_of_hit h) (key_of_hit a)) (lay-few l)
    where
      go : (s t : Bool) → length (lay_over h l) ≤ suc (length l) → length (pick s (h ∷ l) (pick t (h ∷ a ∷ l) (a ∷ lay_over h l))) ≤ suc (suc (length l))
      go true t ih = omega arith
      go false true ih = omega arith
      go false false ih = omega arith

-- ---- all of them

pub overlaid-above : (k : List ℕ) (os ns : List Hit) → AllAbove k os → AllAbove k ns → AllAbove k (overlaid os ns)
unfolding overlaid AllAbove
overlaid-above k [] ns a b = b
overlaid-above k (o ∷ os) ns a b = lay-above o k (overlaid os ns) (a o (here refl)) (overlaid-above k os ns (λ h m. a h (later m)) b)

pub overlaid-few : (os ns : List Hit) → length (overlaid os ns) ≤ length os + length ns
unfolding overlaid
overlaid-few [] ns = omega arith
overlaid-few (o ∷ os) ns = omega (arith, lay-few o (overlaid os ns), overlaid-few os ns)

-- the override comes first
pub over_first : (o : Hit) (os ns : List Hit) → AllAbove (key_of_hit o) os → AllAbove (key_of_hit o) ns → overlaid (o ∷ os) ns ≡ o ∷ overlaid os ns
unfolding overlaid
over_first o os ns a b = lay-first o (overlaid os ns) (overlaid-above (key_of_hit o) os ns a b)

-- the node's comes first
pub node-first : (n : Hit) (os ns : List Hit) → AllAbove (key_of_hit n) os → overlaid os (n ∷ ns) ≡ n ∷ overlaid os ns
unfolding overlaid AllAbove
node-first n [] ns a = refl
node-first n (o ∷ os) ns a = ap (lay_over o) (node-first n os ns (λ h m. a h (later m))) ∙ lay-behind o n (overlaid os ns) (a o (here refl))

-- both have the key
pub both_first : (o n : Hit) (os ns : List Hit) → key_of_hit o ≡ key_of_hit n → AllAbove (key_of_hit o) os → overlaid (o ∷ os) (n ∷ ns) ≡ o ∷ overlaid os ns
unfolding overlaid
both_first o n os ns e a = ap (lay_over o) (node-first n os ns (subst (λ (k : List ℕ). AllAbove k os) e a)) ∙ lay-same o n (overlaid os ns) e

-- ---- keys rise

-- each key below all behind it
unfoldable pub Rises : List Hit → Type 0
Rises [] = Unit {0}
Rises (h ∷ l) = AllAbove (key_of_hit h) l × Rises l

pub hits-rise : (f : Rec → Bool) (i : ℕ) (l : List Rec) → Sorted l → Rises (hits_by f i l)
unfolding Rises hits_by Sorted
hits-rise f i [] s = tt
hits-rise f i (r ∷ l) s = go (f r) (hits-rise f (suc i) l s.1)
  where
    go : (t : Bool) → Rises (hits_by f (suc i) l) → Rises (pick t (hit i r ∷ hits_by f (suc i) l) (hits_by f (suc i) l))
    go true ih = (hits-above f (key_of r) (suc i) l s.0, ih)
    go false ih = ih

lay-rise : (h : Hit) (l : List Hit) → Rises l → Rises (lay_over h l)
unfolding Rises lay_over AllAbove
lay-rise h [] s = (none_above (key_of_hit h), tt)
lay-rise h (a ∷ l) s = go (same_bytes (key_of_hit h) (key_of_hit a)) refl (less_bytes (key_of_hit h) (key_of_hit a)) refl (lay-rise h l s.1)
  where
    front : less_bytes (key_of_hit h) (key_of_hit a) ≡ true → (x : Hit) → (x ≡ a) ⊎ (x ∈ l) → less_bytes (key_of_hit h) (key_of_hit x) ≡ true
    front less x (inl e) = ap (λ (y : Hit). less_bytes (key_of_hit h) (key_of_hit y)) e ∙ less
    front less x (inr m) = less-trans (key_of_hit h) (key_of_hit a) (key_of_hit x) less (s.0 x m)

    go : (t : Bool) → same_bytes (key_of_hit h) (key_of_hit a) ≡ t → (u : Bool) → less_bytes (key_of_hit h) (key_of_hit a) ≡ u → Rises (lay_over h l)
        → Rises (pick t (h ∷ l) (pick u (h ∷ a ∷ l) (a ∷ lay_over h l)))
    go true q u w ih = (subst (λ (k : List ℕ). AllAbove k l) (sym (same_true (key_of_hit h) (key_of_hit a) q)) s.0, s.1)
    go false q true w ih = (λ x m. front w x (in-cons m), s)
    go false q false w ih = (lay-above h (key_of_hit a) l (less-total (key_of_hit h) (key_of_hit a) q w) s.0, ih)

pub overlaid-rise : (os ns : List Hit) → Rises ns → Rises (overlaid os ns)
unfolding overlaid
overlaid-rise [] ns s = s
overlaid-rise (o ∷ os) ns s = lay-rise o (overlaid os ns) (overlaid-rise os ns s)

-- so those of their records do
recs-above : (k : List ℕ) (l : List Hit) → AllAbove k l → Above k (recs_of l)
unfolding AllAbove Above recs_of
recs-above k [] a x m = absurd (in-none m)
recs-above k (h ∷ l) a x m = go (in-cons m) (recs-above k l (λ y u. a y (later u)) x)
  where
    go : (x ≡ h.rec) ⊎ (x ∈ recs_of l) → (x ∈ recs_of l → less_bytes k (key_of x) ≡ true) → less_bytes k (key_of x) ≡ true
    go (inl e) rest = ap (λ (y : Rec). less_bytes k (key_of y)) e ∙ a h (here refl)
    go (inr n) rest = rest n

pub recs-sorted : (l : List Hit) → Rises l → Sorted (recs_of l)
unfolding Rises recs_of Sorted
recs-sorted [] s = tt
recs-sorted (h ∷ l) s = (recs-above (key_of_hit h) l s.0, recs-sorted l s.1)
