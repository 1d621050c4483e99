-- What a party has of a node's records and of a table, and how the rules go through it. Assumes nothing.
use Prim.Native.Nat.{ℕ, suc}
use mathlib.Core.Bool.{Bool, true, false, true≢false}
use mathlib.Core.List.{List, [], ◌∷◌}
use mathlib.Core.Logic.{◌⊎◌, inl, inr}
use mathlib.Core.Option.{Option, none, some}
use mathlib.Core.Path.{◌≡◌, refl, ap, sym, ◌∙◌}
use lib.ListN.{length}
use Rattle.fields.specs.Choice.{◌∈◌, here, later, pick, keep}
use Rattle.fields.specs.Order.{same_bytes, less_bytes}
use Rattle.fields.proofs.Choice.{in-cons, in-none}
use Rattle.fields.proofs.Ordered.{same_true, less_other, less-trans}
use Rattle.rules.specs.Node.{Rec, find, store}
use Rattle.rules.specs.Party.{of_keys}
use Rattle.rules.proofs.Records.{key_of, Above, Sorted}
use Rattle.parties.specs.TwoRuns.{unversioned, unversioned_each}

-- the own records without their versions, in one pass
unfoldable pub view_recs : (mine : List ℕ → Bool) (recs : List Rec) → List Rec
view_recs mine [] = []
view_recs mine (r ∷ l) = pick (mine r.kv.key) (unversioned r ∷ view_recs mine l) (view_recs mine l)

abbrev pub bare : Option Rec → Option Rec
bare none = none
bare (some r) = some (unversioned r)

module _ (mine : List ℕ → Bool) where
  -- ---- records

  -- a record of the party's keys is found in what it has
  pub find-view : (k : List ℕ) (l : List Rec) → mine k ≡ true → find k (view_recs mine l) ≡ bare (find k l)
  unfolding find view_recs
  find-view k [] m = refl
  find-view k (a ∷ l) m = go (same_bytes k (key_of a)) refl (mine (key_of a)) refl (find-view k l m)
    where
      go : (b : Bool) → same_bytes k (key_of a) ≡ b → (c : Bool) → mine (key_of a) ≡ c → find k (view_recs mine l) ≡ bare (find k l)
          → find k (pick c (unversioned a ∷ view_recs mine l) (view_recs mine l)) ≡ bare (pick b (some a) (find k l))
      go true p true q ih = rw p
      go true p false q ih = absurd (true≢false (sym m ∙ ap mine (same_true _ _ p) ∙ q))
      go false p true q ih = rw p ih
      go false p false q ih = ih

  pub view-own : (l : List Rec) → of_keys mine (view_recs mine l) ≡ view_recs mine l
  unfolding keep view_recs
  view-own [] = refl
  view-own (a ∷ l) = go (mine (key_of a)) refl (view-own l)
    where
      go : (c : Bool) → mine (key_of a) ≡ c → of_keys mine (view_recs mine l) ≡ view_recs mine l
          → of_keys mine (pick c (unversioned a ∷ view_recs mine l) (view_recs mine l)) ≡ pick c (unversioned a ∷ view_recs mine l) (view_recs mine l)
      go true q ih = rw q (ap (λ (x : List Rec). unversioned a ∷ x) ih)
      go false q ih = ih

  pub view-length : (l : List Rec) → length (view_recs mine l) ≡ length (of_keys mine l)
  unfolding keep view_recs
  view-length [] = refl
  view-length (a ∷ l) = go (mine (key_of a)) (view-length l)
    where
      go : (c : Bool) → length (view_recs mine l) ≡ length (of_keys mine l) → length (pick c (unversioned a ∷ view_recs mine l) (view_recs mine l)) ≡ length (pick c (a ∷ of_keys mine l) (of_keys mine l))
      go true ih = ap suc ih
      go false ih = ih

  pub view-twice : (l : List Rec) → view_recs mine (view_recs mine l) ≡ view_recs mine l
  unfolding view_recs
  view-twice [] = refl
  view-twice (a ∷ l) = go (mine (key_of a)) refl (view-twice l)
    where
      go : (c : Bool) → mine (key_of a) ≡ c → view_recs mine (view_recs mine l) ≡ view_recs mine l
          → view_recs mine (pick c (unversioned a ∷ view_recs mine l) (view_recs mine l)) ≡ pick c (unversioned a ∷ view_recs mine l) (view_recs mine l)
      go true q ih = rw q (ap (λ (x : List Rec). unversioned a ∷ x) ih)
      go false q ih = ih

  -- the keys that it has are among the node's
  view-from : (l : List Rec) {x : Rec} → x ∈ view_recs mine l → (r : Rec) × (r ∈ l) × (key_of x ≡ key_of r)
  unfolding view_recs
  view-from [] m = absurd (in-none m)
  view-from (a ∷ l) {x} m = go (mine (key_of a)) m (view-from l)
    where
      Out : List Rec → Type 0
      Out l = (r : Rec) × (r ∈ l) × (key_of x ≡ key_of r)

      up : Out l → Out (a ∷ l)
      up y = (y.0, later y.1, y.2)

      go : (c : Bool) → x ∈ pick c (unversioned a ∷ view_recs mine l) (view_recs mine l) → (x ∈ view_recs mine l → Out l) → Out (a ∷ l)
      go true m ih = at (in-cons m)
        where
          at : (x ≡ unversioned a) ⊎ (x ∈ view_recs mine l) → Out (a ∷ l)
          at (inl e) = (a, here refl, ap key_of e)
          at (inr n) = up (ih n)
      go false m ih = up (ih m)

  pub view-above : (k : List ℕ) (l : List Rec) → Above k l → Above k (view_recs mine l)
  unfolding Above
  view-above k l h x m = let y = view-from l m in ap (less_bytes k) y.2 ∙ h y.0 y.1

  pub view-sorted : (l : List Rec) → Sorted l → Sorted (view_recs mine l)
  unfolding view_recs Sorted
  view-sorted [] s = tt
  view-sorted (a ∷ l) s = go (mine (key_of a)) (view-sorted l s.1)
    where
      go : (c : Bool) → Sorted (view_recs mine l) → Sorted (pick c (unversioned a ∷ view_recs mine l) (view_recs mine l))
      go true ih = (view-above (key_of a) l s.0, ih)
      go false ih = ih

  -- a record that comes before all others is stored at the front
  store-front : (r : Rec) (l : List Rec) → Above (key_of r) l → store r l ≡ r ∷ l
  unfolding store Above
  store-front r [] h = refl
  store-front r (a ∷ l) h = go (same_bytes (key_of r) (key_of a)) refl (less_bytes (key_of r) (key_of a)) (h a (here refl))
    where
      go : (b : Bool) → same_bytes (key_of r) (key_of a) ≡ b → (c : Bool) → c ≡ true → pick b (r ∷ l) (pick c (r ∷ a ∷ l) (a ∷ store r l)) ≡ r ∷ a ∷ l
      go true q c e = absurd (less_other _ _ (h a (here refl)) (same_true _ _ q))
      go false q true e = refl
      go false q false e = absurd (true≢false (sym e))

  -- a record of the party's own keys
  pub store-own : (r : Rec) (l : List Rec) → Sorted l → mine (key_of r) ≡ true → view_recs mine (store r l) ≡ store (unversioned r) (view_recs mine l)
  unfolding store view_recs Sorted Above
  store-own r [] s m = rw m
  store-own r (a ∷ l) s m = go (same_bytes (key_of r) (key_of a)) refl (less_bytes (key_of r) (key_of a)) refl (mine (key_of a)) refl (store-own r l s.1 m)
    where
      u : Rec
      u = unversioned r

      go : (b : Bool) → same_bytes (key_of r) (key_of a) ≡ b
          → (c : Bool) → less_bytes (key_of r) (key_of a) ≡ c
          → (d : Bool) → mine (key_of a) ≡ d
          → view_recs mine (store r l) ≡ store (unversioned r) (view_recs mine l)
          → view_recs mine (pick b (r ∷ l) (pick c (r ∷ a ∷ l) (a ∷ store r l))) ≡ store (unversioned r) (pick d (unversioned a ∷ view_recs mine l) (view_recs mine l))
      go true p c q true t ih = rw (m, p)
      go true p c q false t ih = absurd (true≢false (sym m ∙ ap mine (same_true _ _ p) ∙ t))
      go false p true q true t ih = rw (m, p, q, t)
      go false p true q false t ih = rw (m, t) (sym (store-front (unversioned r) (view_recs mine l) (view-above (key_of r) l (λ x n. less-trans _ _ _ q (s.0 x n)))))
      go false p false q true t ih = rw (t, p, q) (ap (λ (x : List Rec). unversioned a ∷ x) ih)
      go false p false q false t ih = rw t ih

  -- a record of the other's
  pub store_other : (r : Rec) (l : List Rec) → mine (key_of r) ≡ false → view_recs mine (store r l) ≡ view_recs mine l
  unfolding store view_recs
  store_other r [] m = rw m
  store_other r (a ∷ l) m = go (same_bytes (key_of r) (key_of a)) refl (less_bytes (key_of r) (key_of a)) (store_other r l m)
    where
      go : (b : Bool) → same_bytes (key_of r) (key_of a) ≡ b → (c : Bool) → view_recs mine (store r l) ≡ view_recs mine l
          → view_recs mine (pick b (r ∷ l) (pick c (r ∷ a ∷ l) (a ∷ store r l))) ≡ pick (mine (key_of a)) (unversioned a ∷ view_recs mine l) (view_recs mine l)
      go true p c ih = rw (m, sym (ap mine (same_true _ _ p)) ∙ m)
      go false p true ih = rw m
      go false p false ih = ap (λ (x : List Rec). pick (mine (key_of a)) (unversioned a ∷ x) x) ih

  -- a test that looks at no version
  pub keep-view : (p : Rec → Bool) → ((r : Rec) → p (unversioned r) ≡ p r) → (l : List Rec) → view_recs mine (keep p l) ≡ keep p (view_recs mine l)
  unfolding keep view_recs
  keep-view p f [] = refl
  keep-view p f (a ∷ l) = go (p a) refl (mine (key_of a)) refl (keep-view p f l)
    where
      go : (b : Bool) → p a ≡ b → (c : Bool) → mine (key_of a) ≡ c → view_recs mine (keep p l) ≡ keep p (view_recs mine l)
          → view_recs mine (pick b (a ∷ keep p l) (keep p l)) ≡ keep p (pick c (unversioned a ∷ view_recs mine l) (view_recs mine l))
      go true q true t ih = rw (t, f a ∙ q) (ap (λ (x : List Rec). unversioned a ∷ x) ih)
      go true q false t ih = rw t ih
      go false q true t ih = rw (f a ∙ q) ih
      go false q false t ih = ih

  -- in two passes
  pub view-is : (l : List Rec) → unversioned_each (of_keys mine l) ≡ view_recs mine l
  unfolding keep view_recs unversioned_each
  view-is [] = refl
  view-is (a ∷ l) = go (mine (key_of a)) (view-is l)
    where
      go : (c : Bool) → unversioned_each (of_keys mine l) ≡ view_recs mine l → unversioned_each (pick c (a ∷ of_keys mine l) (of_keys mine l)) ≡ pick c (unversioned a ∷ view_recs mine l) (view_recs mine l)
      go true ih = ap (λ (x : List Rec). unversioned a ∷ x) ih
      go false ih = ih
