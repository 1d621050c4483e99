-- What stands in a node's records after a record is stored and after a removal; keys stay in order. Assumes nothing.
use Prim.Native.Nat.{◌≤◌, max, ℕ}
use mathlib.Core.Bool.{Bool, false, true}
use mathlib.Core.List.{List, [], ◌∷◌}
use mathlib.Core.Logic.{◌⊎◌, inl, inr}
use mathlib.Core.Path.{◌∙◌, ◌≡◌, ap, refl, sym}
use native.Mathlib.Omega.{arith}
use Rattle.fields.proofs.Choice.{in-cons, in-none, keep-from}
use Rattle.fields.proofs.Ordered.{less_other, less-total, less-trans, same_false, same_true}
use Rattle.fields.specs.Choice.{◌∈◌, here, keep, later, pick}
use Rattle.fields.specs.Order.{less_bytes, same_bytes}
use Rattle.rules.specs.Node.{Rec, due, goes, last_gc_of, store}

abbrev pub key_of : Rec → List ℕ
key_of r = r.kv.key

-- every key of the list comes after k
unfoldable pub Above : List ℕ → List Rec → Type 0
Above k l = (x : Rec) → x ∈ l → less_bytes k (key_of x) ≡ true

-- keys strictly ascending
unfoldable pub Sorted : List Rec → Type 0
Sorted [] = Unit {0}
Sorted (a ∷ l) = Above (key_of a) l × Sorted l

pub store-new : (r : Rec) (l : List Rec) → r ∈ store r l
unfolding store
store-new r [] = here refl
store-new r (a ∷ l) = go (same_bytes (key_of r) (key_of a)) (less_bytes (key_of r) (key_of a)) (store-new r l)
  where
    go : (b c : Bool) → r ∈ store r l → r ∈ pick b (r ∷ l) (pick c (r ∷ a ∷ l) (a ∷ store r l))
    go true c h = here refl
    go false true h = here refl
    go false false h = later h

pub store-old : (r : Rec) {x : Rec} {l : List Rec} → x ∈ l → (key_of x ≡ key_of r → ⊥) → x ∈ store r l
unfolding store
store-old r {x} (here {a = a} {l = l} e) n = go (same_bytes (key_of r) (key_of a)) refl (less_bytes (key_of r) (key_of a))
  where
    go : (b : Bool) → same_bytes (key_of r) (key_of a) ≡ b → (c : Bool) → x ∈ pick b (r ∷ l) (pick c (r ∷ a ∷ l) (a ∷ store r l))
    go true q c = absurd (n (ap key_of e ∙ sym (same_true _ _ q)))
    go false q true = later (here e)
    go false q false = here e
store-old r {x} (later {a = a} {l = l} m) n = go (same_bytes (key_of r) (key_of a)) (less_bytes (key_of r) (key_of a)) (store-old r m n)
  where
    go : (b c : Bool) → x ∈ store r l → x ∈ pick b (r ∷ l) (pick c (r ∷ a ∷ l) (a ∷ store r l))
    go true c h = later m
    go false true h = later (later m)
    go false false h = later h

-- what stands there is the new record, or an old one of another key
pub store-from : (r : Rec) (l : List Rec) → Sorted l → {x : Rec} → x ∈ store r l → (x ≡ r) ⊎ ((x ∈ l) × (key_of x ≡ key_of r → ⊥))
unfolding store Sorted Above
store-from r [] s m = one (in-cons m)
  where
    one : {x : Rec} → (x ≡ r) ⊎ (x ∈ []) → (x ≡ r) ⊎ ((x ∈ []) × (key_of x ≡ key_of r → ⊥))
    one (inl e) = inl e
    one (inr m) = absurd (in-none m)
store-from r (a ∷ l) s {x} m = go (same_bytes (key_of r) (key_of a)) refl (less_bytes (key_of r) (key_of a)) refl m (store-from r l s.1)
  where
    Out : Type 0
    Out = (x ≡ r) ⊎ ((x ∈ a ∷ l) × (key_of x ≡ key_of r → ⊥))

    tail : ((y : Rec) → y ∈ l → key_of y ≡ key_of r → ⊥) → x ∈ l → Out
    tail f m = inr (later m, f x m)

    go : (b : Bool)
        → same_bytes (key_of r) (key_of a) ≡ b
        → (c : Bool)
        → less_bytes (key_of r) (key_of a) ≡ c
        → x ∈ pick b (r ∷ l) (pick c (r ∷ a ∷ l) (a ∷ store r l))
        → (x ∈ store r l → (x ≡ r) ⊎ ((x ∈ l) × (key_of x ≡ key_of r → ⊥)))
        → Out
    go true q c q' m ih = at (in-cons m)
      where
        at : (x ≡ r) ⊎ (x ∈ l) → Out
        at (inl e) = inl e
        at (inr m) = tail (λ y m e. less_other _ _ (s.0 y m) (sym (same_true _ _ q) ∙ sym e)) m
    go false q true q' m ih = at (in-cons m)
      where
        in-a : (x ≡ a) ⊎ (x ∈ l) → Out
        in-a (inl e) = inr (here e, λ f. same_false _ _ q (sym f ∙ ap key_of e))
        in-a (inr m) = tail (λ y m e. less_other _ _ (less-trans _ _ _ q' (s.0 y m)) (sym e)) m

        at : (x ≡ r) ⊎ (x ∈ a ∷ l) → Out
        at (inl e) = inl e
        at (inr m) = in-a (in-cons m)
    go false q false q' m ih = at (in-cons m)
      where
        up : (x ≡ r) ⊎ ((x ∈ l) × (key_of x ≡ key_of r → ⊥)) → Out
        up (inl e) = inl e
        up (inr h) = inr (later h.0, h.1)

        at : (x ≡ a) ⊎ (x ∈ store r l) → Out
        at (inl e) = inr (here e, λ f. same_false _ _ q (sym f ∙ ap key_of e))
        at (inr m) = up (ih m)

-- the order stays
above-store : (k : List ℕ) (r : Rec) (l : List Rec) → Sorted l → less_bytes k (key_of r) ≡ true → Above k l → Above k (store r l)
unfolding Above
above-store k r l s h g x m = go (store-from r l s m)
  where
    go : (x ≡ r) ⊎ ((x ∈ l) × (key_of x ≡ key_of r → ⊥)) → less_bytes k (key_of x) ≡ true
    go (inl e) = ap (λ y. less_bytes k (key_of y)) e ∙ h
    go (inr n) = g x n.0

pub sorted-store : (r : Rec) (l : List Rec) → Sorted l → Sorted (store r l)
unfolding store Sorted Above
sorted-store r [] s = (λ x m. absurd (in-none m), tt)
sorted-store r (a ∷ l) s = go (same_bytes (key_of r) (key_of a)) refl (less_bytes (key_of r) (key_of a)) refl (sorted-store r l s.1)
  where
    go : (b : Bool)
        → same_bytes (key_of r) (key_of a) ≡ b
        → (c : Bool)
        → less_bytes (key_of r) (key_of a) ≡ c
        → Sorted (store r l)
        → Sorted (pick b (r ∷ l) (pick c (r ∷ a ∷ l) (a ∷ store r l)))
    go true q c q' ih = (λ x m. ap (λ k. less_bytes k (key_of x)) (same_true _ _ q) ∙ s.0 x m, s.1)
    go false q true q' ih = (λ x m. at x (in-cons m), s)
      where
        at : (x : Rec) → (x ≡ a) ⊎ (x ∈ l) → less_bytes (key_of r) (key_of x) ≡ true
        at x (inl e) = ap (λ y. less_bytes (key_of r) (key_of y)) e ∙ q'
        at x (inr m) = less-trans _ _ _ q' (s.0 x m)
    go false q false q' ih = (above-store (key_of a) r l s.1 (less-total _ _ q q') s.0, ih)

pub sorted-keep : (p : Rec → Bool) (l : List Rec) → Sorted l → Sorted (keep p l)
unfolding keep Sorted Above
sorted-keep p [] s = tt
sorted-keep p (a ∷ l) s = go (p a) (sorted-keep p l s.1)
  where
    go : (b : Bool) → Sorted (keep p l) → Sorted (pick b (a ∷ keep p l) (keep p l))
    go true ih = (λ x m. s.0 x (keep-from p l m).0, ih)
    go false ih = ih

-- removal
pub gc-rises : (due : Rec → Bool) (g : ℕ) (l : List Rec) → g ≤ last_gc_of due g l
unfolding last_gc_of
gc-rises due g [] = omega arith
gc-rises due g (a ∷ l) = go (goes due a) (gc-rises due (pick (goes due a) (max g a.kv.version) g) l)
  where
    go : (b : Bool) → pick b (max g a.kv.version) g ≤ last_gc_of due (pick (goes due a) (max g a.kv.version) g) l → g ≤ last_gc_of due (pick (goes due a) (max g a.kv.version) g) l
    go true h = omega arith
    go false h = h

-- last_gc is within any bound of its own and of the versions of the records that go
pub gc-below : (due : Rec → Bool) (g b : ℕ) (l : List Rec) → g ≤ b → ((x : Rec) → x ∈ l → goes due x ≡ true → x.kv.version ≤ b) → last_gc_of due g l ≤ b
unfolding last_gc_of
gc-below due g b [] h f = h
gc-below due g b (a ∷ l) h f = gc-below due (pick (goes due a) (max g a.kv.version) g) b l (go (goes due a) refl) (λ x m. f x (later m))
  where
    go : (t : Bool) → goes due a ≡ t → pick t (max g a.kv.version) g ≤ b
    go true q = let v = f a (here refl) q in omega arith
    go false q = h

-- what goes has a version up to last_gc
pub gc-covers : (due : Rec → Bool) {x : Rec} (g : ℕ) {l : List Rec} → x ∈ l → goes due x ≡ true → x.kv.version ≤ last_gc_of due g l
unfolding last_gc_of
gc-covers due {x} g (here {a = a} {l = l} e) q =
    let v : x.kv.version ≡ a.kv.version = ap (λ (y : Rec). y.kv.version) e in
    let h : max g a.kv.version ≤ last_gc_of due (max g a.kv.version) l = gc-rises due _ l in
    rw (sym (ap (goes due) e) ∙ q) (omega arith)
gc-covers due g (later {a = a} {l = l} m) q = gc-covers due (pick (goes due a) (max g a.kv.version) g) m q
