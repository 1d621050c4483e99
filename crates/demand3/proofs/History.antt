-- What a publisher gave to its keys, the newest first: its versions, the last of a key's entries, and entries above a version. Assumes nothing.
use Prim.Native.Nat.{◌<◌, ◌≤◌, suc, ℕ}
use mathlib.Core.Bool.{Bool, false, true}
use mathlib.Core.List.{List, [], ◌∷◌}
use mathlib.Core.Logic.{◌⊎◌, inl, inr}
use mathlib.Core.Path.{◌∙◌, ◌≡◌, ap, refl, sym}
use native.Mathlib.Omega.{arith}
use lib.Dec.{leb}
use lib.ListN.{length}
use borrow.Author.Tests.{leb-false, leb-true}
use Rattle.fields.proofs.Choice.{in-cons, in-none}
use Rattle.fields.proofs.Ordered.{same_false, same_true}
use Rattle.fields.specs.Choice.{◌∈◌, here, later}
use Rattle.fields.specs.Order.{same_bytes}
use Rattle.rules.specs.Node.{KeyValue}
use Rattle.demand3.specs.Demand3.{Last}

-- Versions are from 1 to the number of entries, and each was given once.
pub record Numbered (h : List KeyValue) : Type 0 where
  pub low : (s : KeyValue) → s ∈ h → 0 < s.version
  pub high : (s : KeyValue) → s ∈ h → s.version ≤ length h
  pub one : (s t : KeyValue) → s ∈ h → t ∈ h → s.version ≡ t.version → s ≡ t

pub numbered-none : Numbered []
numbered-none = record { low = λ s m. absurd (in-none m); high = λ s m. absurd (in-none m); one = λ s t m. absurd (in-none m) }

-- the next entry has the next version
pub numbered-grows : (h : List KeyValue) (w : KeyValue) → w.version ≡ suc (length h) → Numbered h → Numbered (w ∷ h)
numbered-grows h w next x = record { low = λ s m. low s (in-cons m); high = λ s m. high s (in-cons m); one = λ s t m n. one s t (in-cons m) (in-cons n) }
  where
    is-next : (s : KeyValue) → s ≡ w → s.version ≡ suc (length h)
    is-next s e = ap (λ (y : KeyValue). y.version) e ∙ next

    low : (s : KeyValue) → (s ≡ w) ⊎ (s ∈ h) → 0 < s.version
    low s (inl e) = let a = is-next s e in omega arith
    low s (inr m) = x.low s m

    high : (s : KeyValue) → (s ≡ w) ⊎ (s ∈ h) → s.version ≤ suc (length h)
    high s (inl e) = let a = is-next s e in omega arith
    high s (inr m) = let a = x.high s m in omega arith

    one : (s t : KeyValue) → (s ≡ w) ⊎ (s ∈ h) → (t ≡ w) ⊎ (t ∈ h) → s.version ≡ t.version → s ≡ t
    one s t (inl e) (inl f) q = e ∙ sym f
    one s t (inl e) (inr m) q = let a = is-next s e in let b = x.high t m in absurd (omega arith)
    one s t (inr m) (inl e) q = let a = is-next t e in let b = x.high s m in absurd (omega arith)
    one s t (inr m) (inr n) q = x.one s t m n q

-- the key was given a version above n
pub record Newer (h : List KeyValue) (n : ℕ) (k : List ℕ) : Type 0 where
  pub kv : KeyValue
  pub told : kv ∈ h
  pub same : kv.key ≡ k
  pub above : n < kv.version

pub newer-grows : {h : List KeyValue} {n : ℕ} {k : List ℕ} (w : KeyValue) → Newer h n k → Newer (w ∷ h) n k
newer-grows w x = record { kv = x.kv; told = later x.told; same = x.same; above = x.above }

-- the last entry of a key
pub record Latest (h : List KeyValue) (k : List ℕ) : Type 0 where
  pub kv : KeyValue
  pub told : kv ∈ h
  pub same : kv.key ≡ k
  pub last : Last h kv

pub latest : (k : List ℕ) (h : List KeyValue) → ((s : KeyValue) → s ∈ h → s.key ≡ k → ⊥) ⊎ Latest h k
latest k [] = inl (λ s m e. in-none m)
latest k (a ∷ h) = go (same_bytes a.key k) refl (latest k h)
  where
    Out : Type 0
    Out = ((s : KeyValue) → s ∈ a ∷ h → s.key ≡ k → ⊥) ⊎ Latest (a ∷ h) k

    version-at : (t s : KeyValue) → t ≡ s → t.version ≡ s.version
    version-at t s e = ap (λ (y : KeyValue). y.version) e

    -- a is of the key, and the others are not above it
    mine : a.key ≡ k → ((t : KeyValue) → t ∈ h → t.key ≡ k → t.version ≤ a.version) → Latest (a ∷ h) k
    mine e f = record { kv = a; told = here refl; same = e; last = λ t m q. at t (in-cons m) q }
      where
        at : (t : KeyValue) → (t ≡ a) ⊎ (t ∈ h) → t.key ≡ a.key → t.version ≤ a.version
        at t (inl q) k = let v = version-at t a q in omega arith
        at t (inr m) k = f t m (k ∙ e)

    -- the one before stays the last
    old : (u : Latest h k) → (a.key ≡ k → a.version ≤ u.kv.version) → Latest (a ∷ h) k
    old u f = record { kv = u.kv; told = later u.told; same = u.same; last = λ t m q. at t (in-cons m) q }
      where
        at : (t : KeyValue) → (t ≡ a) ⊎ (t ∈ h) → t.key ≡ u.kv.key → t.version ≤ u.kv.version
        at t (inl q) e = let v = version-at t a q in let g = f (sym (ap (λ (y : KeyValue). y.key) q) ∙ e ∙ u.same) in omega arith
        at t (inr m) e = u.last t m e

    pick_one : (u : Latest h k) → a.key ≡ k → (b : Bool) → leb a.version u.kv.version ≡ b → Latest (a ∷ h) k
    pick_one u e true q = old u (λ _. leb-true _ _ q)
    pick_one u e false q = mine e (λ t m f. let v = u.last t m (f ∙ sym u.same) in let g = leb-false a.version u.kv.version q in omega arith)

    go : (b : Bool) → same_bytes a.key k ≡ b → ((s : KeyValue) → s ∈ h → s.key ≡ k → ⊥) ⊎ Latest h k → Out
    go true q (inl n) = inr (mine (same_true _ _ q) (λ t m e. absurd (n t m e)))
    go true q (inr u) = inr (pick_one u (same_true _ _ q) (leb a.version u.kv.version) refl)
    go false q (inl n) = inl (λ s m e. at s (in-cons m) e)
      where
        at : (s : KeyValue) → (s ≡ a) ⊎ (s ∈ h) → s.key ≡ k → ⊥
        at s (inl f) e = same_false _ _ q (sym (ap (λ (y : KeyValue). y.key) f) ∙ e)
        at s (inr m) e = n s m e
    go false q (inr u) = inr (old u (λ e. absurd (same_false _ _ q e)))
