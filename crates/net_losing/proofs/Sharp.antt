-- Deltas that are sharp: a record of theirs is the last that its key was given up to what the delta reaches. A node that takes only such deltas never goes back behind a
-- version of a key that it has reached. Assumes nothing.
use Prim.Native.Nat.{◌≤◌, max, suc, ℕ}
use mathlib.Core.Bool.{Bool}
use mathlib.Core.List.{List, [], ◌∷◌}
use mathlib.Core.Logic.{◌⊎◌, inl, inr}
use mathlib.Core.Path.{◌∙◌, ◌≡◌, ap, refl, subst, sym}
use native.Mathlib.Omega.{arith}
use lib.ListN.{length}
use Rattle.fields.proofs.Choice.{in-cons, in-none, keep-from}
use Rattle.fields.proofs.Ordered.{less_other}
use Rattle.fields.specs.Choice.{◌∈◌}
use Rattle.rules.proofs.Records.{Above, Sorted, gc-rises, key_of}
use Rattle.rules.proofs.Taking.{Applies, Came, From, came, left, reset, take-from, took}
use Rattle.rules.specs.Apply.{Ways, apply_node, outcome}
use Rattle.rules.specs.Delta.{NodeDelta}
use Rattle.rules.specs.Node.{KeyValue, Node, Rec, remove, with_heartbeat}
use Rattle.rules.specs.declared.Heartbeat.{Heartbeat}
use Rattle.demand3.proofs.Honest.{HonestDelta, HonestNode}
use Rattle.demand3.specs.Demand3.{Holds, reach}
use Rattle.net_losing.specs.Back.{reached}

abbrev pub SharpDelta : List KeyValue → NodeDelta → Type 0
SharpDelta h d = (t : KeyValue) → t ∈ d.recs → (s : KeyValue) → s ∈ h → s.key ≡ t.key → s.version ≤ reach d.last_gc d.max → s.version ≤ t.version

-- what is given next is above all that a delta reaches
pub sharp-grows : (h : List KeyValue) (w : KeyValue) → w.version ≡ suc (length h) → (d : NodeDelta) → HonestDelta h d → SharpDelta h d → SharpDelta (w ∷ h) d
sharp-grows h w next d x y t m s n k b = at (in-cons n)
  where
    at : (s ≡ w) ⊎ (s ∈ h) → s.version ≤ t.version
    at (inl e) =
        let v : s.version ≡ w.version = ap (λ (z : KeyValue). z.version) e in
        let a = x.gc_low in
        let c = x.max-low in
        absurd (omega arith)
    at (inr o) = y t m s o k b

-- the node has reached s, and holds nothing older of its key
pub record Past (s : KeyValue) (n : Node) : Type 0 where
  pub far : s.version ≤ reached n
  pub none_older : (t : KeyValue) → Holds n t → t.key ≡ s.key → s.version ≤ t.version

-- one record a key
sorted-one : (l : List Rec) → Sorted l → (a b : Rec) → a ∈ l → b ∈ l → key_of a ≡ key_of b → a ≡ b
unfolding Sorted Above
sorted-one [] y a b m n k = absurd (in-none m)
sorted-one (c ∷ l) y a b m n k = at (in-cons m) (in-cons n) (λ i j. sorted-one l y.1 a b i j k)
  where
    not-before : (d : Rec) → d ∈ l → key_of c ≡ key_of d → ⊥
    not-before d i e = less_other _ _ (y.0 d i) e

    at : (a ≡ c) ⊎ (a ∈ l) → (b ≡ c) ⊎ (b ∈ l) → (a ∈ l → b ∈ l → a ≡ b) → a ≡ b
    at (inl e) (inl f) ih = e ∙ sym f
    at (inl e) (inr j) ih = absurd (not-before b j (sym (ap key_of e) ∙ k))
    at (inr i) (inl f) ih = absurd (not-before a i (sym (k ∙ ap key_of f)))
    at (inr i) (inr j) ih = ih i j

-- of what it holds
pub past-held : (h : List KeyValue) (n : Node) → HonestNode h n → (s : KeyValue) → Holds n s → Past s n
past-held h n ok s y =
    record {
      far = let a = ok.honest.within s y in omega arith;
      none_older =
          λ t z k.
          let e = sorted-one n.recs ok.sorted z.0 y.0 z.1 y.1 (ap (λ (u : KeyValue). u.key) z.2 ∙ k ∙ sym (ap (λ (u : KeyValue). u.key) y.2)) in
          let f : t.version ≡ s.version = sym (ap (λ (u : KeyValue). u.version) z.2) ∙ ap (λ (r : Rec). r.kv.version) e ∙ ap (λ (u : KeyValue). u.version) y.2 in
          omega arith;
    }

module _ (s : KeyValue) (n : Node) (ok : Past s n) where
  pub past-beat : (b : Heartbeat) → Past s (with_heartbeat b n)
  past-beat b = record { far = ok.far; none_older = ok.none_older }

  pub past-remove : (due : Rec → Bool) → Past s (remove due n)
  unfolding remove
  past-remove due =
      record {
        far = let a = gc-rises due n.last_gc n.recs in let b = ok.far in omega arith;
        none_older = λ t y k. ok.none_older t (y.0, (keep-from _ _ y.1).0, y.2) k;
      }

  -- a sharp delta is taken, in any ways in which what is taken without a reset reaches the node's last_gc
  module _ (h : List KeyValue) (told : s ∈ h) (sorted : Sorted n.recs) (now : ℕ) (d : NodeDelta) (sharp : SharpDelta h d) where
    taken : (held gc : ℕ) (l : List Rec) → s.version ≤ reach d.last_gc d.max → ((r : Rec) → r ∈ l → r.kv.key ≡ s.key → s.version ≤ r.kv.version) → (r : Rec) → From held gc now d.recs l r → r.kv.key ≡ s.key → s.version ≤ r.kv.version
    taken held gc l b f r (inl x) k =
        let e = x.3 in
        let key-is : r.kv.key ≡ x.0.key = ap (λ (y : Rec). y.kv.key) e in
        let version-is : r.kv.version ≡ x.0.version = ap (λ (y : Rec). y.kv.version) e in
        let a = sharp x.0 x.1 s told (sym k ∙ key-is) b in
        omega arith
    taken held gc l b f r (inr m) k = f r m.0 k

    pub past-apply : (ways : Ways) → (Applies ways now d n → n.last_gc ≤ max n.max (max d.last_gc d.max)) → Past s (apply_node ways now d n).node
    unfolding outcome Sorted
    past-apply ways u = go _ (came ways now d n)
      where
        older : (t : KeyValue) (r : Rec) → r.kv ≡ t → (r.kv.key ≡ s.key → s.version ≤ r.kv.version) → t.key ≡ s.key → s.version ≤ t.version
        older t r e f k = subst (λ (y : KeyValue). y.key ≡ s.key → s.version ≤ y.version) e f k

        go : (m : Node) → Came ways now d n m → Past s m
        go m left = ok
        go m (reset r) =
            record {
              far = let a = ok.far in let b = r.above_gc in let c = r.above_max in omega arith;
              none_older =
                  λ t y k.
                  older t y.0 y.2
                  (taken 0 d.last_gc [] (let a = ok.far in let b = r.above_gc in let c = r.above_max in omega arith) (λ q m. absurd (in-none m)) y.0
                  (take-from 0 d.last_gc now d.recs [] tt y.1)) k;
            }
        go m (took r) =
            record {
              far = let a = ok.far in let b = r.newer in omega arith;
              none_older =
                  λ t y k.
                  older t y.0 y.2
                  (taken n.max n.last_gc n.recs (let a = ok.far in let b = r.newer in let c = u r in omega arith) (λ q m e. ok.none_older q.kv (q, m, refl) e) y.0
                  (take-from n.max n.last_gc now d.recs n.recs sorted y.1)) k;
            }
