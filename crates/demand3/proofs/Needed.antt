-- How many exchanges a node still needs, once all is quiet; that no delta makes them more, and one that brings something makes them fewer.
use Prim.Native.Nat.{◌<◌, ◌≤◌, max, suc, zero, ℕ}
use mathlib.Core.Bool.{Bool, false, true}
use mathlib.Core.List.{List, [], ◌∷◌}
use mathlib.Core.Logic.{◌⊎◌, inl, inr}
use mathlib.Core.Path.{◌∙◌, ◌≡◌, ap, refl, subst, sym}
use native.Mathlib.Omega.{arith}
use lib.Dec.{leb, ltb}
use lib.ListN.{length, take}
use borrow.Author.Tests.{leb-false, leb-true, lt-leb, ltb-false, ltb-true}
use Rattle.fields.specs.Choice.{◌∈◌, here, pick}
use Rattle.rules.proofs.Sending.{carried, node_delta}
use Rattle.rules.proofs.Stale.{Rising, rising-stale, rising-take, stale-fewer, stale-from, stale-length, stale-less, take_in, top-is, top_within, top_of}
use Rattle.rules.proofs.Taking.{Came, FromOf, came, from-no-reset, from-of, left, no-reset, reset, reset_due, status-apply, status-old, status-reset, took}
use Rattle.rules.specs.Apply.{Fence, Ways, apply_node, delta_status, outcome}
use Rattle.rules.specs.Compute.{from_of, stale}
use Rattle.rules.specs.Delta.{NodeDelta}
use Rattle.rules.specs.Node.{KeyValue, Node, Rec}
use Rattle.rules.specs.declared.DeltaStatus.{DeltaStatus}
use Rattle.rules.specs.declared.DeltaStatus.TheVariants.{Apply, ApplyAfterReset}

-- none at equal max; else one, and one for each record that is to come, which is each record where a reset is due
unfoldable pub needed : Node → Node → ℕ
needed p f = pick (leb p.max f.max) 0 (suc (length (stale (from_of p.last_gc f.last_gc f.max) p.recs)))

pub needed-most : (p f : Node) → needed p f ≤ suc (length p.recs)
unfolding needed
needed-most p f = go (leb p.max f.max)
  where
    go : (b : Bool) → pick b 0 (suc (length (stale (from_of p.last_gc f.last_gc f.max) p.recs))) ≤ suc (length p.recs)
    go true = omega arith
    go false = let h = stale-length (from_of p.last_gc f.last_gc f.max) p.recs in omega arith

pub needed-none : (p f : Node) → needed p f ≡ 0 → p.max ≤ f.max
unfolding needed
needed-none p f e = go (leb p.max f.max) refl e
  where
    go : (b : Bool) → leb p.max f.max ≡ b → pick b 0 (suc (length (stale (from_of p.last_gc f.last_gc f.max) p.recs))) ≡ 0 → p.max ≤ f.max
    go true q e = leb-true _ _ q
    go false q e = absurd (omega arith)

pub needed-some : (p f : Node) → 0 < needed p f → f.max < p.max
unfolding needed
needed-some p f e = go (leb p.max f.max) refl e
  where
    go : (b : Bool) → leb p.max f.max ≡ b → 0 < pick b 0 (suc (length (stale (from_of p.last_gc f.last_gc f.max) p.recs))) → f.max < p.max
    go true q e = absurd (omega arith)
    go false q e = leb-false _ _ q

-- at another pair from which no reset is due
needed-at : (p f : Node) (b : ℕ) → p.last_gc ≤ max f.last_gc f.max → (f.max < p.max → length (stale f.max p.recs) < b) → needed p f ≤ b
unfolding needed
needed-at p f b h g = go (leb p.max f.max) refl
  where
    go : (t : Bool) → leb p.max f.max ≡ t → pick t 0 (suc (length (stale (from_of p.last_gc f.last_gc f.max) p.recs))) ≤ b
    go true q = omega arith
    go false q = rw (from-no-reset p f.last_gc f.max h) (g (leb-false _ _ q))

-- while it is behind
needed-behind : (p f : Node) → f.max < p.max → needed p f ≡ suc (length (stale (from_of p.last_gc f.last_gc f.max) p.recs))
unfolding needed
needed-behind p f h = rw (lt-leb _ _ h)

-- ---- no delta makes it more

-- at a pair that is further on
needed-less : (p f n : Node) → from_of p.last_gc f.last_gc f.max ≤ from_of p.last_gc n.last_gc n.max → (p.max ≤ f.max → p.max ≤ n.max) → needed p n ≤ needed p f
unfolding needed
needed-less p f n h g = go (leb p.max f.max) refl (leb p.max n.max) refl
  where
    count : Node → ℕ
    count x = suc (length (stale (from_of p.last_gc x.last_gc x.max) p.recs))

    go : (b : Bool) → leb p.max f.max ≡ b → (c : Bool) → leb p.max n.max ≡ c → pick c 0 (count n) ≤ pick b 0 (count f)
    go b q true r = omega arith
    go true q false r = let x = g (leb-true _ _ q) in let y = leb-false p.max n.max r in absurd (omega arith)
    go false q false r = let k = stale-fewer (from_of p.last_gc f.last_gc f.max) (from_of p.last_gc n.last_gc n.max) p.recs h in omega arith

-- Where no reset is due, none becomes due, and max does not fall: from the node f to the node x, of a publisher p.
abbrev pub Onward : Node → Node → Node → Type 0
Onward p f x = p.last_gc ≤ max f.last_gc f.max → (p.last_gc ≤ max x.last_gc x.max) × (f.max ≤ x.max)

pub onward-same : (p f : Node) → Onward p f f
onward-same p f g = (g, omega arith)

pub onward_then : (p f x y : Node) → Onward p f x → Onward p x y → Onward p f y
onward_then p f x y a b g = let c = a g in let d = b c.0 in (d.0, let e = c.1 in let k = d.1 in omega arith)

-- of the publisher it looks at last_gc alone
pub onward-gc : (p q f x : Node) → p.last_gc ≡ q.last_gc → Onward p f x → Onward q f x
onward-gc p q f x e on g = let k = on (omega arith) in (let a = k.0 in omega arith, k.1)

-- so it goes with every delta whose last_gc is not above the publisher's, however often it comes
pub onward-came : (ways : Ways) (now : ℕ) (d : NodeDelta) (p f : Node) → d.last_gc ≤ p.last_gc → Onward p f (apply_node ways now d f).node
unfolding outcome
onward-came ways now d p f low = go _ (came ways now d f)
  where
    go : (x : Node) → Came ways now d f x → Onward p f x
    go x left g = (g, omega arith)
    go x (reset r) g = let a = r.above_gc in let b = r.above_max in absurd (omega arith)
    go x (took r) g = let a = r.newer in (omega arith, omega arith)

-- and the node needs no more than before
pub onward-needed : (p f x : Node) → p.last_gc ≤ p.max → Onward p f x → needed p x ≤ needed p f
onward-needed p f x top on = needed-less p f x (at _ _ (from-of p f.last_gc f.max) (from-of p x.last_gc x.max)) (λ h. let k = (on (omega arith)).1 in omega arith)
  where
    at : (a b : ℕ) → FromOf p f.last_gc f.max a → FromOf p x.last_gc x.max b → a ≤ b
    at a b (reset_due u v) o = omega arith
    at a b (no-reset u) (reset_due v w) = let k = (on u).0 in absurd (omega arith)
    at a b (no-reset u) (no-reset v) = (on u).1

-- ---- a delta that brings something makes it less

-- the delta brings a record, or all
pub data Moves (p : Node) (d : NodeDelta) : Type 0 where
  brings : (r : Rec) → r ∈ p.recs → d.from < r.kv.version → r.kv.version ≤ d.max → Moves p d
  completes : p.max ≤ d.max → Moves p d

-- f told the pair that the delta was computed for, and is x when the delta comes, which no fence keeps off
module _ (fence : Fence) (now : ℕ) (p f x : Node) (d : NodeDelta) (behind : f.max < p.max) (gc_is : d.last_gc ≡ p.last_gc) (from_is : d.from ≡ from_of p.last_gc f.last_gc f.max) (on : Onward p f x) (lets : fence x.last_gc x.max d.last_gc d.max ≡ false) where
  abbrev Next : DeltaStatus → Node
  Next v = outcome v now d x

  size : ℕ
  size = length (stale d.from p.recs)

  needs : needed p f ≡ suc size
  unfolding size
  needs = needed-behind p f behind ∙ ap (λ (n : ℕ). suc (length (stale n p.recs))) (sym from_is)

  fewer : Moves p d → (m : ℕ) → d.max ≤ m → m < p.max → length (stale m p.recs) < size
  unfolding size
  fewer (brings r m a b) k g h = stale-less d.from k m a (omega arith)
  fewer (completes a) k g h = absurd (omega arith)

  -- a node that has what the delta brings, and no reset is due
  lands : Moves p d → (y : Node) → p.last_gc ≤ max y.last_gc y.max → d.max ≤ y.max → needed p y < suc size
  lands m y g a = let h = needed-at p y size g (fewer m y.max a) in omega arith

  pub needed-falls : Moves p d → needed p (Next (delta_status fence x d)) < needed p f
  unfolding outcome
  needed-falls m = rw needs (go (from_of p.last_gc f.last_gc f.max) from_is (from-of p f.last_gc f.max) _ (from-of p x.last_gc x.max))
    where
      -- no reset is due any more: it is taken, or the node has as much already
      takes : d.from ≤ x.max → p.last_gc ≤ max x.last_gc x.max → (b : Bool) → ltb x.max d.max ≡ b → needed p (Next (delta_status fence x d)) < suc size
      takes a g true q =
          let k = ltb-true x.max d.max q in
          rw (status-apply fence x d lets a (omega arith) k) (lands m (Next Apply) (omega arith) (omega arith))
      takes a g false q = rw (status-old fence x d lets a (omega arith) (ltb-false _ _ q)) (lands m x g (ltb-false _ _ q))

      go : (n : ℕ) → d.from ≡ n → FromOf p f.last_gc f.max n → (k : ℕ) → FromOf p x.last_gc x.max k → needed p (Next (delta_status fence x d)) < suc size
      go n e (reset_due a b) k (reset_due u v) = rw (status-reset fence x d lets e (omega arith) (omega arith)) (lands m (Next ApplyAfterReset) (omega arith) (omega arith))
      go n e (reset_due a b) k (no-reset u) = takes (omega arith) u (ltb x.max d.max) refl
      go n e (no-reset a) k w = let c = on a in takes (let z = c.1 in omega arith) c.0 (ltb x.max d.max) refl

-- a computed delta moves, or has max 0; it moves where it may carry a record and a SetMaxVersion
made-moves : (p : Node) (from count : ℕ) (fits : Bool) (all : List KeyValue) → stale from p.recs ≡ all → (carried fits p.max all (take count all) ≡ 0) ⊎ Moves p (record { from = from; last_gc = p.last_gc; recs = take count all; max = carried fits p.max all (take count all) })
made-moves p from count true [] e = inr (completes (omega arith))
made-moves p from count false [] e = inl refl
made-moves p from count fits (s ∷ ss) e = at (top-is 0 (take count (s ∷ ss)))
  where
    sent : List KeyValue
    sent = take count (s ∷ ss)

    d : NodeDelta
    d = record { from = from; last_gc = p.last_gc; recs = sent; max = top_of 0 sent }

    at : (top_of 0 sent ≡ 0) ⊎ ((u : KeyValue) × (u ∈ sent) × (u.version ≡ top_of 0 sent)) → (top_of 0 sent ≡ 0) ⊎ Moves p d
    at (inl z) = inl z
    at (inr u) =
        let x = stale-from from p.recs (subst (λ (l : List KeyValue). u.0 ∈ l) (sym e) (take_in count (s ∷ ss) u.1)) in
        let v : x.0.kv.version ≡ u.0.version = ap (λ (y : KeyValue). y.version) x.2 in
        inr (brings x.0 x.1 (let a = x.3 in omega arith) (let b = u.2 in omega arith))

pub delta-moves-or : (p : Node) (g m count : ℕ) (fits : Bool) → ((node_delta p g m count fits).max ≡ 0) ⊎ Moves p (node_delta p g m count fits)
unfolding node_delta
delta-moves-or p g m count fits = made-moves p (from_of p.last_gc g m) count fits (stale (from_of p.last_gc g m) p.recs) refl

some-top : (p : Node) (from count : ℕ) (all : List KeyValue) → stale from p.recs ≡ all → (0 < length all → 0 < count) → 0 < p.max → 0 < carried true p.max all (take count all)
unfolding top_of
some-top p from count [] e c h = h
some-top p from zero (s ∷ ss) e c h = let z = c (omega arith) in absurd (omega arith)
some-top p from (suc count) (s ∷ ss) e c h =
    let x = stale-from from p.recs (subst (λ (l : List KeyValue). s ∈ l) (sym e) (here refl)) in
    let w : Rising 0 (s ∷ take count ss) = rising-take 0 (suc count) (s ∷ ss) (subst (Rising 0) e (rising-stale from p.recs)) in
    let t : s.version ≤ top_of 0 (s ∷ take count ss) = top_within 0 (s ∷ take count ss) w (here refl) in
    let a = x.3 in
    omega arith

-- it moves, if a SetMaxVersion fits, and a record where there is one
pub delta-moves : (p : Node) (g m count : ℕ) → m < p.max → (0 < length (stale (from_of p.last_gc g m) p.recs) → 0 < count) → Moves p (node_delta p g m count true)
unfolding node_delta
delta-moves p g m count h c = at (delta-moves-or p g m count true)
  where
    at : ((node_delta p g m count true).max ≡ 0) ⊎ Moves p (node_delta p g m count true) → Moves p (node_delta p g m count true)
    at (inl z) = let t = some-top p (from_of p.last_gc g m) count (stale (from_of p.last_gc g m) p.recs) refl c (omega arith) in absurd (omega arith)
    at (inr x) = x
