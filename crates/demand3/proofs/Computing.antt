-- What computing sends of an honest node is an honest delta, from any version on and wherever it is cut: a Node alone, the first of the stale
-- records, or a SetMaxVersion where there are none. The sender need not be the publisher, and the digest may be any.
use Prim.Native.Nat.{◌<◌, ◌≤◌, ℕ}
use mathlib.Core.Bool.{Bool, false, true}
use mathlib.Core.List.{List, [], ◌∷◌}
use mathlib.Core.Logic.{◌⊎◌, inl, inr}
use mathlib.Core.Path.{◌≡◌, refl, subst, sym}
use native.Mathlib.Omega.{arith}
use lib.ListN.{take}
use Rattle.fields.proofs.Choice.{in-none}
use Rattle.fields.specs.Choice.{◌∈◌, pick}
use Rattle.rules.proofs.Sending.{carried, node_delta}
use Rattle.rules.proofs.Stale.{Rising, cut_off, rising-stale, rising-take, stale-from, stale-in, take_in, top-is, top_within, top_of}
use Rattle.rules.specs.Compute.{from_of, stale}
use Rattle.rules.specs.Delta.{NodeDelta}
use Rattle.rules.specs.Node.{KeyValue, Node}
use Rattle.demand3.proofs.History.{Numbered}
use Rattle.demand3.proofs.Honest.{Current, Honest, HonestDelta, HonestNode, Removed}
use Rattle.demand3.specs.Demand3.{Holds, reach}

-- a delta with this from, for any count of the records above it
module _ (h : List KeyValue) (num : Numbered h) (n : Node) (ok : HonestNode h n) (from count : ℕ) (fits : Bool) where
  hon : Honest h 0 n.last_gc n.max (Holds n)
  hon = ok.honest

  -- what a shorter reach makes of a record
  sooner : (m : ℕ) → m ≤ n.max → (s : KeyValue) → Holds n s → Current h (reach n.last_gc m) s
  sooner m b s x = at (hon.current s x)
    where
      at : Current h (reach n.last_gc n.max) s → Current h (reach n.last_gc m) s
      at (inl l) = inl l
      at (inr y) = inr (record { kv = y.kv; told = y.told; same = y.same; above = let a = y.above in omega arith })

  -- a record of the node above from is stale
  is-stale : {all : List KeyValue} → stale from n.recs ≡ all → (s : KeyValue) → from < s.version → Holds n s → s ∈ all
  is-stale {all} e s a x =
      subst (λ (y : KeyValue). y ∈ all) x.2
      (subst (λ (l : List KeyValue). x.0.kv ∈ l) e (stale-in from x.1 (subst (λ (y : KeyValue). from < y.version) (sym x.2) a)))

  abbrev made : List KeyValue → NodeDelta
  made all = record { from = from; last_gc = n.last_gc; recs = take count all; max = carried fits n.max all (take count all) }

  made-honest : (all : List KeyValue) → stale from n.recs ≡ all → HonestDelta h (made all)
  made-honest [] e =
      record {
        gc_low = hon.gc_low;
        max-low = let a = low fits in let b = hon.max-low in omega arith;
        told = λ s m. absurd (in-none (take_in count [] m));
        within = λ s m. absurd (in-none (take_in count [] m));
        current = λ s m. absurd (in-none (take_in count [] m));
        brings = λ s m l a b. at s a (hon.brings s m l (omega arith) (let c = low fits in omega arith));
      }
    where
      low : (b : Bool) → pick b n.max 0 ≤ n.max
      low true = omega arith
      low false = omega arith

      at : (s : KeyValue) → from < s.version → Holds n s ⊎ Removed n.last_gc s → (s ∈ take count []) ⊎ Removed n.last_gc s
      at s a (inr x) = inr x
      at s a (inl x) = absurd (in-none (is-stale e s a x))
  made-honest (s ∷ ss) e =
      record {
        gc_low = hon.gc_low;
        max-low = let a = low in let b = hon.max-low in omega arith;
        told = λ t m. hon.told t (held t m);
        within = λ t m. top_within 0 sent rising m;
        current = λ t m. sooner (top_of 0 sent) low t (held t m);
        brings = λ t m l a b. at t m a b (hon.brings t m l (omega arith) (let c = low in omega arith));
      }
    where
      sent : List KeyValue
      sent = take count (s ∷ ss)

      whole : Rising 0 (s ∷ ss)
      whole = subst (Rising 0) e (rising-stale from n.recs)

      rising : Rising 0 sent
      rising = rising-take 0 count (s ∷ ss) whole

      held : (t : KeyValue) → t ∈ sent → Holds n t
      held t m =
          let x = stale-from from n.recs (subst (λ (l : List KeyValue). t ∈ l) (sym e) (take_in count (s ∷ ss) m)) in
          (x.0, x.1, x.2)

      low : top_of 0 sent ≤ n.max
      low = go (top-is 0 sent)
        where
          go : (top_of 0 sent ≡ 0) ⊎ ((u : KeyValue) × (u ∈ sent) × (u.version ≡ top_of 0 sent)) → top_of 0 sent ≤ n.max
          go (inl z) = omega arith
          go (inr u) = let a = hon.within u.0 (held u.0 u.1) in let b = u.2 in omega arith

      -- what reaches up to the last record sent is sent
      sent-all : (t : KeyValue) → t ∈ h → from < t.version → t.version ≤ top_of 0 sent → (t ∈ sent) ⊎ (top_of 0 sent ≤ t.version) → t ∈ sent
      sent-all t m a b (inl x) = x
      sent-all t m a b (inr g) = go (top-is 0 sent)
        where
          go : (top_of 0 sent ≡ 0) ⊎ ((u : KeyValue) × (u ∈ sent) × (u.version ≡ top_of 0 sent)) → t ∈ sent
          go (inl z) = absurd (omega arith)
          go (inr u) =
              let v = u.2 in
              subst (λ (y : KeyValue). y ∈ sent) (num.one u.0 t (hon.told u.0 (held u.0 u.1)) m (omega arith)) u.1

      at : (t : KeyValue) → t ∈ h → from < t.version → t.version ≤ top_of 0 sent → Holds n t ⊎ Removed n.last_gc t → (t ∈ sent) ⊎ Removed n.last_gc t
      at t m a b (inr x) = inr x
      at t m a b (inl x) = inl (sent-all t m a b (cut_off 0 count (s ∷ ss) whole (is-stale e t a x)))

-- document 01's computing for a digest's pair (g, m) sends one of these
pub computed-honest : (h : List KeyValue) → Numbered h → (n : Node) → HonestNode h n → (g m count : ℕ) (fits : Bool) → HonestDelta h (node_delta n g m count fits)
unfolding node_delta
computed-honest h num n ok g m count fits = made-honest h num n ok (from_of n.last_gc g m) count fits (stale (from_of n.last_gc g m) n.recs) refl
