-- The step that carries demand 3: an honest node takes an honest delta and stays honest. Without a reset it wants that the node's last_gc is within its
-- own max, the delta's last_gc and the delta's max; a reset wants nothing. The delta's age gives that, where deltas are applied before the next
-- digest (OneNode). Where they may be late, a test by the node must give it.
use Prim.Native.Nat.{◌<◌, ◌≤◌, max, ℕ}
use mathlib.Core.Bool.{Bool, false, true}
use mathlib.Core.List.{List, []}
use mathlib.Core.Logic.{◌⊎◌, inl, inr}
use mathlib.Core.Path.{◌∙◌, ◌≡◌, ap, refl, subst, sym}
use native.Mathlib.Omega.{arith}
use lib.Dec.{leb}
use borrow.Author.Tests.{leb-false, leb-true}
use Rattle.fields.proofs.Choice.{in-none}
use Rattle.fields.specs.Choice.{◌∈◌}
use Rattle.rules.proofs.Records.{Sorted, key_of}
use Rattle.rules.proofs.Taking.{Applies, Came, From, came, left, reset, sorted-take, take-from, take-new, take-old, takes-above, takes-high, takes-or-not, took}
use Rattle.rules.specs.Apply.{Ways, apply_node, outcome, stamp, take_all, takes}
use Rattle.rules.specs.Delta.{NodeDelta}
use Rattle.rules.specs.Node.{KeyValue, Node, Rec}
use Rattle.rules.specs.declared.DeltaStatus.TheVariants.{Apply, ApplyAfterReset}
use Rattle.demand3.proofs.History.{Latest, Newer, Numbered, latest}
use Rattle.demand3.proofs.Honest.{Current, Honest, HonestDelta, HonestNode, Removed}
use Rattle.demand3.specs.Demand3.{Holds, Last, reach}

module _ (h : List KeyValue) (num : Numbered h) (now : ℕ) (d : NodeDelta) (x : HonestDelta h d) where
  -- in the delta a key's last stands alone
  alone : (s : KeyValue) → s ∈ h → s.version ≤ d.max → Last h s → (t : KeyValue) → t ∈ d.recs → t.key ≡ s.key → t ≡ s
  alone s m b l t n k = at (x.current t n)
    where
      at : Current h (reach d.last_gc d.max) t → t ≡ s
      at (inl u) = num.one t s (x.told t n) m (let a = u s m (sym k) in let c = l t (x.told t n) k in omega arith)
      at (inr y) = let a = l y.kv y.told (y.same ∙ k) in let c = y.above in absurd (omega arith)

  -- the records after the taking, from records `l` under `held` and `gc`
  module _ (held gc : ℕ) (l : List Rec) where
    Out : Rec → Type 0
    Out r = From held gc now d.recs l r

    Has : KeyValue → Type 0
    Has s = (r : Rec) × (r ∈ take_all held gc now d.recs l) × (r.kv ≡ s)

    taken-told : ((r : Rec) → r ∈ l → r.kv ∈ h) → (r : Rec) → Out r → r.kv ∈ h
    unfolding Out
    taken-told f r (inl s) = subst (λ (y : Rec). y.kv ∈ h) (sym s.3) (x.told s.0 s.1)
    taken-told f r (inr m) = f r m.0

    taken-within : ((r : Rec) → r ∈ l → r.kv.version ≤ d.max) → (r : Rec) → Out r → r.kv.version ≤ d.max
    unfolding Out
    taken-within f r (inl s) = subst (λ (y : Rec). y.kv.version ≤ d.max) (sym s.3) (x.within s.0 s.1)
    taken-within f r (inr m) = f r m.0

    -- a record that is taken is its key's last, or the last is above both numbers of the node afterwards
    new-current : gc ≤ max d.last_gc d.max → (s : KeyValue) → s ∈ d.recs → Current h (reach gc d.max) s
    new-current b s m = at (x.current s m)
      where
        at : Current h (reach d.last_gc d.max) s → Current h (reach gc d.max) s
        at (inl y) = inl y
        at (inr y) = inr (record { kv = y.kv; told = y.told; same = y.same; above = let a = y.above in omega arith })

    -- what a key was given last, above what was held
    new-brings : d.from ≤ held → d.last_gc ≤ max held gc → (s : KeyValue) → s ∈ h → Last h s → held < s.version → s.version ≤ d.max → Has s ⊎ Removed gc s
    unfolding Has
    new-brings f g s m z a b = at (x.brings s m z (omega arith) b)
      where
        at : (s ∈ d.recs) ⊎ Removed d.last_gc s → Has s ⊎ Removed gc s
        at (inr y) = inr (y.0, let c = y.1 in omega arith)
        at (inl y) = by (takes-or-not held gc s a)
          where
            by : (takes held gc s ≡ true) ⊎ Removed gc s → Has s ⊎ Removed gc s
            by (inl q) = inl (stamp now s, take-new held gc now l y q (alone s m b z), refl)
            by (inr q) = inr q

  module _ (n : Node) (ok : HonestNode h n) where
    hon : Honest h 0 n.last_gc n.max (Holds n)
    hon = ok.honest

    after-reset : d.from ≡ 0 → HonestNode h (outcome ApplyAfterReset now d n)
    unfolding outcome Sorted Out Has
    after-reset z =
        record {
          sorted = sorted-take 0 d.last_gc now d.recs [] tt;
          honest =
              record {
                gc_low = x.gc_low;
                max-low = x.max-low;
                told = λ s y. subst (λ (t : KeyValue). t ∈ h) y.2 (taken-told 0 d.last_gc [] (λ r m. absurd (in-none m)) y.0 (from y.0 y.1));
                within = λ s y. subst (λ (t : KeyValue). t.version ≤ d.max) y.2 (taken-within 0 d.last_gc [] (λ r m. absurd (in-none m)) y.0 (from y.0 y.1));
                current = λ s y. subst Now y.2 (current y.0 (from y.0 y.1));
                brings = λ s m l a b. new-brings 0 d.last_gc [] (omega arith) (omega arith) s m l a b;
              };
        }
      where
        from : (r : Rec) → r ∈ take_all 0 d.last_gc now d.recs [] → Out 0 d.last_gc [] r
        from r m = take-from 0 d.last_gc now d.recs [] tt m

        Now : KeyValue → Type 0
        Now s = Current h (reach d.last_gc d.max) s

        current : (r : Rec) → Out 0 d.last_gc [] r → Now r.kv
        current r (inl s) = subst (λ (y : Rec). Now y.kv) (sym s.3) (new-current 0 d.last_gc [] (omega arith) s.0 s.1)
        current r (inr m) = absurd (in-none m.0)

    after-apply : d.from ≤ n.max → d.last_gc ≤ max n.last_gc n.max → n.max < d.max → n.last_gc ≤ max n.max (max d.last_gc d.max) → HonestNode h (outcome Apply now d n)
    unfolding outcome Out Has
    after-apply a g b u =
        record {
          sorted = sorted-take n.max n.last_gc now d.recs n.recs ok.sorted;
          honest =
              record {
                gc_low = hon.gc_low;
                max-low = x.max-low;
                told =
                    λ s y.
                    subst (λ (t : KeyValue). t ∈ h) y.2
                    (taken-told n.max n.last_gc n.recs (λ r m. hon.told r.kv (r, m, refl)) y.0 (from y.0 y.1));
                within =
                    λ s y.
                    subst (λ (t : KeyValue). t.version ≤ d.max) y.2
                    (taken-within n.max n.last_gc n.recs (λ r m. let c = hon.within r.kv (r, m, refl) in omega arith) y.0 (from y.0 y.1));
                current = λ s y. subst Now y.2 (current y.0 (from y.0 y.1));
                brings = λ s m l c e. brings s m l c e (leb s.version n.max) refl;
              };
        }
      where
        from : (r : Rec) → r ∈ take_all n.max n.last_gc now d.recs n.recs → Out n.max n.last_gc n.recs r
        from r m = take-from n.max n.last_gc now d.recs n.recs ok.sorted m

        Now : KeyValue → Type 0
        Now s = Current h (reach n.last_gc d.max) s

        -- an old record whose key was given a version above both numbers: the delta brings the last of them, or ends before it
        old : (r : Rec) → ((s : KeyValue) → s ∈ d.recs → takes n.max n.last_gc s ≡ true → s.key ≡ key_of r → ⊥) → Newer h (reach n.last_gc n.max) (key_of r) → Newer h (reach n.last_gc d.max) (key_of r)
        old r gone y = at (latest (key_of r) h)
          where
            at : ((s : KeyValue) → s ∈ h → s.key ≡ key_of r → ⊥) ⊎ Latest h (key_of r) → Newer h (reach n.last_gc d.max) (key_of r)
            at (inl f) = absurd (f y.kv y.told y.same)
            at (inr v) = by (leb v.kv.version d.max) refl
              where
                high : reach n.last_gc n.max < v.kv.version
                high = let e = y.above in let f = v.last y.kv y.told (y.same ∙ sym v.same) in omega arith

                by : (c : Bool) → leb v.kv.version d.max ≡ c → Newer h (reach n.last_gc d.max) (key_of r)
                by false q = record { kv = v.kv; told = v.told; same = v.same; above = let e = high in let f = leb-false v.kv.version d.max q in omega arith }
                by true q = to (x.brings v.kv v.told v.last (let e = high in omega arith) (leb-true _ _ q))
                  where
                    to : (v.kv ∈ d.recs) ⊎ Removed d.last_gc v.kv → Newer h (reach n.last_gc d.max) (key_of r)
                    to (inl o) = absurd (gone v.kv o (takes-high n.max n.last_gc v.kv (let e = high in omega arith) (let e = high in omega arith)) v.same)
                    to (inr o) = let e = high in let f = o.1 in absurd (omega arith)

        current : (r : Rec) → Out n.max n.last_gc n.recs r → Now r.kv
        current r (inl s) = subst (λ (y : Rec). Now y.kv) (sym s.3) (new-current n.max n.last_gc n.recs (omega arith) s.0 s.1)
        current r (inr m) = by (hon.current r.kv (r, m.0, refl))
          where
            by : Current h (reach n.last_gc n.max) r.kv → Now r.kv
            by (inl l) = inl l
            by (inr o) = inr (old r m.1 o)

        Stands : KeyValue → Type 0
        Stands s = (r : Rec) × (r ∈ take_all n.max n.last_gc now d.recs n.recs) × (r.kv ≡ s)

        brings : (s : KeyValue) → s ∈ h → Last h s → 0 < s.version → s.version ≤ d.max → (c : Bool) → leb s.version n.max ≡ c → Stands s ⊎ Removed n.last_gc s
        brings s m l c e false q = new-brings n.max n.last_gc n.recs a (omega arith) s m l (leb-false _ _ q) e
        brings s m l c e true q = at (hon.brings s m l c (leb-true _ _ q))
          where
            at : Holds n s ⊎ Removed n.last_gc s → Stands s ⊎ Removed n.last_gc s
            at (inr y) = inr y
            at (inl y) = inl (y.0, take-old n.max n.last_gc now d.recs n.recs y.1 (λ t o p k. absurd (never t o p k)), y.2)
              where
                never : (t : KeyValue) → t ∈ d.recs → takes n.max n.last_gc t ≡ true → t.key ≡ key_of y.0 → ⊥
                never t o p k =
                    let i = l t (x.told t o) (k ∙ ap (λ (z : KeyValue). z.key) y.2) in
                    let j = takes-above n.max n.last_gc t p in
                    let f = leb-true s.version n.max q in
                    omega arith

    -- in any ways
    pub node-apply : (ways : Ways) → (Applies ways now d n → n.last_gc ≤ max n.max (max d.last_gc d.max)) → HonestNode h (apply_node ways now d n).node
    node-apply ways u = go _ (came ways now d n)
      where
        go : (x : Node) → Came ways now d n x → HonestNode h x
        go x left = ok
        go x (reset r) = after-reset r.from-none
        go x (took r) = after-apply r.from_held r.gc_held r.newer (u r)
