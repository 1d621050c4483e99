-- What a node delta does to a node: when it is taken, in any ways (`Came`), and what stands in the node's records then. Assumes nothing.
use Prim.Native.Nat.{◌<◌, ◌≤◌, max, ℕ}
use mathlib.Core.Bool.{Bool, ◌&&◌, false, false≢true, not, true, true≢false}
use mathlib.Core.List.{List, [], ◌∷◌}
use mathlib.Core.Logic.{◌⊎◌, inl, inr}
use mathlib.Core.Path.{◌∙◌, ◌≡◌, ap, refl, subst, sym}
use native.Mathlib.Omega.{arith}
use lib.Dec.{eqb, leb, ltb}
use borrow.Author.Tests.{eq-eqb, eqb-true, le-ltb, leb-true, lt-leb, lt-ltb, ltb-false, ltb-true}
use Rattle.fields.proofs.Choice.{in-cons, in-none}
use Rattle.fields.proofs.Ordered.{same_false, same_true}
use Rattle.fields.specs.Choice.{◌∈◌, here, later, pick}
use Rattle.fields.specs.Order.{same_bytes}
use Rattle.rules.proofs.Records.{Sorted, key_of, sorted-store, store-from, store-new, store-old}
use Rattle.rules.specs.Apply.{Fence, Ways, answered, apply_node, delta_status, newer_of, outcome, stamp, status_of, take_all, taken_as, takes}
use Rattle.rules.specs.Compute.{from_of}
use Rattle.rules.specs.Delta.{NodeDelta}
use Rattle.rules.specs.Node.{KeyValue, Node, Rec, scheduled, store}
use Rattle.rules.specs.declared.DeltaStatus.{DeltaStatus}
use Rattle.rules.specs.declared.DeltaStatus.TheVariants.{Apply, ApplyAfterReset, Fenced, Reject}
use Rattle.rules.specs.declared.NodeAnswer.{NodeAnswer}
use Rattle.rules.specs.declared.NodeAnswer.TheVariants as node

-- why a delta_status was given
data Judged (fence : Fence) (n : Node) (d : NodeDelta) : DeltaStatus → Type 0 where
  rejected : Judged fence n d Reject
  fenced : Judged fence n d Fenced
  resets : d.from ≡ 0 → n.last_gc < d.last_gc → n.max < d.last_gc → Judged fence n d ApplyAfterReset
  applies : d.from ≤ n.max → d.last_gc ≤ max n.last_gc n.max → n.max < d.max → fence n.last_gc n.max d.last_gc d.max ≡ false → Judged fence n d Apply

judge : (fence : Fence) (n : Node) (d : NodeDelta) → Judged fence n d (delta_status fence n d)
unfolding delta_status status_of newer_of
judge fence n d =
    go (ltb n.max d.from) refl (fence n.last_gc n.max d.last_gc d.max) refl (ltb n.last_gc d.last_gc) refl (ltb n.max d.last_gc) refl (eqb d.from 0) refl
    (ltb n.max d.max) refl
  where
    go : (a : Bool)
        → ltb n.max d.from ≡ a
        → (s : Bool)
        → fence n.last_gc n.max d.last_gc d.max ≡ s
        → (b : Bool)
        → ltb n.last_gc d.last_gc ≡ b
        → (c : Bool)
        → ltb n.max d.last_gc ≡ c
        → (z : Bool)
        → eqb d.from 0 ≡ z
        → (e : Bool)
        → ltb n.max d.max ≡ e
        → Judged fence n d (pick a Reject (pick s Fenced (pick (b && c) (pick z ApplyAfterReset Reject) (pick e Apply Reject))))
    go true a s s' b b' c c' z z' e e' = rejected
    go false a true s b b' c c' z z' e e' = fenced
    go false a false s true b true c true z e e' = resets (eqb-true _ _ z) (ltb-true _ _ b) (ltb-true _ _ c)
    go false a false s true b true c false z e e' = rejected
    go false a false s true b false c z z' true e =
        let h : d.from ≤ n.max = ltb-false _ _ a in
        let g : d.last_gc ≤ n.max = ltb-false _ _ c in
        applies h (omega arith) (ltb-true _ _ e) s
    go false a false s true b false c z z' false e = rejected
    go false a false s false b c c' z z' true e =
        let h : d.from ≤ n.max = ltb-false _ _ a in
        let g : d.last_gc ≤ n.last_gc = ltb-false _ _ b in
        applies h (omega arith) (ltb-true _ _ e) s
    go false a false s false b c c' z z' false e = rejected

-- ---- the node afterwards

-- why a delta is taken after a reset
pub record Resets (ways : Ways) (now : ℕ) (d : NodeDelta) (n : Node) : Type 0 where
  pub from-none : d.from ≡ 0
  pub above_gc : n.last_gc < d.last_gc
  pub above_max : n.max < d.last_gc
  pub roomy : ways.roomy (outcome ApplyAfterReset now d n).recs ≡ true

-- and why without one
pub record Applies (ways : Ways) (now : ℕ) (d : NodeDelta) (n : Node) : Type 0 where
  pub from_held : d.from ≤ n.max
  pub gc_held : d.last_gc ≤ max n.last_gc n.max
  pub newer : n.max < d.max
  pub let-in : ways.fence n.last_gc n.max d.last_gc d.max ≡ false
  pub roomy : ways.roomy (outcome Apply now d n).recs ≡ true

-- The node stays, or it takes the delta. This and `taken-node` are all that demand 3 sees of the ways.
pub data Came (ways : Ways) (now : ℕ) (d : NodeDelta) (n : Node) : Node → Type 0 where
  left : Came ways now d n n
  reset : Resets ways now d n → Came ways now d n (outcome ApplyAfterReset now d n)
  took : Applies ways now d n → Came ways now d n (outcome Apply now d n)

module _ (ways : Ways) (now : ℕ) (d : NodeDelta) (n : Node) where
  pub came : Came ways now d n (apply_node ways now d n).node
  unfolding apply_node
  came = at (delta_status ways.fence n d) (judge ways.fence n d)
    where
      room : (a : NodeAnswer) (o : Node) → (ways.roomy o.recs ≡ true → Came ways now d n o) → (b : Bool) → ways.roomy o.recs ≡ b → Came ways now d n (pick b (taken_as a o) (taken_as node.Room n)).node
      room a o f true q = f q
      room a o f false q = left

      at : (v : DeltaStatus) → Judged ways.fence n d v → Came ways now d n (answered ways v (outcome v now d n) n).node
      at Reject j = left
      at Fenced j = left
      at ApplyAfterReset (resets z a b) =
          room node.ApplyAfterReset (outcome ApplyAfterReset now d n) (λ q. reset (record { from-none = z; above_gc = a; above_max = b; roomy = q })) _ refl
      at Apply (applies a g m s) =
          room node.Apply (outcome Apply now d n) (λ q. took (record { from_held = a; gc_held = g; newer = m; let-in = s; roomy = q })) _ refl

  -- without Room it is what its status makes of it
  pub taken-node : ((apply_node ways now d n).answer ≡ node.Room → ⊥) → (apply_node ways now d n).node ≡ outcome (delta_status ways.fence n d) now d n
  unfolding apply_node outcome
  taken-node h = at (delta_status ways.fence n d) h
    where
      room : (a : NodeAnswer) (o : Node) (b : Bool) → ((pick b (taken_as a o) (taken_as node.Room n)).answer ≡ node.Room → ⊥) → (pick b (taken_as a o) (taken_as node.Room n)).node ≡ o
      room a o true g = refl
      room a o false g = absurd (g refl)

      at : (v : DeltaStatus) → ((answered ways v (outcome v now d n) n).answer ≡ node.Room → ⊥) → (answered ways v (outcome v now d n) n).node ≡ outcome v now d n
      at Reject g = refl
      at Fenced g = refl
      at Apply g = room node.Apply (outcome Apply now d n) (ways.roomy (outcome Apply now d n).recs) g
      at ApplyAfterReset g = room node.ApplyAfterReset (outcome ApplyAfterReset now d n) (ways.roomy (outcome ApplyAfterReset now d n).recs) g

-- ---- when a status is given

-- for a from that the node has, where no fence stands against it
pub status-reset : (fence : Fence) (n : Node) (d : NodeDelta) → fence n.last_gc n.max d.last_gc d.max ≡ false → d.from ≡ 0 → n.last_gc < d.last_gc → n.max < d.last_gc → delta_status fence n d ≡ ApplyAfterReset
unfolding delta_status status_of newer_of
status-reset fence n d s z a b = rw (le-ltb n.max d.from (omega arith), s, lt-ltb _ _ a, lt-ltb _ _ b, eq-eqb _ _ z)

-- neither of two is below what is within them
pub not-both : (a b m : ℕ) → m ≤ max a b → (ltb a m && ltb b m) ≡ false
not-both a b m h = go (ltb a m) refl (ltb b m) refl
  where
    go : (s : Bool) → ltb a m ≡ s → (t : Bool) → ltb b m ≡ t → (s && t) ≡ false
    go true s true t = let x = ltb-true a m s in let y = ltb-true b m t in absurd (omega arith)
    go true s false t = refl
    go false s t u = refl

pub status-apply : (fence : Fence) (n : Node) (d : NodeDelta) → fence n.last_gc n.max d.last_gc d.max ≡ false → d.from ≤ n.max → d.last_gc ≤ max n.last_gc n.max → n.max < d.max → delta_status fence n d ≡ Apply
unfolding delta_status status_of newer_of
status-apply fence n d s a b c = rw (le-ltb _ _ a, s, not-both _ _ _ b, lt-ltb _ _ c)

-- a delta that ends within the node's max
pub status-old : (fence : Fence) (n : Node) (d : NodeDelta) → fence n.last_gc n.max d.last_gc d.max ≡ false → d.from ≤ n.max → d.last_gc ≤ max n.last_gc n.max → d.max ≤ n.max → delta_status fence n d ≡ Reject
unfolding delta_status status_of newer_of
status-old fence n d s a b c = rw (le-ltb _ _ a, s, not-both _ _ _ b, le-ltb _ _ c)

-- from is 0 where a reset is due, else the digest's max
pub data FromOf (p : Node) (g m : ℕ) : ℕ → Type 0 where
  reset_due : g < p.last_gc → m < p.last_gc → FromOf p g m 0
  no-reset : p.last_gc ≤ max g m → FromOf p g m m

pub from-of : (p : Node) (g m : ℕ) → FromOf p g m (from_of p.last_gc g m)
unfolding from_of
from-of p g m = go (ltb g p.last_gc) refl (ltb m p.last_gc) refl
  where
    go : (s : Bool) → ltb g p.last_gc ≡ s → (t : Bool) → ltb m p.last_gc ≡ t → FromOf p g m (pick (s && t) 0 m)
    go true s true t = reset_due (ltb-true _ _ s) (ltb-true _ _ t)
    go true s false t = no-reset (let y = ltb-false m p.last_gc t in omega arith)
    go false s t u = no-reset (let y = ltb-false g p.last_gc s in omega arith)

pub from-no-reset : (p : Node) (g m : ℕ) → p.last_gc ≤ max g m → from_of p.last_gc g m ≡ m
unfolding from_of
from-no-reset p g m h = rw (not-both _ _ _ h)

-- ---- the records

-- what is taken is above the max held before
pub takes-above : (held last_gc : ℕ) (s : KeyValue) → takes held last_gc s ≡ true → held < s.version
unfolding takes
takes-above held last_gc s e = go (ltb held s.version) refl e
  where
    go : (b : Bool) → ltb held s.version ≡ b → (b && not (scheduled s.status && leb s.version last_gc)) ≡ true → held < s.version
    go true q e = ltb-true _ _ q
    go false q e = absurd (false≢true e)

-- above that max a record is taken, or is scheduled and at or below last_gc
pub takes-or-not : (held last_gc : ℕ) (s : KeyValue) → held < s.version → (takes held last_gc s ≡ true) ⊎ ((scheduled s.status ≡ true) × (s.version ≤ last_gc))
unfolding takes
takes-or-not held last_gc s h = rw (lt-ltb _ _ h) (go (scheduled s.status) refl (leb s.version last_gc) refl)
  where
    go : (b : Bool) → scheduled s.status ≡ b → (c : Bool) → leb s.version last_gc ≡ c → (not (b && c) ≡ true) ⊎ ((b ≡ true) × (s.version ≤ last_gc))
    go true q true r = inr (refl, leb-true _ _ r)
    go true q false r = inl refl
    go false q c r = inl refl

-- above last_gc too it is taken
pub takes-high : (held last_gc : ℕ) (s : KeyValue) → held < s.version → last_gc < s.version → takes held last_gc s ≡ true
unfolding takes
takes-high held last_gc s h g = rw (lt-ltb _ _ h, lt-leb _ _ g) (go (scheduled s.status))
  where
    go : (b : Bool) → not (b && false) ≡ true
    go true = refl
    go false = refl

module _ (held last_gc now : ℕ) where
  pub sorted-take : (ss : List KeyValue) (l : List Rec) → Sorted l → Sorted (take_all held last_gc now ss l)
  unfolding take_all
  sorted-take [] l h = h
  sorted-take (s ∷ ss) l h = sorted-take ss _ (go (takes held last_gc s))
    where
      go : (b : Bool) → Sorted (pick b (store (stamp now s) l) l)
      go true = sorted-store (stamp now s) l h
      go false = h

  -- where a record is from, after the taking
  abbrev pub From : List KeyValue → List Rec → Rec → Type 0
  From ss l x = ((s : KeyValue) × (s ∈ ss) × (takes held last_gc s ≡ true) × (x ≡ stamp now s)) ⊎ ((x ∈ l) × ((s : KeyValue) → s ∈ ss → takes held last_gc s ≡ true → s.key ≡ key_of x → ⊥))

  pub take-from : (ss : List KeyValue) (l : List Rec) → Sorted l → {x : Rec} → x ∈ take_all held last_gc now ss l → From ss l x
  unfolding take_all
  take-from [] l h m = inr (m, λ s n. absurd (in-none n))
  take-from (s ∷ ss) l h {x} m = go (takes held last_gc s) refl (take-from ss (pick (takes held last_gc s) (store (stamp now s) l) l) (order (takes held last_gc s)) m)
    where
      order : (b : Bool) → Sorted (pick b (store (stamp now s) l) l)
      order true = sorted-store (stamp now s) l h
      order false = h

      up : (t : KeyValue) × (t ∈ ss) × (takes held last_gc t ≡ true) × (x ≡ stamp now t) → From (s ∷ ss) l x
      up t = inl (t.0, later t.1, t.2, t.3)

      go : (b : Bool) → takes held last_gc s ≡ b → From ss (pick b (store (stamp now s) l) l) x → From (s ∷ ss) l x
      go b q (inl t) = up t
      go true q (inr m) = at (store-from (stamp now s) l h m.0)
        where
          others : (key_of x ≡ s.key → ⊥) → (t : KeyValue) → (t ≡ s) ⊎ (t ∈ ss) → takes held last_gc t ≡ true → t.key ≡ key_of x → ⊥
          others f t (inl e) p k = f (sym k ∙ ap (λ (y : KeyValue). y.key) e)
          others f t (inr n) p k = m.1 t n p k

          at : (x ≡ stamp now s) ⊎ ((x ∈ l) × (key_of x ≡ s.key → ⊥)) → From (s ∷ ss) l x
          at (inl e) = inl (s, here refl, q, e)
          at (inr o) = inr (o.0, λ t n. others o.1 t (in-cons n))
      go false q (inr m) = inr (m.0, λ t n. others t (in-cons n))
        where
          others : (t : KeyValue) → (t ≡ s) ⊎ (t ∈ ss) → takes held last_gc t ≡ true → t.key ≡ key_of x → ⊥
          others t (inl e) p k = true≢false (sym p ∙ ap (takes held last_gc) e ∙ q)
          others t (inr n) p k = m.1 t n p k

  -- a record stays, unless another of its key is taken
  pub take-old : (ss : List KeyValue) {x : Rec} (l : List Rec) → x ∈ l → ((s : KeyValue) → s ∈ ss → takes held last_gc s ≡ true → s.key ≡ key_of x → x ≡ stamp now s) → x ∈ take_all held last_gc now ss l
  unfolding take_all
  take-old [] l m f = m
  take-old (s ∷ ss) {x} l m f = take-old ss _ (go (takes held last_gc s) refl) (λ t n. f t (later n))
    where
      at : (b : Bool) → same_bytes s.key (key_of x) ≡ b → takes held last_gc s ≡ true → x ∈ store (stamp now s) l
      at true e q = subst (λ (y : Rec). y ∈ store (stamp now s) l) (sym (f s (here refl) q (same_true _ _ e))) (store-new (stamp now s) l)
      at false e q = store-old (stamp now s) m (λ k. same_false _ _ e (sym k))

      go : (b : Bool) → takes held last_gc s ≡ b → x ∈ pick b (store (stamp now s) l) l
      go true q = at (same_bytes s.key (key_of x)) refl q
      go false q = m

  -- a record of the delta that is not skipped stands there afterwards, if no other record of its key is in the delta
  pub take-new : {s : KeyValue} {ss : List KeyValue} (l : List Rec) → s ∈ ss → takes held last_gc s ≡ true → ((t : KeyValue) → t ∈ ss → t.key ≡ s.key → t ≡ s) → stamp now s ∈ take_all held last_gc now ss l
  unfolding take_all
  take-new {s} l (here {a = a} {l = ss} e) q one = take-old ss _ put-in (λ t n p k. ap (stamp now) (sym (one t (later n) k)))
    where
      put-in : stamp now s ∈ pick (takes held last_gc a) (store (stamp now a) l) l
      put-in = rw (sym (ap (takes held last_gc) e) ∙ q) (subst (λ (y : KeyValue). stamp now y ∈ store (stamp now a) l) (sym e) (store-new (stamp now a) l))
  take-new l (later {l = ss} m) q one = take-new _ m q (λ t n. one t (later n))
