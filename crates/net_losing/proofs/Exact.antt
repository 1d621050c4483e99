-- Nodes and deltas that are exact: honest by every earlier history that they have reached, and the record of version max stands there, or last_gc reaches max. A delta of an exact node of which
-- nothing is cut is exact, and so is an exact node that takes one. Exact deltas are sharp. Assumes nothing.
use Prim.Native.Nat.{◌<◌, ◌≤◌, max, suc, zero, ℕ}
use mathlib.Core.Bool.{Bool, false, not, true}
use mathlib.Core.List.{List, [], ◌∷◌}
use mathlib.Core.Logic.{◌⊎◌, inl, inr}
use mathlib.Core.Path.{◌≡◌, ap, refl, subst, sym}
use native.Mathlib.Omega.{arith}
use lib.Dec.{leb}
use lib.ListN.{length, take}
use borrow.Author.Tests.{leb-false, leb-true}
use Rattle.fields.proofs.Choice.{in-cons, in-none, keep-in}
use Rattle.fields.specs.Choice.{◌∈◌, pick}
use Rattle.rules.proofs.Records.{gc-covers, gc-rises, store-new}
use Rattle.rules.proofs.Sending.{carried, node_delta}
use Rattle.rules.proofs.Stale.{stale-in, top-is, top_of}
use Rattle.rules.proofs.Taking.{Applies, Came, FromOf, came, from-of, left, no-reset, reset, reset_due, take-new, takes-or-not, took}
use Rattle.rules.specs.Apply.{Ways, apply_node, outcome, stamp, takes}
use Rattle.rules.specs.Compute.{from_of, stale}
use Rattle.rules.specs.Delta.{NodeDelta}
use Rattle.rules.specs.Node.{Change, KeyValue, Node, Rec, fresh, goes, remove, with_heartbeat, write}
use Rattle.rules.specs.declared.Heartbeat.{Heartbeat}
use Rattle.demand3.proofs.Computing.{computed-honest}
use Rattle.demand3.proofs.Honest.{Current, HonestDelta, HonestNode, Removed, delta-grows, fresh-honest, gc-within, node-beat, node-grows, node-remove}
use Rattle.demand3.proofs.Publisher.{Publisher}
use Rattle.demand3.proofs.Step.{node-apply}
use Rattle.demand3.specs.Demand3.{reach}
use Rattle.net.proofs.Moments.{Longer, as_long, longer}
use Rattle.net_losing.proofs.Grown.{Grown, as_is, grown-long, grown-numbered, grown-same, more}
use Rattle.net_losing.proofs.Sharp.{SharpDelta}
use Rattle.net_losing.specs.Back.{reached}

-- ---- earlier histories

-- the whole, or one of what was given before
split : (g k : List KeyValue) → Grown g k → (w : KeyValue) (h : List KeyValue) → k ≡ w ∷ h → (g ≡ w ∷ h) ⊎ Grown g h
split g k as_is w h e = inl e
split g k (more s l z q) w h e = let f : l ≡ h = cc in inr (subst (Grown g) f z)

-- one that was given before begins with nothing
earlier : (g h : List KeyValue) → Grown g h → Grown [] h → Grown [] g
earlier g h as_is b = b
earlier g h (more s l z q) b = earlier g l z (go (split [] (s ∷ l) b s l refl))
  where
    go : ([] ≡ s ∷ l) ⊎ Grown [] l → Grown [] l
    go (inl e) = let a : 0 ≡ suc (length l) = ap length e in absurd (omega arith)
    go (inr y) = y

record Before (h : List KeyValue) (k : ℕ) : Type 0 where
  past : List KeyValue
  grown : Grown past h
  began : Grown [] past
  long : length past ≡ k

-- there is one of every length
before : (h : List KeyValue) → Grown [] h → (k : ℕ) → k ≤ length h → Before h k
before h as_is k b = record { past = []; grown = as_is; began = as_is; long = omega arith }
before h (more s l z q) k b = go (leb k (length l)) refl (before l z k)
  where
    go : (c : Bool) → leb k (length l) ≡ c → (k ≤ length l → Before l k) → Before (s ∷ l) k
    go true e ih = let r = ih (leb-true _ _ e) in record { past = r.past; grown = more s l r.grown q; began = r.began; long = r.long }
    go false e ih = let a = leb-false k (length l) e in record { past = s ∷ l; grown = as_is; began = more s l z q; long = omega arith }

-- what has its version within it was given by then
in-past : (g h : List KeyValue) → Grown g h → (s : KeyValue) → s ∈ h → s.version ≤ length g → s ∈ g
in-past g h as_is s m b = m
in-past g h (more t l z q) s m b = at (in-cons m) (λ n. in-past g l z s n b)
  where
    at : (s ≡ t) ⊎ (s ∈ l) → (s ∈ l → s ∈ g) → s ∈ g
    at (inl e) ih = let v : s.version ≡ t.version = ap (λ (y : KeyValue). y.version) e in let a = grown-long g l z in absurd (omega arith)
    at (inr n) ih = ih n

-- ---- exact nodes and deltas

abbrev pub Newest : Node → Type 0
Newest n = (n.max ≤ n.last_gc) ⊎ ((r : Rec) × (r ∈ n.recs) × (r.kv.version ≡ n.max))

abbrev NewestDelta : NodeDelta → Type 0
NewestDelta d = (d.max ≤ d.last_gc) ⊎ ((s : KeyValue) × (s ∈ d.recs) × (s.version ≡ d.max))

pub record Exact (h : List KeyValue) (n : Node) : Type 0 where
  pub low : reached n ≤ length h
  pub by_then : (g : List KeyValue) → Grown g h → reached n ≤ length g → HonestNode g n
  pub top : Newest n

pub record ExactDelta (h : List KeyValue) (d : NodeDelta) : Type 0 where
  pub low : reach d.last_gc d.max ≤ length h
  pub by_then : (g : List KeyValue) → Grown g h → reach d.last_gc d.max ≤ length g → HonestDelta g d
  pub top : NewestDelta d

-- by all that was given
pub exact-honest : (h : List KeyValue) (n : Node) → Exact h n → HonestNode h n
exact-honest h n x = x.by_then h as_is x.low

pub exact-delta-honest : (h : List KeyValue) (d : NodeDelta) → ExactDelta h d → HonestDelta h d
exact-delta-honest h d x = x.by_then h as_is x.low

module _ (h : List KeyValue) (w : KeyValue) (next : w.version ≡ suc (length h)) where
  exact-grows : (n : Node) → Exact h n → Exact (w ∷ h) n
  exact-grows n x = record { low = let a = x.low in omega arith; by_then = λ g z b. at g b (split g (w ∷ h) z w h refl); top = x.top }
    where
      at : (g : List KeyValue) → reached n ≤ length g → (g ≡ w ∷ h) ⊎ Grown g h → HonestNode g n
      at g b (inl e) = subst (λ (k : List KeyValue). HonestNode k n) (sym e) (node-grows h w next n (exact-honest h n x))
      at g b (inr y) = x.by_then g y b

  exact-delta-grows : (d : NodeDelta) → ExactDelta h d → ExactDelta (w ∷ h) d
  exact-delta-grows d x = record { low = let a = x.low in omega arith; by_then = λ g z b. at g b (split g (w ∷ h) z w h refl); top = x.top }
    where
      at : (g : List KeyValue) → reach d.last_gc d.max ≤ length g → (g ≡ w ∷ h) ⊎ Grown g h → HonestDelta g d
      at g b (inl e) = subst (λ (k : List KeyValue). HonestDelta k d) (sym e) (delta-grows h w next d (exact-delta-honest h d x))
      at g b (inr y) = x.by_then g y b

pub exact-longer : (h k : List KeyValue) → Longer h k → (n : Node) → Exact h n → Exact k n
exact-longer h k as_long n x = x
exact-longer h k (longer s q) n x = exact-grows h s q n x

pub exact-delta-longer : (h k : List KeyValue) → Longer h k → (d : NodeDelta) → ExactDelta h d → ExactDelta k d
exact-delta-longer h k as_long d x = x
exact-delta-longer h k (longer s q) d x = exact-delta-grows h s q d x

-- ---- what keeps a node exact

pub exact-fresh : (h : List KeyValue) → Exact h fresh
exact-fresh h = record { low = omega arith; by_then = λ g z b. fresh-honest g; top = inl (omega arith) }

-- the owner's, if its newest record stands or was removed
pub exact-owner : (h : List KeyValue) (p : Node) → Publisher h p → Newest p → Exact h p
exact-owner h p own t =
    record {
      low = let a = own.top in let b = own.node.honest.gc_low in omega arith;
      by_then = λ g z b. subst (λ (k : List KeyValue). HonestNode k p) (sym (grown-same g h z (let a = own.top in omega arith))) own.node;
      top = t;
    }

pub top-write : (k : List ℕ) (c : Change) (n : Node) → Newest (write k c n)
unfolding write
top-write k c n = inr (_, store-new _ _, refl)

module _ (h : List KeyValue) (n : Node) (x : Exact h n) where
  pub exact-beat : (b : Heartbeat) → Exact h (with_heartbeat b n)
  exact-beat b = record { low = x.low; by_then = λ g z l. node-beat g n (x.by_then g z l) b; top = x.top }

  pub exact-remove : (due : Rec → Bool) → Exact h (remove due n)
  unfolding remove
  exact-remove due =
      record {
        low = let a = gc-within h n (exact-honest h n x) due (length h) (exact-honest h n x).honest.gc_low (exact-honest h n x).honest.max-low in let b = x.low in omega arith;
        by_then = λ g z b. node-remove g n (x.by_then g z (let a = gc-rises due n.last_gc n.recs in omega arith)) due;
        top = at x.top;
      }
    where
      at : Newest n → Newest (remove due n)
      at (inl a) = inl (let b = gc-rises due n.last_gc n.recs in omega arith)
      at (inr r) = go (goes due r.0) refl
        where
          go : (b : Bool) → goes due r.0 ≡ b → Newest (remove due n)
          go true q = inl (let a = gc-covers due n.last_gc r.1 q in let b = r.2 in omega arith)
          go false q = inr (r.0, keep-in (λ s. not (goes due s)) r.1 (ap not q), r.2)

-- ---- exact deltas are sharp

pub exact-sharp : (h : List KeyValue) → Grown [] h → (d : NodeDelta) → ExactDelta h d → SharpDelta h d
exact-sharp h base d x t m s told k b = at (hon.current t m)
  where
    r : Before h (reach d.last_gc d.max)
    r = before h base (reach d.last_gc d.max) x.low

    g : List KeyValue
    g = r.past

    hon : HonestDelta g d
    hon = x.by_then g r.grown (let a = r.long in omega arith)

    at : Current g (reach d.last_gc d.max) t → s.version ≤ t.version
    at (inl l) = l s (in-past g h r.grown s told (let a = r.long in omega arith)) k
    at (inr y) = let a = y.above in let c = (grown-numbered g r.began).high y.kv y.told in let e = r.long in absurd (omega arith)

-- ---- an exact node takes an exact delta

module _ (h : List KeyValue) (base : Grown [] h) (now : ℕ) (d : NodeDelta) (y : ExactDelta h d) (n : Node) (x : Exact h n) (ways : Ways) (safe : Applies ways now d n → n.last_gc ≤ max n.max (max d.last_gc d.max)) where
  abbrev m : Node
  m = (apply_node ways now d n).node

  farther : (k : Node) → Came ways now d n k → reached n ≤ reached k
  unfolding outcome
  farther k left = omega arith
  farther k (reset r) = let a = r.above_gc in let b = r.above_max in omega arith
  farther k (took r) = let a = r.newer in omega arith

  -- what reaches less than the delta took nothing of it
  behind : (g : List KeyValue) → Grown g h → (k : Node) → Came ways now d n k → reached k ≤ length g → length g < reach d.last_gc d.max → HonestNode g k
  unfolding outcome
  behind g z k left b c = x.by_then g z b
  behind g z k (reset r) b c = absurd (omega arith)
  behind g z k (took r) b c = let a = r.newer in let e = r.gc_held in absurd (omega arith)

  honest-then : (g : List KeyValue) → Grown g h → reached m ≤ length g → HonestNode g m
  honest-then g z b = go (leb (reach d.last_gc d.max) (length g)) refl
    where
      go : (c : Bool) → leb (reach d.last_gc d.max) (length g) ≡ c → HonestNode g m
      go true e =
          node-apply g (grown-numbered g (earlier g h z base)) now d (y.by_then g z (leb-true _ _ e)) n (x.by_then g z (let a = farther m (came ways now d n) in omega arith)) ways safe
      go false e = behind g z m (came ways now d n) b (leb-false _ _ e)

  -- a record of the delta stands alone
  alone : (s : KeyValue) → s ∈ d.recs → (t : KeyValue) → t ∈ d.recs → t.key ≡ s.key → t ≡ s
  alone s i t j k =
      let hon = exact-delta-honest h d y in
      let sharp = exact-sharp h base d y in
      let a = sharp s i t (hon.told t j) k (let b = hon.within t j in omega arith) in
      let c = sharp t j s (hon.told s i) (sym k) (let b = hon.within s i in omega arith) in
      (grown-numbered h base).one t s (hon.told t j) (hon.told s i) (omega arith)

  top-then : (k : Node) → Came ways now d n k → Newest k
  unfolding outcome
  top-then k left = x.top
  top-then k (reset r) = at y.top
    where
      at : NewestDelta d → Newest k
      at (inl a) = inl a
      at (inr s) = by (takes-or-not 0 d.last_gc s.0 ((grown-numbered h base).low s.0 ((exact-delta-honest h d y).told s.0 s.1)))
        where
          by : (takes 0 d.last_gc s.0 ≡ true) ⊎ Removed d.last_gc s.0 → Newest k
          by (inl q) = inr (stamp now s.0, take-new 0 d.last_gc now [] s.1 q (alone s.0 s.1), s.2)
          by (inr q) = inl (let a = q.1 in let b = s.2 in omega arith)
  top-then k (took r) = at y.top
    where
      at : NewestDelta d → Newest k
      at (inl a) = inl (let b = r.newer in let c = r.gc_held in omega arith)
      at (inr s) = by (takes-or-not n.max n.last_gc s.0 (let a = r.newer in let b = s.2 in omega arith))
        where
          by : (takes n.max n.last_gc s.0 ≡ true) ⊎ Removed n.last_gc s.0 → Newest k
          by (inl q) = inr (stamp now s.0, take-new n.max n.last_gc now n.recs s.1 q (alone s.0 s.1), s.2)
          by (inr q) = inl (let a = q.1 in let b = s.2 in omega arith)

  pub exact-apply : Exact h m
  exact-apply =
      let hon = node-apply h (grown-numbered h base) now d (exact-delta-honest h d y) n (exact-honest h n x) ways safe in
      record { low = let a = hon.honest.gc_low in let b = hon.honest.max-low in omega arith; by_then = honest-then; top = top-then m (came ways now d n) }

-- ---- what is computed of an exact node, uncut

take_whole : {A : Type 0} (n : ℕ) (l : List A) → length (take n l) ≡ length l → take n l ≡ l
take_whole zero [] e = refl
take_whole zero (a ∷ l) e = absurd (omega arith)
take_whole (suc n) [] e = refl
take_whole (suc n) (a ∷ l) e = ap (λ (k : List _). a ∷ k) (take_whole n l (omega arith))

module _ (h : List KeyValue) (base : Grown [] h) (n : Node) (x : Exact h n) (g m count : ℕ) (fits : Bool) (behind : m < n.max) where
  abbrev from : ℕ
  from = from_of n.last_gc g m

  abbrev d : NodeDelta
  d = node_delta n g m count fits

  from_low : from < n.max
  from_low = go from (from-of n g m)
    where
      go : (z : ℕ) → FromOf n g m z → z < n.max
      go z (reset_due a b) = omega arith
      go z (no-reset a) = omega arith

  hon : HonestDelta h d
  hon = computed-honest h (grown-numbered h base) n (exact-honest h n x) g m count fits

  -- where the newest record stands, it is one of those above from
  newest : (r : Rec) → r ∈ n.recs → r.kv.version ≡ n.max → r.kv ∈ stale from n.recs
  newest r i e = stale-in from i (let a = from_low in omega arith)

  made-top : (all : List KeyValue) → stale from n.recs ≡ all → (carried fits n.max all (take count all) ≤ n.last_gc) ⊎ ((s : KeyValue) × (s ∈ take count all) × (s.version ≡ carried fits n.max all (take count all)))
  made-top [] e = inl (low fits x.top)
    where
      low : (b : Bool) → Newest n → pick b n.max 0 ≤ n.last_gc
      low true (inl a) = a
      low true (inr r) = absurd (in-none (subst (λ (l : List KeyValue). r.0.kv ∈ l) e (newest r.0 r.1 r.2)))
      low false t = omega arith
  made-top (s ∷ ss) e = go (top-is 0 (take count (s ∷ ss)))
    where
      sent : List KeyValue
      sent = take count (s ∷ ss)

      go : (top_of 0 sent ≡ 0) ⊎ ((u : KeyValue) × (u ∈ sent) × (u.version ≡ top_of 0 sent)) → (top_of 0 sent ≤ n.last_gc) ⊎ ((u : KeyValue) × (u ∈ sent) × (u.version ≡ top_of 0 sent))
      go (inl z) = inl (omega arith)
      go (inr u) = inr u

  reaches : length d.recs ≡ length (stale d.from n.recs) → reached n ≤ reach d.last_gc d.max
  unfolding node_delta
  reaches whole = at x.top
    where
      at : Newest n → reached n ≤ reach d.last_gc d.max
      at (inl a) = omega arith
      at (inr r) =
          let i = subst (λ (l : List KeyValue). r.0.kv ∈ l) (sym (take_whole count (stale from n.recs) whole)) (newest r.0 r.1 r.2) in
          let a = hon.within r.0.kv i in
          let b = r.2 in
          omega arith

  pub exact-computed : length d.recs ≡ length (stale d.from n.recs) → ExactDelta h d
  unfolding node_delta
  exact-computed whole =
      record {
        low = let a = hon.gc_low in let b = hon.max-low in omega arith;
        by_then = λ k z b. computed-honest k (grown-numbered k (earlier k h z base)) n (x.by_then k z (let a = reaches whole in omega arith)) g m count fits;
        top = made-top (stale from n.recs) refl;
      }
