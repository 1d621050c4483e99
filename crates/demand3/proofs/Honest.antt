-- Honest: the one fact that demand 3 rests on, of a node wherever it stands and of a node delta whoever computed it. h is all that the publisher
-- gave to the node's keys, the newest first, so that `length h` is the publisher's max. Here: the predicate, and that a fresh node has it, and
-- that it outlives a write of the publisher, a removal and a heartbeat. That computing sends honest deltas is in Computing, that a node which takes
-- one stays honest in Step. Clocks, digests and the age of a delta do not come in.
use Prim.Native.Nat.{◌<◌, ◌≤◌, max, suc, ℕ}
use mathlib.Core.Bool.{Bool, false, not, true}
use mathlib.Core.List.{List, ◌∷◌}
use mathlib.Core.Logic.{◌⊎◌, inl, inr}
use mathlib.Core.Path.{◌∙◌, ◌≡◌, ap, refl, subst, sym}
use native.Mathlib.Omega.{arith}
use lib.ListN.{length}
use Rattle.fields.proofs.Choice.{and_left, in-cons, in-none, keep-from, keep-in}
use Rattle.fields.proofs.Ordered.{same_false, same_true}
use Rattle.fields.specs.Choice.{◌∈◌, here, keep, later}
use Rattle.fields.specs.Order.{same_bytes}
use Rattle.rules.proofs.Records.{Sorted, gc-below, gc-covers, gc-rises, sorted-keep}
use Rattle.rules.specs.Delta.{NodeDelta}
use Rattle.rules.specs.Node.{KeyValue, Node, Rec, fresh, goes, last_gc_of, remove, scheduled, with_heartbeat}
use Rattle.rules.specs.declared.Heartbeat.{Heartbeat}
use Rattle.demand3.proofs.History.{Newer, newer-grows}
use Rattle.demand3.specs.Demand3.{Holds, Last, reach}

-- ---- the predicate

-- scheduled, and at or below this last_gc: it may have been removed
abbrev pub Removed : ℕ → KeyValue → Type 0
Removed g s = (scheduled s.status ≡ true) × (s.version ≤ g)

-- the last that its key was given, or its key was given a version above n
abbrev pub Current : List KeyValue → ℕ → KeyValue → Type 0
Current h n s = Last h s ⊎ Newer h n s.key

-- Records `has` under last_gc g and max m, complete above `from`. Neither number is above what was given. Each record was given, and is not above
-- m. Each record is the last that its key was given, or its key was given a version above both g and m (`reach`). What a
-- key was given last, above from and up to m, stands here, or is scheduled and at or below g.
pub record Honest (h : List KeyValue) (from g m : ℕ) (has : KeyValue → Type 0) : Type 0 where
  pub gc_low : g ≤ length h
  pub max-low : m ≤ length h
  pub told : (s : KeyValue) → has s → s ∈ h
  pub within : (s : KeyValue) → has s → s.version ≤ m
  pub current : (s : KeyValue) → has s → Current h (reach g m) s
  pub brings : (s : KeyValue) → s ∈ h → Last h s → from < s.version → s.version ≤ m → has s ⊎ Removed g s

-- a node: from 0, and one record a key
pub record HonestNode (h : List KeyValue) (n : Node) : Type 0 where
  pub sorted : Sorted n.recs
  pub honest : Honest h 0 n.last_gc n.max (Holds n)

-- a node delta: from its own from
abbrev pub HonestDelta : List KeyValue → NodeDelta → Type 0
HonestDelta h d = Honest h d.from d.last_gc d.max (λ s. s ∈ d.recs)

-- ---- a fresh node

pub fresh-honest : (h : List KeyValue) → HonestNode h fresh
unfolding Sorted
fresh-honest h =
    record {
      sorted = tt;
      honest =
          record {
            gc_low = omega arith;
            max-low = omega arith;
            told = λ s x. absurd (in-none x.1);
            within = λ s x. absurd (in-none x.1);
            current = λ s x. absurd (in-none x.1);
            brings = λ s m l a b. absurd (omega arith);
          };
    }

-- ---- the next version is given

module _ (h : List KeyValue) (w : KeyValue) (next : w.version ≡ suc (length h)) where
  honest-grows : (from g m : ℕ) (has : KeyValue → Type 0) → Honest h from g m has → Honest (w ∷ h) from g m has
  honest-grows from g m has x =
      record {
        gc_low = let a = x.gc_low in omega arith;
        max-low = let a = x.max-low in omega arith;
        told = λ s n. later (x.told s n);
        within = x.within;
        current = λ s n. current s (same_bytes s.key w.key) refl (x.current s n);
        brings = λ s n l a b. brings s (in-cons n) l a b;
      }
    where
      current : (s : KeyValue) (b : Bool) → same_bytes s.key w.key ≡ b → Current h (reach g m) s → Current (w ∷ h) (reach g m) s
      current s b q (inr n) = inr (newer-grows w n)
      current s true q (inl l) =
          inr (record { kv = w; told = here refl; same = sym (same_true _ _ q); above = let a = x.gc_low in let b = x.max-low in omega arith })
      current s false q (inl l) = inl (λ t n e. at t (in-cons n) e)
        where
          at : (t : KeyValue) → (t ≡ w) ⊎ (t ∈ h) → t.key ≡ s.key → t.version ≤ s.version
          at t (inl f) e = absurd (same_false _ _ q (sym e ∙ ap (λ (y : KeyValue). y.key) f))
          at t (inr n) e = l t n e

      brings : (s : KeyValue) → (s ≡ w) ⊎ (s ∈ h) → Last (w ∷ h) s → from < s.version → s.version ≤ m → has s ⊎ Removed g s
      brings s (inl e) l a b = let v : s.version ≡ w.version = ap (λ (y : KeyValue). y.version) e in let c = x.max-low in absurd (omega arith)
      brings s (inr n) l a b = x.brings s n (λ t o. l t (later o)) a b

  pub node-grows : (n : Node) → HonestNode h n → HonestNode (w ∷ h) n
  node-grows n x = record { sorted = x.sorted; honest = honest-grows 0 n.last_gc n.max (Holds n) x.honest }

  pub delta-grows : (d : NodeDelta) → HonestDelta h d → HonestDelta (w ∷ h) d
  delta-grows d x = honest-grows d.from d.last_gc d.max (λ s. s ∈ d.recs) x

-- ---- a removal, a heartbeat

module _ (h : List KeyValue) (n : Node) (ok : HonestNode h n) where
  hon : Honest h 0 n.last_gc n.max (Holds n)
  hon = ok.honest

  pub node-beat : (b : Heartbeat) → HonestNode h (with_heartbeat b n)
  node-beat b =
      record {
        sorted = ok.sorted;
        honest =
            record {
              gc_low = hon.gc_low;
              max-low = hon.max-low;
              told = hon.told;
              within = hon.within;
              current = hon.current;
              brings = hon.brings;
            };
      }

  -- any removal of scheduled records
  module _ (due : Rec → Bool) where
    abbrev gc : ℕ
    gc = last_gc_of due n.last_gc n.recs

    -- last_gc rises to versions that are held, and no higher
    pub gc-within : (b : ℕ) → n.last_gc ≤ b → n.max ≤ b → gc ≤ b
    gc-within b g m = gc-below due n.last_gc b n.recs g (λ r i q. let a = hon.within r.kv (r, i, refl) in omega arith)

    pub node-remove : HonestNode h (remove due n)
    unfolding remove
    node-remove =
        record {
          sorted = sorted-keep _ _ ok.sorted;
          honest =
              record {
                gc_low = gc-within (length h) hon.gc_low hon.max-low;
                max-low = hon.max-low;
                told = λ s x. hon.told s (was s x);
                within = λ s x. hon.within s (was s x);
                current = λ s x. current s (hon.current s (was s x));
                brings = λ s m l a b. brings s (hon.brings s m l a b);
              };
        }
      where
        Has : KeyValue → Type 0
        Has s = (r : Rec) × (r ∈ keep (λ r. not (goes due r)) n.recs) × (r.kv ≡ s)

        was : (s : KeyValue) → Has s → Holds n s
        was s x = (x.0, (keep-from _ _ x.1).0, x.2)

        current : (s : KeyValue) → Current h (reach n.last_gc n.max) s → Current h (reach gc n.max) s
        current s (inl l) = inl l
        current s (inr x) =
            let a = gc-within (max n.last_gc n.max) (omega arith) (omega arith) in
            inr (record { kv = x.kv; told = x.told; same = x.same; above = let b = x.above in omega arith })

        brings : (s : KeyValue) → Holds n s ⊎ Removed n.last_gc s → Has s ⊎ Removed gc s
        brings s (inr x) = inr (x.0, let g = gc-rises due n.last_gc n.recs in let a = x.1 in omega arith)
        brings s (inl x) = go (goes due x.0) refl
          where
            go : (b : Bool) → goes due x.0 ≡ b → Has s ⊎ Removed gc s
            go true q =
                inr (
                  ap (λ (y : KeyValue). scheduled y.status) (sym x.2) ∙ and_left (scheduled x.0.kv.status) (due x.0) q,
                  subst (λ (y : KeyValue). y.version ≤ gc) x.2 (gc-covers due n.last_gc x.1 q),
                )
            go false q = inl (x.0, keep-in (λ r. not (goes due r)) x.1 (ap not q), x.2)
