-- One node, and what a delta of a hub at the owner's max makes of it, of which nothing was cut: after one of them no reset is due and no record of the sender is
-- above the node's max; after the next the node is at the owner's max.
use Prim.Native.Nat.{◌<◌, ◌≤◌, max, suc, zero, ℕ}
use mathlib.Core.Bool.{Bool, false, true}
use mathlib.Core.List.{List, [], ◌∷◌}
use mathlib.Core.Logic.{◌⊎◌, inl, inr}
use mathlib.Core.Path.{◌∙◌, ◌≡◌, ap, refl, subst, sym}
use native.Mathlib.Omega.{arith}
use lib.Dec.{ltb}
use lib.ListN.{length, take}
use borrow.Author.Tests.{le-ltb, ltb-false, ltb-true}
use Rattle.fields.specs.Choice.{◌∈◌, here, later, pick}
use Rattle.rules.proofs.Sending.{carried, node_delta}
use Rattle.rules.proofs.Stale.{Rising, rising-stale, stale-from, stale-in, top_within, top_of}
use Rattle.rules.proofs.Taking.{FromOf, from-no-reset, from-of, no-reset, reset_due, status-apply, status-reset, taken-node}
use Rattle.rules.specs.Apply.{Ways, apply_node, delta_status, outcome}
use Rattle.rules.specs.Compute.{from_of, stale}
use Rattle.rules.specs.Delta.{NodeDelta}
use Rattle.rules.specs.Node.{KeyValue, Node, Rec}
use Rattle.rules.specs.declared.DeltaStatus.{DeltaStatus}
use Rattle.rules.specs.declared.DeltaStatus.TheVariants.{Apply, ApplyAfterReset}
use Rattle.rules.specs.declared.NodeAnswer.TheVariants as node
use Rattle.demand3.proofs.Honest.{HonestNode, Removed}
use Rattle.demand3.proofs.Publisher.{Publisher}
use Rattle.demand3.specs.Demand3.{Holds}
use Rattle.net.proofs.Moments.{Ends}
use Rattle.net.proofs.Owners.{owner-again}
use Rattle.net_closing.specs.Closing.{Least}

-- ---- the newest version

-- the record of version max stands there, or last_gc reaches max
abbrev Top : Node → Type 0
Top n = (n.max ≤ n.last_gc) ⊎ ((r : Rec) × (r ∈ n.recs) × (r.kv.version ≡ n.max))

-- of the owner's node it does: the newest version is its key's last
owner-top : (h : List KeyValue) (p : Node) → Publisher h p → Ends h → Top p
owner-top [] p own e = inl (let a = own.top in omega arith)
owner-top (s ∷ h) p own e = at (own.node.honest.brings s (here refl) (λ t m k. let a = own.numbered.high t m in omega arith) (omega arith) (let a = own.top in omega arith))
  where
    at : Holds p s ⊎ Removed p.last_gc s → Top p
    at (inl x) = inr (x.0, x.1, ap (λ (y : KeyValue). y.version) x.2 ∙ e ∙ sym own.top)
    at (inr x) = inl (let a = x.1 in let b = own.top in omega arith)

-- ---- a delta of which nothing was cut

take_whole : {A : Type 0} (n : ℕ) (l : List A) → length (take n l) ≡ length l → take n l ≡ l
take_whole zero [] e = refl
take_whole zero (a ∷ l) e = absurd (omega arith)
take_whole (suc n) [] e = refl
take_whole (suc n) (a ∷ l) e = ap (λ (k : List _). a ∷ k) (take_whole n l (omega arith))

pub stale-none : (m : ℕ) (l : List Rec) → ((r : Rec) → r ∈ l → r.kv.version ≤ m) → stale m l ≡ []
unfolding stale
stale-none m [] f = refl
stale-none m (a ∷ l) f = rw (le-ltb m a.kv.version (f a (here refl))) (stale-none m l (λ r k. f r (later k)))

module _ (y : Node) (within : (r : Rec) → r ∈ y.recs → r.kv.version ≤ y.max) (from count : ℕ) (fits : Bool) (less : from < y.max) where
  abbrev came : List KeyValue → ℕ
  came all = carried fits y.max all (take count all)

  -- where there is no record to send, a SetMaxVersion came
  completed : (b : Bool) → 0 < pick b y.max 0 → pick b y.max 0 ≡ y.max
  completed true p = refl
  completed false p = absurd (omega arith)

  record Whole (all : List KeyValue) : Type 0 where
    above : (r : Rec) → r ∈ y.recs → r.kv.version ≤ came all
    further : from < came all

  whole : (all : List KeyValue) → stale from y.recs ≡ all → length (take count all) ≡ length all → 0 < came all → Whole all
  whole [] e l p = let c = completed fits p in record { above = λ r m. let a = within r m in omega arith; further = omega arith }
  whole (s ∷ ss) e l p = record { above = λ r m. at r m (ltb from r.kv.version) refl; further = first }
    where
      same : take count (s ∷ ss) ≡ s ∷ ss
      same = take_whole count (s ∷ ss) l

      reaching : {t : KeyValue} → t ∈ s ∷ ss → t.version ≤ top_of 0 (take count (s ∷ ss))
      reaching {t} m = top_within 0 (take count (s ∷ ss)) (subst (Rising 0) (e ∙ sym same) (rising-stale from y.recs)) (subst (λ (k : List KeyValue). t ∈ k) (sym same) m)

      first : from < top_of 0 (take count (s ∷ ss))
      first =
          let x = stale-from from y.recs (subst (λ (k : List KeyValue). s ∈ k) (sym e) (here refl)) in
          let a = x.3 in
          let b = reaching (here {a = s} {l = ss} refl) in
          omega arith

      at : (r : Rec) → r ∈ y.recs → (b : Bool) → ltb from r.kv.version ≡ b → r.kv.version ≤ top_of 0 (take count (s ∷ ss))
      at r m true q = reaching (subst (λ (k : List KeyValue). r.kv ∈ k) e (stale-in from m (ltb-true _ _ q)))
      at r m false q = let a = ltb-false from r.kv.version q in let b = first in omega arith

-- ---- the two exchanges

module _ (ways : Ways) (least : Least ways) (h : List KeyValue) (ends : Ends h) (p y x : Node) (own : Publisher h p) (y-ok : HonestNode h y) (there : y.max ≡ p.max) (x-ok : HonestNode h x) (late : x.max < y.max)
    (now count : ℕ) (fits : Bool) (d : NodeDelta) (is : d ≡ node_delta y x.last_gc x.max count fits) (all_come : length d.recs ≡ length (stale d.from y.recs)) (some-come : 0 < d.max) where
  abbrev pub from : ℕ
  from = from_of y.last_gc x.last_gc x.max

  pub from_low : from ≤ x.max
  from_low = go from (from-of y x.last_gc x.max)
    where
      go : (z : ℕ) → FromOf y x.last_gc x.max z → z ≤ x.max
      go z (reset_due a b) = omega arith
      go z (no-reset a) = omega arith

  within : (r : Rec) → r ∈ y.recs → r.kv.version ≤ y.max
  within r m = y-ok.honest.within r.kv (r, m, refl)

  pub gc_is : d.last_gc ≡ y.last_gc
  unfolding node_delta
  gc_is = ap (λ (e : NodeDelta). e.last_gc) is

  pub from_is : d.from ≡ from
  unfolding node_delta
  from_is = ap (λ (e : NodeDelta). e.from) is

  max-is : d.max ≡ came y within from count fits (let a = from_low in omega arith) (stale from y.recs)
  unfolding node_delta
  max-is = ap (λ (e : NodeDelta). e.max) is

  got : Whole y within from count fits (let a = from_low in omega arith) (stale from y.recs)
  unfolding node_delta
  got =
      whole y within from count fits (let a = from_low in omega arith) (stale from y.recs) refl
      (subst (λ (e : NodeDelta). length e.recs ≡ length (stale e.from y.recs)) is all_come)
      (subst (λ (e : NodeDelta). 0 < e.max) is some-come)

  pub above : (r : Rec) → r ∈ y.recs → r.kv.version ≤ d.max
  above r m = let a = got.above r m in let b = max-is in omega arith

  further : from < d.max
  further = let a = got.further in let b = max-is in omega arith

  -- it reaches y's max, or its last_gc does
  pub reaches : y.max ≤ max y.last_gc d.max
  reaches = at (owner-top h y (owner-again h p y own y-ok there) ends)
    where
      at : Top y → y.max ≤ max y.last_gc d.max
      at (inl a) = omega arith
      at (inr u) = let a = above u.0 u.1 in let b = u.2 in omega arith

  low : x.last_gc ≤ y.max
  low = let a = x-ok.honest.gc_low in let b = own.top in omega arith

  lets : ways.fence x.last_gc x.max d.last_gc d.max ≡ false
  lets = least x.last_gc x.max d.last_gc d.max (let a = low in let b = reaches in let c = gc_is in omega arith)

  -- where x's numbers reach all that was given and its max every record of y, it has x's max as its from, and y's as its max
  pub at-max : length h ≤ max x.last_gc x.max → from ≡ x.max
  at-max near = from-no-reset y x.last_gc x.max (let b = y-ok.honest.gc_low in omega arith)

  pub complete : length h ≤ max x.last_gc x.max → ((r : Rec) → r ∈ y.recs → r.kv.version ≤ x.max) → d.max ≡ y.max
  complete near below =
      max-is
      ∙ ap (λ (all : List KeyValue). carried fits y.max all (take count all)) none_left
      ∙ completed y within from count fits (let a = from_low in omega arith) fits (subst (λ (k : ℕ). 0 < k) (max-is ∙ ap (λ (all : List KeyValue). carried fits y.max all (take count all)) none_left) some-come)
    where
      none_left : stale from y.recs ≡ []
      none_left = ap (λ (k : ℕ). stale k y.recs) (at-max near) ∙ stale-none x.max y.recs below

  module _ (roomy : (apply_node ways now d x).answer ≡ node.Room → ⊥) where
    next-is : (apply_node ways now d x).node ≡ outcome (delta_status ways.fence x d) now d x
    next-is = taken-node ways now d x roomy

    -- the first
    pub first : (length h ≤ max (apply_node ways now d x).node.last_gc (apply_node ways now d x).node.max) × ((r : Rec) → r ∈ y.recs → r.kv.version ≤ (apply_node ways now d x).node.max)
    unfolding outcome
    first = go from from_is (from-of y x.last_gc x.max)
      where
        n : Node
        n = (apply_node ways now d x).node

        done : n.max ≡ d.max → y.max ≤ max n.last_gc n.max → (length h ≤ max n.last_gc n.max) × ((r : Rec) → r ∈ y.recs → r.kv.version ≤ n.max)
        done e l = (let a = own.top in omega arith, λ r m. let a = above r m in omega arith)

        go : (z : ℕ) → d.from ≡ z → FromOf y x.last_gc x.max z → (length h ≤ max n.last_gc n.max) × ((r : Rec) → r ∈ y.recs → r.kv.version ≤ n.max)
        go z f (reset_due a b) =
            let g = gc_is in
            let e : n ≡ outcome ApplyAfterReset now d x = next-is ∙ ap (λ (v : DeltaStatus). outcome v now d x) (status-reset ways.fence x d lets f (omega arith) (omega arith)) in
            let m : n.max ≡ d.max = ap (λ (u : Node). u.max) e in
            let l : n.last_gc ≡ d.last_gc = ap (λ (u : Node). u.last_gc) e in
            let c = reaches in
            done m (omega arith)
        go z f (no-reset a) =
            let g = gc_is in
            let k : x.max < d.max = (let i = further in let j = from_is in omega arith) in
            let e : n ≡ outcome Apply now d x = next-is ∙ ap (λ (v : DeltaStatus). outcome v now d x) (status-apply ways.fence x d lets (omega arith) (omega arith) k) in
            let m : n.max ≡ d.max = ap (λ (u : Node). u.max) e in
            let l : n.last_gc ≡ x.last_gc = ap (λ (u : Node). u.last_gc) e in
            let c = reaches in
            done m (omega arith)

    -- and the second
    pub second : length h ≤ max x.last_gc x.max → ((r : Rec) → r ∈ y.recs → r.kv.version ≤ x.max) → (apply_node ways now d x).node.max ≡ y.max
    unfolding outcome
    second near below =
        let f : d.from ≡ x.max = from_is ∙ at-max near in
        let e = next-is ∙ ap (λ (v : DeltaStatus). outcome v now d x) (status-apply ways.fence x d lets (omega arith) (let a = gc_is in let b = y-ok.honest.gc_low in omega arith) (let a = complete near below in omega arith)) in
        ap (λ (u : Node). u.max) e ∙ complete near below
