-- What calm events make of node i at each hub: it stays, loses records, beats, or takes an honest delta. So a node at the owner's max stays there, and one whose
-- numbers reach it is not reset any more.
use Prim.Native.Nat.{◌≤◌, max, ℕ}
use mathlib.Core.Bool.{Bool, false, false≢true, not, true}
use mathlib.Core.List.{List, [], ◌++◌, ◌∷◌}
use mathlib.Core.Path.{◌∙◌, ◌≡◌, ap, refl, subst, sym}
use native.Mathlib.Omega.{arith}
use lib.Dec.{eqb}
use lib.ListN.{length}
use borrow.Author.Tests.{eq-eqb}
use Rattle.fields.proofs.Choice.{and_left, and_right, keep-from}
use Rattle.fields.specs.Choice.{◌∈◌, pick}
use Rattle.rules.proofs.Records.{gc-rises}
use Rattle.rules.proofs.Taking.{Came, came, left, reset, took}
use Rattle.rules.specs.Apply.{Lawful, Taken, Ways, apply_node, outcome}
use Rattle.rules.specs.Delta.{NodeDelta}
use Rattle.rules.specs.Node.{KeyValue, Node, Rec, due, remove, with_heartbeat}
use Rattle.rules.specs.Table.{node_of}
use Rattle.rules.specs.declared.Heartbeat.{Heartbeat}
use Rattle.demand3.proofs.EachNode.{node_at}
use Rattle.demand3.proofs.Honest.{HonestDelta}
use Rattle.demand3.proofs.Parted.{nth-sent}
use Rattle.demand3.proofs.Publisher.{Publisher}
use Rattle.demand3.specs.World.{applied_to, given_as}
use Rattle.net.proofs.Each.{Each, each-add, each-beat, each-call, each-drop, each-hub, each-offer, each-remove, each_same, each-taken}
use Rattle.net.proofs.Moments.{Moment, part-carried}
use Rattle.net.proofs.Owners.{owner-stays}
use Rattle.net.specs.Net.{Adding, Arriving, Beating, Computing, Dropping, Event, Net, Offering, Plan, Ready, Removing, Restoring, Saving, Writing, after, calls, happen, possible}
use Rattle.net_closing.specs.Closing.{calm, every}

pub data Onward (ways : Ways) (h : List KeyValue) (n : Node) : Node → Type 0 where
  stays : Onward ways h n n
  removes : (due : Rec → Bool) → Onward ways h n (remove due n)
  beats : (b : Heartbeat) → Onward ways h n (with_heartbeat b n)
  takes : (now : ℕ) (d : NodeDelta) → HonestDelta h d → Onward ways h n (apply_node ways now d n).node

-- a node at the owner's max takes nothing, and only loses records
pub top-onward : (ways : Ways) → Lawful ways → (h : List KeyValue) (a b : Node) → Publisher h a → Onward ways h a b → (b.max ≡ a.max) × ((r : Rec) → r ∈ b.recs → r ∈ a.recs)
unfolding remove
top-onward ways law h a b own stays = (refl, λ r m. m)
top-onward ways law h a b own (removes due) = (refl, λ r m. (keep-from _ _ m).0)
top-onward ways law h a b own (beats t) = (refl, λ r m. m)
top-onward ways law h a b own (takes now d x) =
    let is : (apply_node ways now d a).node ≡ a = ap (λ (t : Taken). t.node) (owner-stays ways law h a own d x now) in
    (ap (λ (n : Node). n.max) is, λ r m. subst (λ (n : Node). r ∈ n.recs) is m)

-- a node whose numbers reach the owner's max is not reset, so its max does not fall
pub near-onward : (ways : Ways) (h : List KeyValue) (a b : Node) → length h ≤ max a.last_gc a.max → Onward ways h a b → (length h ≤ max b.last_gc b.max) × (a.max ≤ b.max)
unfolding remove outcome
near-onward ways h a b low stays = (low, omega arith)
near-onward ways h a b low (removes due) = (let c = gc-rises due a.last_gc a.recs in omega arith, omega arith)
near-onward ways h a b low (beats t) = (low, omega arith)
near-onward ways h a b low (takes now d x) = go _ (came ways now d a)
  where
    go : (n : Node) → Came ways now d a n → (length h ≤ max n.last_gc n.max) × (a.max ≤ n.max)
    go n left = (low, omega arith)
    go n (reset r) = let c = x.gc_low in let e = r.above_gc in let f = r.above_max in absurd (omega arith)
    go n (took r) = let e = r.newer in (omega arith, omega arith)

-- ---- every event

module _ (plan : Plan) (ready : Ready plan) (i : ℕ) where
  module _ (w : Net) (ok : Moment plan.owner w) where
    -- of node i alone
    abbrev On : ℕ → ℕ → Node → Node → Type 0
    On x j n m = j ≡ i → Onward (plan.ways x) (w.given i) n m

    on_same : (x j : ℕ) (n : Node) → On x j n n
    on_same x j n e = stays

    on-beat : (x j : ℕ) (n : Node) (b : Heartbeat) → On x j n (with_heartbeat b n)
    on-beat x j n b e = beats b

    other : (j : ℕ) → not (eqb i j) ≡ true → j ≡ i → ⊥
    other j q e = false≢true (sym (ap not (eq-eqb i j (sym e))) ∙ q)

    calls-onward : (e : Event) → calm i e ≡ true → (y : ℕ) → Each w On on_same y ((calls plan e w).hubs y)
    calls-onward (Writing x j k who c) q = each-hub w On on_same x _ (each-call w On on_same (plan.profiles x) who c x j k (λ n z e. absurd (other j q e)))
    calls-onward (Beating x j) q = each-hub w On on_same x _ (each-beat w On on_same x j (on-beat x))
    calls-onward (Offering x j h) q = each-hub w On on_same x _ (each-offer w On on_same x j h (on-beat x))
    calls-onward (Removing x removal) q = each-hub w On on_same x _ (each-remove w On on_same x removal (λ j due e. removes due))
    calls-onward (Adding x j) q = each-hub w On on_same x _ (each-add w On on_same x j)
    calls-onward (Dropping x j) q = each-hub w On on_same x _ (each-drop w On on_same x j (ok.tables x).obeyed.ascending (λ e. absurd (other j q e)))
    calls-onward (Computing x edition digest excluded order mtu place l) q = each_same w On on_same
    calls-onward (Arriving x k now l) q =
        each-hub w On on_same x _
        (nth-sent (λ d. Each w On on_same x (applied_to (plan.ways x) now l d (w.hubs x))) (each_same w On on_same x) k w.sent (λ b m. (ok.sent b m).reads)
        (λ b c m y.
        let a = part-carried w.given b c (ok.sent b m) y in
        each-taken w On on_same (plan.ways x) (ready.lawful x) x now l c w.given a
        (λ j d p e. takes now d (subst (λ (z : ℕ). HonestDelta (w.given z) d) e (a.honest j d p)))))
    calls-onward (Saving x) q = each_same w On on_same
    calls-onward (Restoring x k) q = absurd (false≢true q)

    pub onward : (e : Event) → calm i e ≡ true → (x : ℕ) → Onward (plan.ways x) (w.given i) (node_at i (w.hubs x)) (node_at i ((happen plan e w).hubs x))
    unfolding happen
    onward e q x = go (possible plan.owner e w)
      where
        go : (b : Bool) → Onward (plan.ways x) (w.given i) (node_at i (w.hubs x)) (node_at i ((pick b (calls plan e w) w).hubs x))
        go true = calls-onward e q x i refl
        go false = stays

    calls-given : (e : Event) → calm i e ≡ true → (calls plan e w).given i ≡ w.given i
    calls-given (Writing x j k who c) q = at (eqb i j) q
      where
        at : (b : Bool) → not b ≡ true → pick b (given_as (plan.profiles x) who k c (node_of j (w.hubs x)) (w.given i)) (w.given i) ≡ w.given i
        at true p = absurd (false≢true p)
        at false p = refl
    calls-given (Beating x j) q = refl
    calls-given (Offering x j h) q = refl
    calls-given (Removing x removal) q = refl
    calls-given (Adding x j) q = refl
    calls-given (Dropping x j) q = refl
    calls-given (Computing x edition digest excluded order mtu place l) q = refl
    calls-given (Arriving x k now l) q = refl
    calls-given (Saving x) q = refl
    calls-given (Restoring x k) q = refl

    pub calm-given : (e : Event) → calm i e ≡ true → (happen plan e w).given i ≡ w.given i
    unfolding happen
    calm-given e q = go (possible plan.owner e w)
      where
        go : (b : Bool) → (pick b (calls plan e w) w).given i ≡ w.given i
        go true = calls-given e q
        go false = refl

-- ---- runs

pub after-append : (plan : Plan) (es fs : List Event) (w : Net) → after plan (es ++ fs) w ≡ after plan fs (after plan es w)
unfolding after
after-append plan [] fs w = refl
after-append plan (e ∷ es) fs w = after-append plan es fs (happen plan e w)

pub every_append : (test : Event → Bool) (es fs : List Event) → every test (es ++ fs) ≡ true → (every test es ≡ true) × (every test fs ≡ true)
unfolding every
every_append test [] fs c = (refl, c)
every_append test (e ∷ es) fs c =
    let a = and_left (test e) (every test (es ++ fs)) c in
    let x = every_append test es fs (and_right (test e) (every test (es ++ fs)) c) in
    (rw a x.0, x.1)
