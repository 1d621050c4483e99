-- What may still happen in o's star once its writes and removals cease: o's nodes stay as they are but for heartbeats, and no follower's node goes back. Assumes nothing but that no hub is
-- plain.
use Prim.Native.Nat.{ℕ}
use mathlib.Core.Bool.{Bool, false, false≢true, not, true}
use mathlib.Core.List.{List, [], ◌++◌, ◌∷◌}
use mathlib.Core.Option.{some}
use mathlib.Core.Path.{◌∙◌, ◌≡◌, ap, refl, subst, sym}
use native.Mathlib.Omega.{arith}
use lib.Dec.{eqb}
use borrow.Author.Tests.{eq-eqb}
use Rattle.fields.proofs.Choice.{and_left, and_right}
use Rattle.fields.specs.Choice.{◌∈◌, pick}
use Rattle.rules.proofs.Tables.{part_at}
use Rattle.rules.specs.Apply.{Taken, apply_node}
use Rattle.rules.specs.Delta.{NodeDelta, parts_of}
use Rattle.rules.specs.Node.{Node, Rec, remove, with_heartbeat}
use Rattle.rules.specs.declared.Heartbeat.{Heartbeat}
use Rattle.demand3.proofs.EachNode.{node_at}
use Rattle.demand3.proofs.Needed.{Onward, onward-came, onward-same, onward_then}
use Rattle.demand3.proofs.OneNode.{rises-remove}
use Rattle.demand3.proofs.Parted.{Parted, nth-sent}
use Rattle.demand3.proofs.Publisher.{Publisher}
use Rattle.demand3.specs.World.{applied_to}
use Rattle.net.proofs.Each.{Each, each-add, each-beat, each-call, each-drop, each-hub, each-offer, each-remove, each_same, each-taken}
use Rattle.net.proofs.Moments.{Moment, moment-event, part-carried}
use Rattle.net.proofs.Owners.{owner-stays}
use Rattle.net.specs.Net.{Adding, Arriving, Beating, Computing, Dropping, Event, Net, Offering, Plan, Ready, Removing, Restoring, Saving, Writing, after, calls, happen, possible}
use Rattle.net_closing.proofs.Calm.{every_append}
use Rattle.net_closing.specs.Closing.{every}
use Rattle.net_star.proofs.Low.{Low, gc-up, its-part, low-event}
use Rattle.net_star.specs.Star.{in_star, quiet_at, star_at}

-- the node is as p, but for the heartbeat
abbrev pub Alike : Node → Node → Type 0
Alike p n = (n.max ≡ p.max) × (n.last_gc ≡ p.last_gc) × (n.recs ≡ p.recs)

pub star-append : (plan : Plan) (o : ℕ) (es fs : List Event) (w : Net) → in_star plan o (es ++ fs) w ≡ true → (in_star plan o es w ≡ true) × (in_star plan o fs (after plan es w) ≡ true)
unfolding in_star after
star-append plan o [] fs w c = (refl, c)
star-append plan o (e ∷ es) fs w c =
    let a = and_left (star_at plan.owner o e w) _ c in
    let x = star-append plan o es fs (happen plan e w) (and_right (star_at plan.owner o e w) _ c) in
    (rw a x.0, x.1)

-- o's nodes were as these when it became quiet
module _ (plan : Plan) (ready : Ready plan) (o : ℕ) (p : ℕ → Node) where
  -- in a star, and quiet
  abbrev pub Still : List Event → Net → Type 0
  Still es w = (in_star plan o es w ≡ true) × (every (quiet_at plan.owner o) es ≡ true)

  pub still-append : (es fs : List Event) (w : Net) → Still (es ++ fs) w → Still es w × Still fs (after plan es w)
  still-append es fs w s =
      let a = star-append plan o es fs w s.0 in
      let b = every_append (quiet_at plan.owner o) es fs s.1 in
      ((a.0, b.0), (a.1, b.1))

  pub record Kept (w : Net) : Type 0 where
    pub moment : Moment plan.owner w
    pub low : Low plan ready o w
    pub alike : (i : ℕ) → plan.owner i ≡ o → Alike (p i) (node_at i (w.hubs o))

  module _ (w : Net) (ok : Kept w) where
    abbrev Goes : ℕ → ℕ → Node → Node → Type 0
    Goes x j n m = plan.owner j ≡ o → (x ≡ o → Alike n m) × Onward (p j) n m

    goes_same : (x j : ℕ) (n : Node) → Goes x j n n
    goes_same x j n e = (λ z. (refl, refl, refl), onward-same (p j) n)

    goes-beat : (x j : ℕ) (n : Node) (b : Heartbeat) → Goes x j n (with_heartbeat b n)
    goes-beat x j n b e = (λ z. (refl, refl, refl), λ g. (g, omega arith))

    -- not o, or not one of its nodes
    other : (a : ℕ) → not (eqb a o) ≡ true → a ≡ o → ⊥
    other a q e = false≢true (sym (ap not (eq-eqb a o e)) ∙ q)

    goes-remove : (x j : ℕ) (n : Node) → (x ≡ o → ⊥) → (test : Rec → Bool) → Goes x j n (remove test n)
    unfolding remove
    goes-remove x j n away test e = (λ z. absurd (away z), λ g. (let a = gc-up n (remove test n) (rises-remove test n) in omega arith, omega arith))

    goes-take : (x now : ℕ) (b c : List ℕ) (m : b ∈ w.sent) (y : Parted b c) (j : ℕ) (d : NodeDelta) → part_at j (parts_of y.reads.0) ≡ some d → Goes x j (node_at j (w.hubs x)) (apply_node (plan.ways x) now d (node_at j (w.hubs x))).node
    goes-take x now b c m y j d q e = (
      λ z.
          let n : Node = node_at j (w.hubs x) in
          let own = subst (λ (k : ℕ). Publisher (w.given j) (node_at j (w.hubs k))) (e ∙ sym z) (ok.moment.owners j) in
          let is : (apply_node (plan.ways x) now d n).node ≡ n = ap (λ (t : Taken). t.node) (owner-stays (plan.ways x) (ready.lawful x) (w.given j) n own d ((part-carried w.given b c (ok.moment.sent b m) y).honest j d q) now) in
          (ap (λ (k : Node). k.max) is, ap (λ (k : Node). k.last_gc) is, ap (λ (k : Node). k.recs) is),
      onward-came (plan.ways x) now d (p j) (node_at j (w.hubs x)) (let a = its-part plan ready o w ok.moment ok.low b c m y j d q e in let f = (ok.alike j e).1 in omega arith),
    )

    calls-goes : (e : Event) → quiet_at plan.owner o e ≡ true → (y : ℕ) → Each w Goes goes_same y ((calls plan e w).hubs y)
    calls-goes (Writing x j k who c) q = each-hub w Goes goes_same x _ (each-call w Goes goes_same (plan.profiles x) who c x j k (λ n z e. absurd (other (plan.owner j) q e)))
    calls-goes (Beating x j) q = each-hub w Goes goes_same x _ (each-beat w Goes goes_same x j (goes-beat x))
    calls-goes (Offering x j h) q = each-hub w Goes goes_same x _ (each-offer w Goes goes_same x j h (goes-beat x))
    calls-goes (Removing x removal) q = each-hub w Goes goes_same x _ (each-remove w Goes goes_same x removal (λ j test. goes-remove x j (node_at j (w.hubs x)) (other x q) test))
    calls-goes (Adding x j) q = each-hub w Goes goes_same x _ (each-add w Goes goes_same x j)
    calls-goes (Dropping x j) q = each-hub w Goes goes_same x _ (each-drop w Goes goes_same x j (ok.moment.tables x).obeyed.ascending (λ e. absurd (other (plan.owner j) q e)))
    calls-goes (Computing x edition digest excluded order mtu place l) q = each_same w Goes goes_same
    calls-goes (Arriving x k now l) q =
        each-hub w Goes goes_same x _
        (nth-sent (λ d. Each w Goes goes_same x (applied_to (plan.ways x) now l d (w.hubs x))) (each_same w Goes goes_same x) k w.sent (λ b m. (ok.moment.sent b m).reads)
        (λ b c m y. each-taken w Goes goes_same (plan.ways x) (ready.lawful x) x now l c w.given (part-carried w.given b c (ok.moment.sent b m) y) (goes-take x now b c m y)))
    calls-goes (Saving x) q = each_same w Goes goes_same
    calls-goes (Restoring x k) q = absurd (false≢true q)

    goes : (e : Event) → quiet_at plan.owner o e ≡ true → (x i : ℕ) → plan.owner i ≡ o → (x ≡ o → Alike (node_at i (w.hubs x)) (node_at i ((happen plan e w).hubs x))) × Onward (p i) (node_at i (w.hubs x)) (node_at i ((happen plan e w).hubs x))
    unfolding happen
    goes e q x i mine = go (possible plan.owner e w)
      where
        go : (b : Bool) → (x ≡ o → Alike (node_at i (w.hubs x)) (node_at i ((pick b (calls plan e w) w).hubs x))) × Onward (p i) (node_at i (w.hubs x)) (node_at i ((pick b (calls plan e w) w).hubs x))
        go true = calls-goes e q x i mine
        go false = goes_same x i (node_at i (w.hubs x)) mine

    kept-event : (e : Event) → star_at plan.owner o e w ≡ true → quiet_at plan.owner o e ≡ true → Kept (happen plan e w)
    kept-event e s q =
        record {
          moment = moment-event plan w ok.moment ready e;
          low = low-event plan ready o w ok.moment ok.low e s;
          alike = λ i mine. let a = (goes e q o i mine).0 refl in let b = ok.alike i mine in (a.0 ∙ b.0, a.1 ∙ b.1, a.2 ∙ b.2);
        }

  -- of each node of o's
  abbrev pub Further : Net → Net → Type 0
  Further w v = (x i : ℕ) → plan.owner i ≡ o → Onward (p i) (node_at i (w.hubs x)) (node_at i (v.hubs x))

  pub kept_run : (es : List Event) (w : Net) → Kept w → Still es w → Kept (after plan es w) × Further w (after plan es w)
  unfolding after every in_star
  kept_run [] w ok s = (ok, λ x i mine. onward-same (p i) (node_at i (w.hubs x)))
  kept_run (e ∷ es) w ok s =
      let a = and_left (star_at plan.owner o e w) _ s.0 in
      let q = and_left (quiet_at plan.owner o e) _ s.1 in
      let v : Net = happen plan e w in
      let r = kept_run es v (kept-event w ok e a q) (and_right (star_at plan.owner o e w) _ s.0, and_right (quiet_at plan.owner o e) _ s.1) in
      (r.0, λ x i mine. onward_then (p i) (node_at i (w.hubs x)) (node_at i (v.hubs x)) (node_at i ((after plan es v).hubs x)) (goes w ok e q x i mine).1 (r.1 x i mine))
