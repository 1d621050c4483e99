-- Where only the owner of a node removes, no last_gc of it is above the owner's, so that no fence stands against the owner's deltas. Then a hub that hears the owner
-- once a round is there after as many rounds as the owner holds records, and one; deltas may be cut, if of the node something comes over.
use Prim.Native.Nat.{◌<◌, ◌≤◌, max, suc, ℕ}
use mathlib.Core.Bool.{Bool, false, false≢true, not, true}
use mathlib.Core.List.{List, [], ◌++◌, ◌∷◌}
use mathlib.Core.Logic.{◌⊎◌, inl, inr}
use mathlib.Core.Option.{Option, none, some}
use mathlib.Core.Path.{◌∙◌, ◌≡◌, ap, refl, subst, sym}
use native.Mathlib.Omega.{arith}
use lib.Dec.{eqb, leb, ltb}
use lib.ListN.{length}
use borrow.Author.Tests.{eq-eqb, eqb-false, eqb-true, ltb-false, ltb-true}
use Rattle.fields.proofs.Choice.{and_left, and_right, in-cons, in-none}
use Rattle.fields.specs.Choice.{◌∈◌, pick}
use Rattle.fields.specs.Parts.{part, put}
use Rattle.rules.proofs.Obeys.{facts-table}
use Rattle.rules.proofs.Sending.{node_delta}
use Rattle.rules.proofs.Tables.{part_at}
use Rattle.rules.proofs.Taking.{Came, came, left, reset, taken-node, took}
use Rattle.rules.specs.Apply.{Taken, apply_node, delta_status, outcome}
use Rattle.rules.specs.Compute.{from_of, stale}
use Rattle.rules.specs.Delta.{NodeDelta, Ops, delta_bytes, parts_of, read_delta}
use Rattle.rules.specs.Given.{Given}
use Rattle.rules.specs.Node.{Decision, Give, Leave, Node, Refuse, act, due, remove, with_heartbeat, write}
use Rattle.rules.specs.Table.{Table, node_of}
use Rattle.std.specs.Prelude.{Result}
use Rattle.rules.specs.declared.Refusal.{Refusal}
use Rattle.rules.specs.declared.Sent.{Sent}
use Rattle.rules.specs.declared.Heartbeat.{Heartbeat}
use Rattle.rules.specs.declared.NodeAnswer.TheVariants as node
use Rattle.demand3.proofs.Forms.{Comes, comes, refuses, writes}
use Rattle.demand3.specs.Forms.{Order, ops_by}
use Rattle.demand3.proofs.EachNode.{node_at, or_fresh, parts_in}
use Rattle.demand3.proofs.Parted.{Parted, nth-sent}
use Rattle.demand3.proofs.Needed.{Moves, Onward, delta-moves-or, needed, needed-falls, needed-most, needed-none, needed-some, onward-came, onward-needed, onward-same}
use Rattle.demand3.proofs.OnTheWay.{Sendable}
use Rattle.demand3.proofs.OneNode.{rises-apply, rises-remove}
use Rattle.demand3.proofs.Publisher.{Publisher}
use Rattle.demand3.specs.Demand3.{Rises}
use Rattle.demand3.specs.World.{applied_to, sent_after}
use Rattle.net.proofs.Each.{Each, each-add, each-beat, each-call, each-drop, each-hub, each-offer, each-remove, each_same, each-taken}
use Rattle.net.proofs.Moments.{Moment, moment-begin, moment-event, part-carried, placed-in}
use Rattle.net.proofs.Owners.{owner-stays}
use Rattle.net.specs.Net.{Adding, Arriving, Beating, Computing, Dropping, Event, Net, Offering, Plan, Ready, Removing, Restoring, Saving, Writing, after, begin, calls, happen, placed, possible, restored}
use Rattle.net_closing.proofs.Calm.{after-append, every_append}
use Rattle.net_closing.proofs.Exchange.{heard-made, heard-node}
use Rattle.net_closing.proofs.Rounds.{closed_of, there-is}
use Rattle.net_closing.specs.Closing.{Asked, Closed, Heard, HearsIn, PartIn, Rounds, after_all, every, exchange_in, ops_in, owner_removes, settled}

gc-up : (n m : Node) → Rises n m → n.last_gc ≤ m.last_gc
gc-up n m (inl x) = omega arith
gc-up n m (inr x) = let e = x.0 in omega arith

module _ (plan : Plan) (ready : Ready plan) (i : ℕ) where
  abbrev own : ℕ
  own = plan.owner i

  abbrev gc_at : Net → ℕ → ℕ
  gc_at w x = (node_at i (w.hubs x)).last_gc

  abbrev Part : List ℕ → NodeDelta → Type 0
  Part b d = part_at i (parts_in (read_delta b)) ≡ some d

  -- nothing of node i has a last_gc above the owner's
  record Low (w : Net) : Type 0 where
    hubs : (x : ℕ) → gc_at w x ≤ gc_at w own
    sent : (b : List ℕ) → b ∈ w.sent → (d : NodeDelta) → Part b d → d.last_gc ≤ gc_at w own
    saved : (x : ℕ) (t : Table) → t ∈ w.saved x → (node_at i t).last_gc ≤ gc_at w own

  low-begin : Low begin
  unfolding node_of
  low-begin = record { hubs = λ x. omega arith; sent = λ b m. absurd (in-none m); saved = λ x t m. absurd (in-none m) }

  module _ (w : Net) (ok : Moment plan.owner w) (low : Low w) where
    -- the owner's last_gc does not fall, and another's is within what it was and the owner's
    abbrev On : ℕ → ℕ → Node → Node → Type 0
    On x j n m = j ≡ i → (x ≡ own → n.last_gc ≤ m.last_gc) × ((x ≡ own → ⊥) → m.last_gc ≤ max n.last_gc (gc_at w own))

    on_same : (x j : ℕ) (n : Node) → On x j n n
    on_same x j n e = (λ o. omega arith, λ o. omega arith)

    on-act : (x j : ℕ) (k : List ℕ) (n : Node) (z : Decision) → On x j n (act k z n)
    unfolding act write
    on-act x j k n (Refuse r) e = (λ o. omega arith, λ o. omega arith)
    on-act x j k n Leave e = (λ o. omega arith, λ o. omega arith)
    on-act x j k n (Give c) e = (λ o. omega arith, λ o. omega arith)

    on-beat : (x j : ℕ) (n : Node) (b : Heartbeat) → On x j n (with_heartbeat b n)
    on-beat x j n b e = (λ o. omega arith, λ o. omega arith)

    on-take : (x : ℕ) (now : ℕ) (d : NodeDelta) (n : Node) → d.last_gc ≤ gc_at w own → (x ≡ own → n.last_gc ≤ (apply_node (plan.ways x) now d n).node.last_gc) × ((x ≡ own → ⊥) → (apply_node (plan.ways x) now d n).node.last_gc ≤ max n.last_gc (gc_at w own))
    unfolding outcome
    on-take x now d n l = (λ o. gc-up n (apply_node (plan.ways x) now d n).node (rises-apply (plan.ways x) now d n), λ o. go (apply_node (plan.ways x) now d n).node (came (plan.ways x) now d n))
      where
        go : (m : Node) → Came (plan.ways x) now d n m → m.last_gc ≤ max n.last_gc (gc_at w own)
        go m left = omega arith
        go m (reset r) = omega arith
        go m (took r) = omega arith

    its-part : (b c : List ℕ) (m : b ∈ w.sent) (y : Parted b c) (j : ℕ) (d : NodeDelta) → part_at j (parts_of y.reads.0) ≡ some d → j ≡ i → d.last_gc ≤ gc_at w own
    its-part b c m y j d p e = low.sent b m d (subst (λ (k : ℕ). part_at k (parts_in (read_delta b)) ≡ some d) e (y.each j d p))

    calls-on : (e : Event) → owner_removes plan i e ≡ true → possible plan.owner e w ≡ true → (y : ℕ) → Each w On on_same y ((calls plan e w).hubs y)
    unfolding remove
    calls-on (Writing x j k who c) q p = each-hub w On on_same x _ (each-call w On on_same (plan.profiles x) who c x j k (on-act x j k))
    calls-on (Beating x j) q p = each-hub w On on_same x _ (each-beat w On on_same x j (on-beat x))
    calls-on (Offering x j h) q p = each-hub w On on_same x _ (each-offer w On on_same x j h (on-beat x))
    calls-on (Removing x removal) q p =
        each-hub w On on_same x _
        (each-remove w On on_same x removal
        (λ j due e. (λ o. gc-up (node_at j (w.hubs x)) (remove due (node_at j (w.hubs x))) (rises-remove due (node_at j (w.hubs x))), λ o. absurd (o (eqb-true _ _ q)))))
    calls-on (Adding x j) q p = each-hub w On on_same x _ (each-add w On on_same x j)
    calls-on (Dropping x j) q p =
        each-hub w On on_same x _
        (each-drop w On on_same x j (ok.tables x).obeyed.ascending
        (λ e. (λ o. absurd (false≢true (sym (ap not (eq-eqb (plan.owner j) x (ap plan.owner e ∙ sym o))) ∙ p)), λ o. omega arith)))
    calls-on (Computing x edition digest excluded order mtu place l) q p = each_same w On on_same
    calls-on (Arriving x k now l) q p =
        each-hub w On on_same x _
        (nth-sent (λ d. Each w On on_same x (applied_to (plan.ways x) now l d (w.hubs x))) (each_same w On on_same x) k w.sent (λ b m. (ok.sent b m).reads)
        (λ b c m y.
        each-taken w On on_same (plan.ways x) (ready.lawful x) x now l c w.given (part-carried w.given b c (ok.sent b m) y)
        (λ j d r e. on-take x now d (node_at j (w.hubs x)) (its-part b c m y j d r e))))
    calls-on (Saving x) q p = each_same w On on_same
    calls-on (Restoring x k) q p = each-hub w On on_same x _ (old (placed k (w.saved x)) (λ t e. placed-in k (w.saved x) e))
      where
        not_own : x ≡ own → ⊥
        not_own e = false≢true (sym (ap not (eq-eqb x own e)) ∙ q)

        old : (o : Option Table) → ((t : Table) → o ≡ some t → t ∈ w.saved x) → Each w On on_same x (restored o (w.hubs x))
        old none f = each_same w On on_same x
        old (some t) f = λ j e. (λ o. absurd (not_own o), λ o. let a = low.saved x t (f t refl) in subst (λ (k : ℕ). (node_at k t).last_gc ≤ max (node_at k (w.hubs x)).last_gc (gc_at w own)) (sym e) (omega arith))

    -- what was computed and saved
    Rest : Net → Type 0
    Rest n = ((b : List ℕ) → b ∈ n.sent → (b ∈ w.sent) ⊎ ((d : NodeDelta) → Part b d → d.last_gc ≤ gc_at w own)) × ((x : ℕ) (t : Table) → t ∈ n.saved x → (t ∈ w.saved x) ⊎ (t ≡ w.hubs x))

    as_before : Rest w
    unfolding Rest
    as_before = (λ b m. inl m, λ x t m. inl m)

    computed-low : (x edition : ℕ) (digest excluded : List ℕ) (order : Order) (mtu place : ℕ) (l : List ℕ) (o : Given (Result Sent Refusal) (List ℕ)) → Comes edition excluded order mtu place digest (w.hubs x) l o → (b : List ℕ) → b ∈ sent_after place o.lent o.answer w.sent → (b ∈ w.sent) ⊎ ((d : NodeDelta) → Part b d → d.last_gc ≤ gc_at w own)
    unfolding node_delta
    computed-low x edition digest excluded order mtu place l o (refuses r) b m = inl m
    computed-low x edition digest excluded order mtu place l o (writes ds rest e made there) b m = at (in-cons m)
      where
        may : Sendable (w.hubs x) (ops_by excluded order mtu ds (w.hubs x))
        may = made.sendable

        mine : (d : NodeDelta) → Part (delta_bytes (ops_by excluded order mtu ds (w.hubs x))) d → d.last_gc ≤ gc_at w own
        mine d q =
            let y = may.made i d (sym (ap (λ (k : Ops). part_at i (parts_in k)) may.read) ∙ q) in
            let a : d.last_gc ≡ gc_at w x = ap (λ (k : NodeDelta). k.last_gc) y.delta-is in
            let b = low.hubs x in
            omega arith

        at : (b ≡ part place (length (delta_bytes (ops_by excluded order mtu ds (w.hubs x)))) (put place (delta_bytes (ops_by excluded order mtu ds (w.hubs x))) l)) ⊎ (b ∈ w.sent) → (b ∈ w.sent) ⊎ ((d : NodeDelta) → Part b d → d.last_gc ≤ gc_at w own)
        at (inl q) =
            let is : b ≡ delta_bytes (ops_by excluded order mtu ds (w.hubs x)) = q ∙ there in
            inr (λ d r. mine d (subst (λ (k : List ℕ). Part k d) is r))
        at (inr n) = inl n

    calls-rest : (e : Event) → Rest (calls plan e w)
    unfolding Rest
    calls-rest (Writing x j k who c) = as_before
    calls-rest (Beating x j) = as_before
    calls-rest (Offering x j h) = as_before
    calls-rest (Removing x removal) = as_before
    calls-rest (Adding x j) = as_before
    calls-rest (Dropping x j) = as_before
    calls-rest (Computing x edition digest excluded order mtu place l) = (computed-low x edition digest excluded order mtu place l _ (comes edition excluded order mtu place digest (w.hubs x) l (facts-table (w.hubs x) (ok.tables x).obeyed)), λ y t m. inl m)
    calls-rest (Arriving x k now l) = as_before
    calls-rest (Saving x) = (λ b m. inl m, λ y t m. at y t (eqb y x) refl m)
      where
        at : (y : ℕ) (t : Table) (b : Bool) → eqb y x ≡ b → t ∈ pick b (w.hubs x ∷ w.saved x) (w.saved y) → (t ∈ w.saved y) ⊎ (t ≡ w.hubs y)
        at y t false q m = inl m
        at y t true q m = by (in-cons m)
          where
            e : x ≡ y
            e = sym (eqb-true y x q)

            by : (t ≡ w.hubs x) ⊎ (t ∈ w.saved x) → (t ∈ w.saved y) ⊎ (t ≡ w.hubs y)
            by (inl z) = inr (z ∙ ap w.hubs e)
            by (inr z) = inl (subst (λ (k : ℕ). t ∈ w.saved k) e z)
    calls-rest (Restoring x k) = as_before

    low-calls : (n : Net) → ((x : ℕ) → Each w On on_same x (n.hubs x)) → Rest n → Low n
    unfolding Rest
    low-calls n on rest =
        record {
          hubs = λ x. at x (eqb x own) refl;
          sent = λ b m d p. let u = up in sent b d p (rest.0 b m);
          saved = λ x t m. saved x t (rest.1 x t m);
        }
      where
        up : gc_at w own ≤ gc_at n own
        up = (on own i refl).0 refl

        at : (x : ℕ) (b : Bool) → eqb x own ≡ b → gc_at n x ≤ gc_at n own
        at x true q = subst (λ (y : ℕ). gc_at n y ≤ gc_at n own) (sym (eqb-true x own q)) (omega arith)
        at x false q = let a = (on x i refl).1 (eqb-false x own q) in let b = low.hubs x in let c = up in omega arith

        sent : (b : List ℕ) (d : NodeDelta) → Part b d → (b ∈ w.sent) ⊎ ((d : NodeDelta) → Part b d → d.last_gc ≤ gc_at w own) → d.last_gc ≤ gc_at n own
        sent b d p (inl m) = let a = low.sent b m d p in let c = up in omega arith
        sent b d p (inr f) = let a = f d p in let c = up in omega arith

        saved : (x : ℕ) (t : Table) → (t ∈ w.saved x) ⊎ (t ≡ w.hubs x) → (node_at i t).last_gc ≤ gc_at n own
        saved x t (inl m) = let a = low.saved x t m in let c = up in omega arith
        saved x t (inr e) = let a = low.hubs x in let b : (node_at i t).last_gc ≡ gc_at w x = ap (λ (k : Table). (node_at i k).last_gc) e in let c = up in omega arith

    low-event : (e : Event) → owner_removes plan i e ≡ true → Low (happen plan e w)
    unfolding happen
    low-event e q = go (possible plan.owner e w) refl
      where
        go : (b : Bool) → possible plan.owner e w ≡ b → Low (pick b (calls plan e w) w)
        go true p = low-calls (calls plan e w) (calls-on e q p) (calls-rest e)
        go false p = low

  low_run : (es : List Event) (w : Net) → Moment plan.owner w → Low w → every (owner_removes plan i) es ≡ true → Moment plan.owner (after plan es w) × Low (after plan es w)
  unfolding after every
  low_run [] w ok low c = (ok, low)
  low_run (e ∷ es) w ok low c =
      low_run es (happen plan e w) (moment-event plan w ok ready e) (low-event w ok low e (and_left (owner_removes plan i e) _ c)) (and_right (owner_removes plan i e) _ c)

  -- ---- once it is settled

  -- the owner's node is as p, but for the heartbeat
  abbrev Alike : Node → Node → Type 0
  Alike p n = (n.max ≡ p.max) × (n.last_gc ≡ p.last_gc) × (n.recs ≡ p.recs)

  needed-alike : (p n f : Node) → Alike p n → needed n f ≡ needed p f
  unfolding needed
  needed-alike p n f e =
      let a = e.0 in
      let b = e.1 in
      let c = e.2 in
      λ z. pick (leb (a z) f.max) 0 (suc (length (stale (from_of (b z) f.last_gc f.max) (c z))))

  module _ (p : Node) where
    record Kept (w : Net) : Type 0 where
      moment : Moment plan.owner w
      low : Low w
      alike : Alike p (node_at i (w.hubs own))

    module _ (w : Net) (ok : Kept w) where
      abbrev Goes : ℕ → ℕ → Node → Node → Type 0
      Goes x j n m = j ≡ i → (x ≡ own → Alike n m) × Onward p n m

      goes_same : (x j : ℕ) (n : Node) → Goes x j n n
      goes_same x j n e = (λ o. (refl, refl, refl), onward-same p n)

      goes-beat : (x j : ℕ) (n : Node) (b : Heartbeat) → Goes x j n (with_heartbeat b n)
      goes-beat x j n b e = (λ o. (refl, refl, refl), λ g. (g, omega arith))

      other : (j : ℕ) → not (eqb i j) ≡ true → j ≡ i → ⊥
      other j q e = false≢true (sym (ap not (eq-eqb i j (sym e))) ∙ q)

      goes-take : (x now : ℕ) (b c : List ℕ) (m : b ∈ w.sent) (y : Parted b c) (j : ℕ) (d : NodeDelta) → part_at j (parts_of y.reads.0) ≡ some d → Goes x j (node_at j (w.hubs x)) (apply_node (plan.ways x) now d (node_at j (w.hubs x))).node
      goes-take x now b c m z j d q e = (
        λ o.
            let n : Node = node_at j (w.hubs x) in
            let y = subst (λ (k : ℕ). Publisher (w.given j) (node_at j (w.hubs k))) (ap plan.owner e ∙ sym o) (ok.moment.owners j) in
            let is : (apply_node (plan.ways x) now d n).node ≡ n = ap (λ (t : Taken). t.node) (owner-stays (plan.ways x) (ready.lawful x) (w.given j) n y d ((part-carried w.given b c (ok.moment.sent b m) z).honest j d q) now) in
            (ap (λ (k : Node). k.max) is, ap (λ (k : Node). k.last_gc) is, ap (λ (k : Node). k.recs) is),
        onward-came (plan.ways x) now d p (node_at j (w.hubs x)) (let a = its-part w ok.moment ok.low b c m z j d q e in let c = ok.alike.1 in omega arith),
      )

      calls-goes : (e : Event) → settled i e ≡ true → (y : ℕ) → Each w Goes goes_same y ((calls plan e w).hubs y)
      calls-goes (Writing x j k who c) q = each-hub w Goes goes_same x _ (each-call w Goes goes_same (plan.profiles x) who c x j k (λ n z e. absurd (other j q e)))
      calls-goes (Beating x j) q = each-hub w Goes goes_same x _ (each-beat w Goes goes_same x j (goes-beat x))
      calls-goes (Offering x j h) q = each-hub w Goes goes_same x _ (each-offer w Goes goes_same x j h (goes-beat x))
      calls-goes (Removing x removal) q = absurd (false≢true q)
      calls-goes (Adding x j) q = each-hub w Goes goes_same x _ (each-add w Goes goes_same x j)
      calls-goes (Dropping x j) q = each-hub w Goes goes_same x _ (each-drop w Goes goes_same x j (ok.moment.tables x).obeyed.ascending (λ e. absurd (other j q e)))
      calls-goes (Computing x edition digest excluded order mtu place l) q = each_same w Goes goes_same
      calls-goes (Arriving x k now l) q =
          each-hub w Goes goes_same x _
          (nth-sent (λ d. Each w Goes goes_same x (applied_to (plan.ways x) now l d (w.hubs x))) (each_same w Goes goes_same x) k w.sent (λ b m. (ok.moment.sent b m).reads)
          (λ b c m y. each-taken w Goes goes_same (plan.ways x) (ready.lawful x) x now l c w.given (part-carried w.given b c (ok.moment.sent b m) y) (goes-take x now b c m y)))
      calls-goes (Saving x) q = each_same w Goes goes_same
      calls-goes (Restoring x k) q = absurd (false≢true q)

      goes : (e : Event) → settled i e ≡ true → (x : ℕ) → (x ≡ own → Alike (node_at i (w.hubs x)) (node_at i ((happen plan e w).hubs x))) × Onward p (node_at i (w.hubs x)) (node_at i ((happen plan e w).hubs x))
      unfolding happen
      goes e q x = go (possible plan.owner e w)
        where
          go : (b : Bool) → (x ≡ own → Alike (node_at i (w.hubs x)) (node_at i ((pick b (calls plan e w) w).hubs x))) × Onward p (node_at i (w.hubs x)) (node_at i ((pick b (calls plan e w) w).hubs x))
          go true = calls-goes e q x i refl
          go false = goes_same x i (node_at i (w.hubs x)) refl

      -- a settled event is one of those in which only owners remove
      also : (e : Event) → settled i e ≡ true → owner_removes plan i e ≡ true
      also (Writing x j k who c) q = refl
      also (Beating x j) q = refl
      also (Offering x j h) q = refl
      also (Removing x removal) q = absurd (false≢true q)
      also (Adding x j) q = refl
      also (Dropping x j) q = refl
      also (Computing x edition digest excluded order mtu place l) q = refl
      also (Arriving x k now l) q = refl
      also (Saving x) q = refl
      also (Restoring x k) q = absurd (false≢true q)

      kept-event : (e : Event) → settled i e ≡ true → Kept (happen plan e w)
      kept-event e q =
          let a = (goes e q own).0 refl in
          let b = ok.alike in
          record {
            moment = moment-event plan w ok.moment ready e;
            low = low-event w ok.moment ok.low e (also e q);
            alike = (a.0 ∙ b.0, a.1 ∙ b.1, a.2 ∙ b.2);
          }

      -- the owner's own last_gc is within its max
      own-low : p.last_gc ≤ p.max
      own-low =
          let y = ok.moment.owners i in
          let a = y.node.honest.gc_low in
          let b = y.top in
          let c = ok.alike.0 in
          let d = ok.alike.1 in
          omega arith

      less-event : (e : Event) → settled i e ≡ true → (x : ℕ) → needed p (node_at i ((happen plan e w).hubs x)) ≤ needed p (node_at i (w.hubs x))
      less-event e q x = onward-needed p (node_at i (w.hubs x)) (node_at i ((happen plan e w).hubs x)) own-low (goes e q x).1

    kept_run : (es : List Event) (w : Net) → Kept w → every (settled i) es ≡ true → (x : ℕ) → Kept (after plan es w) × (needed p (node_at i ((after plan es w).hubs x)) ≤ needed p (node_at i (w.hubs x)))
    unfolding after every
    kept_run [] w ok c x = (ok, omega arith)
    kept_run (e ∷ es) w ok c x =
        let q = and_left (settled i e) _ c in
        let r = kept_run es (happen plan e w) (kept-event w ok e q) (and_right (settled i e) _ c) x in
        let a = less-event w ok e q x in
        (r.0, let b = r.1 in omega arith)

    -- ---- x hears the owner

    module _ (x : ℕ) where
      falls : (w : Net) → Kept w → (q : Asked) → Heard plan i x own w q → 0 < needed p (node_at i (w.hubs x)) → needed p (node_at i ((after plan (exchange_in q x own w) w).hubs x)) < needed p (node_at i (w.hubs x))
      unfolding node_delta
      falls w ok q s h = rw (heard.0 ∙ ap (λ (k : Node). (apply_node (plan.ways x) q.now got.0 k).node) node_is ∙ taken-node (plan.ways x) q.now got.0 f roomy) less
        where
          f : Node
          f = node_at i (w.hubs x)

          r : Node
          r = node_at i (w.hubs own)

          same : (n : Node) → needed r n ≡ needed p n
          same n = needed-alike p r n ok.alike

          late : f.max < r.max
          late = needed-some r f (let a = same f in omega arith)

          node_is : s.node ≡ f
          node_is = sym (ap or_fresh s.has)

          got : (d : NodeDelta) × PartIn (ops_in q x own w) i d × (0 < d.max)
          got = s.brings r (there-is (node_of i (w.hubs own)) f.max late) (subst (λ (k : Node). k.max < r.max) (sym node_is) late)

          heard : (node_at i ((after plan (exchange_in q x own w) w).hubs x) ≡ (apply_node (plan.ways x) q.now got.0 s.node).node) × ((apply_node (plan.ways x) q.now got.0 s.node).answer ≡ node.Room → ⊥)
          heard = heard-node plan ready.lawful w ok.moment i x own q s got.0 got.1

          roomy : (apply_node (plan.ways x) q.now got.0 f).answer ≡ node.Room → ⊥
          roomy = subst (λ (k : Node). (apply_node (plan.ways x) q.now got.0 k).answer ≡ node.Room → ⊥) node_is heard.1

          made : (count : ℕ) × (fits : Bool) × (got.0 ≡ node_delta r f.last_gc f.max count fits)
          made = subst (λ (k : Node). (count : ℕ) × (fits : Bool) × (got.0 ≡ node_delta r k.last_gc k.max count fits)) node_is (heard-made plan ready.lawful w ok.moment i x own q s got.0 got.1)

          gc_is : got.0.last_gc ≡ r.last_gc
          gc_is = ap (λ (d : NodeDelta). d.last_gc) made.2

          from_is : got.0.from ≡ from_of r.last_gc f.last_gc f.max
          from_is = ap (λ (d : NodeDelta). d.from) made.2

          moves : Moves r got.0
          moves = at (delta-moves-or r f.last_gc f.max made.0 made.1)
            where
              at : ((node_delta r f.last_gc f.max made.0 made.1).max ≡ 0) ⊎ Moves r (node_delta r f.last_gc f.max made.0 made.1) → Moves r got.0
              at (inl z) = let a : got.0.max ≡ (node_delta r f.last_gc f.max made.0 made.1).max = ap (λ (d : NodeDelta). d.max) made.2 in let b = got.2 in absurd (omega arith)
              at (inr m) = subst (Moves r) (sym made.2) m

          lets : (plan.ways x).fence f.last_gc f.max got.0.last_gc got.0.max ≡ false
          lets = (ready.lawful x).lets f.last_gc f.max got.0.last_gc got.0.max (let a = ok.low.hubs x in let b = gc_is in omega arith)

          less : needed p (outcome (delta_status (plan.ways x).fence f got.0) q.now got.0 f) < needed p f
          less =
              let n = needed-falls (plan.ways x).fence q.now r f f got.0 late gc_is from_is (onward-same r f) lets moves in
              let a = same (outcome (delta_status (plan.ways x).fence f got.0) q.now got.0 f) in
              let b = same f in
              omega arith

      round-falls : (es : List Event) (w : Net) → Kept w → every (settled i) es ≡ true → HearsIn plan (Heard plan i x own) x own es w → (k : ℕ) → needed p (node_at i (w.hubs x)) ≤ suc k → needed p (node_at i ((after plan es w).hubs x)) ≤ k
      round-falls es w ok c s k h =
          subst (λ (fs : List Event). Less (after plan fs w)) (sym s.is)
          (subst Less (sym (after-append plan s.before (ex ++ s.rest) w)) (subst Less (sym (after-append plan ex s.rest u)) (go (ltb 0 (needed p (node_at i (u.hubs x)))) refl)))
        where
          Less : Net → Type 0
          Less v = needed p (node_at i (v.hubs x)) ≤ k

          u : Net
          u = after plan s.before w

          ex : List Event
          ex = exchange_in s.asked x own u

          parts : (every (settled i) s.before ≡ true) × (every (settled i) (ex ++ s.rest) ≡ true)
          parts = every_append (settled i) s.before (ex ++ s.rest) (subst (λ (fs : List Event). every (settled i) fs ≡ true) s.is c)

          more : (every (settled i) ex ≡ true) × (every (settled i) s.rest ≡ true)
          more = every_append (settled i) ex s.rest parts.1

          first : Kept u × (needed p (node_at i (u.hubs x)) ≤ needed p (node_at i (w.hubs x)))
          first = kept_run s.before w ok parts.0 x

          mid : Kept (after plan ex u) × (needed p (node_at i ((after plan ex u).hubs x)) ≤ needed p (node_at i (u.hubs x)))
          mid = kept_run ex u first.0 more.0 x

          last : Kept (after plan s.rest (after plan ex u)) × (needed p (node_at i ((after plan s.rest (after plan ex u)).hubs x)) ≤ needed p (node_at i ((after plan ex u).hubs x)))
          last = kept_run s.rest (after plan ex u) mid.0 more.1 x

          go : (b : Bool) → ltb 0 (needed p (node_at i (u.hubs x))) ≡ b → Less (after plan s.rest (after plan ex u))
          go true q = let a = falls u first.0 s.asked s.so_heard (ltb-true _ _ q) in let b = first.1 in let d = last.1 in omega arith
          go false q = let a = ltb-false 0 (needed p (node_at i (u.hubs x))) q in let b = mid.1 in let d = last.1 in omega arith

      rounds-end : (hears : (x y : ℕ) → Type 0) → hears x own → (ess : List (List Event)) (w : Net) → Kept w → Rounds plan (settled i) (Heard plan i) hears ess w → needed p (node_at i (w.hubs x)) ≤ length ess → Kept (after_all plan ess w) × (needed p (node_at i ((after_all plan ess w).hubs x)) ≡ 0)
      unfolding after_all Rounds
      rounds-end hears e [] w ok rs h = (ok, omega arith)
      rounds-end hears e (es ∷ ess) w ok rs h =
          rounds-end hears e ess (after plan es w) (kept_run es w ok rs.0.only x).0 rs.1 (round-falls es w ok rs.0.only (rs.0.each x own e) (length ess) h)

-- After any run in which only node i's owner removed: once nobody writes or removes it, as many rounds as the owner holds records of it, and one, bring each hub that
-- hears the owner to its max, whatever else arrives meanwhile.
pub owner-closes : (plan : Plan) → Ready plan → (es : List Event) (i : ℕ)
    → every (owner_removes plan i) es ≡ true
    → (hears : (x y : ℕ) → Type 0) (ess : List (List Event))
    → Rounds plan (settled i) (Heard plan i) hears ess (after plan es begin)
    → (p : Node)
    → node_of i ((after plan es begin).hubs (plan.owner i)) ≡ some p
    → suc (length p.recs) ≤ length ess
    → (x : ℕ)
    → hears x (plan.owner i)
    → Closed plan i x (after_all plan ess (after plan es begin))
owner-closes plan ready es i only hears ess rs p held h x e =
    let r = rounds-end plan ready i p x hears e ess w ok rs (let a = needed-most p (node_at i (w.hubs x)) in omega arith) in
    let v : Net = after_all plan ess w in
    let up : p.max ≤ (node_at i (v.hubs x)).max = needed-none p (node_at i (v.hubs x)) r.1 in
    let low = ((r.0.moment.tables x).honest i).honest.max-low in
    let top = (r.0.moment.owners i).top in
    let same = r.0.alike.0 in
    closed_of plan i x v r.0.moment (omega arith)
  where
    w : Net
    w = after plan es begin

    both : Moment plan.owner w × Low plan ready i w
    both = low_run plan ready i es begin (moment-begin plan.owner) (low-begin plan ready i) only

    ok : Kept plan ready i p w
    ok = record { moment = both.0; low = both.1; alike = let q = ap or_fresh held in (ap (λ (k : Node). k.max) q, ap (λ (k : Node). k.last_gc) q, ap (λ (k : Node). k.recs) q) }
