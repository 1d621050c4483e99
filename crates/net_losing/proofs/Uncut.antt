-- Nets without plain hubs whose deltas are not cut: no key's version falls at any hub, as long as it is not restored and the node not removed there. Every node, everything ever computed and every saved
-- table is exact, so every delta is sharp. Tables may be restored and nodes removed before.
use Prim.Native.Nat.{◌<◌, ◌≤◌, max, ℕ}
use mathlib.Core.Bool.{Bool, false, false≢true, true}
use mathlib.Core.List.{List, [], ◌∷◌}
use mathlib.Core.Option.{Option, none, some}
use mathlib.Core.Path.{◌∙◌, ◌≡◌, ap, refl, subst, sym}
use native.Mathlib.Omega.{arith}
use lib.Dec.{eqb}
use lib.ListN.{length}
use borrow.Author.Tests.{eqb-false, eqb-true}
use Rattle.fields.proofs.Choice.{and_left, and_right, in-none}
use Rattle.fields.specs.Choice.{◌∈◌, later, pick}
use Rattle.rules.proofs.Obeys.{facts-table}
use Rattle.rules.proofs.Tables.{part_in, part_at}
use Rattle.rules.proofs.Taking.{Applies}
use Rattle.rules.specs.Compute.{stale}
use Rattle.rules.specs.Apply.{ways_in}
use Rattle.rules.specs.Delta.{Good, NodeDelta, Op, Part, delta_bytes, parts_of}
use Rattle.rules.specs.Given.{Given}
use Rattle.rules.specs.Node.{Call, Decision, Give, KeyValue, Leave, Node, Refuse, act, decide}
use Rattle.rules.specs.Table.{Table, node_of}
use Rattle.rules.specs.Whole.{decode_whole}
use Rattle.std.specs.Prelude.{Result}
use Rattle.rules.specs.declared.Refusal.{Refusal}
use Rattle.rules.specs.declared.Sent.{Sent}
use Rattle.rules.specs.declared.Party.{Party}
use Rattle.rules.specs.Profile.{Kind}
use Rattle.demand3.proofs.EachNode.{node_at, or_fresh}
use Rattle.demand3.proofs.Formed.{by-guard}
use Rattle.demand3.proofs.Forms.{Comes, comes, refuses, writes}
use Rattle.demand3.proofs.Parted.{ReadsWell, at-whole, nth-sent}
use Rattle.demand3.proofs.OnTheWay.{PartFor}
use Rattle.demand3.proofs.Publisher.{Publisher, all-current, next-version}
use Rattle.demand3.specs.Demand3.{Holds}
use Rattle.demand3.specs.Forms.{Order, ops_by}
use Rattle.demand3.specs.World.{applied_to, given_after, given_as, given_by, given_in, sent_after}
use Rattle.net.proofs.Each.{Each, each-add, each-beat, each-call, each-drop, each-hub, each-offer, each-remove, each_same, each-taken}
use Rattle.net.proofs.LentNet.{after-lent, lent-run, ready}
use Rattle.net.proofs.Moments.{Longer, Moment, as_long, longer, moment-begin, moment-event, moments, one_more, part-carried, placed-in}
use Rattle.net.specs.LentNet.{LentNet, lent_after, lent_begin, plan_in, tables_in}
use Rattle.net.specs.Net.{Adding, Arriving, Beating, Computing, Dropping, Event, Net, Offering, Plan, Ready, Removing, Restoring, Saving, Writing, after, all_go_on, begin, calls, goes_on, happen, placed, possible, restored}
use Rattle.net_losing.proofs.Exact.{Exact, ExactDelta, Newest, exact-apply, exact-beat, exact-computed, exact-delta-longer, exact-fresh, exact-honest, exact-longer, exact-owner, exact-remove, exact-sharp, top-write}
use Rattle.net_losing.proofs.Grown.{Grown, as_is, grown-longer}
use Rattle.net_losing.proofs.Sharp.{Past, past-apply, past-beat, past-held, past-remove}
use Rattle.net_losing.specs.Back.{NoKeyFalls, Uncut, UncutAt}

-- ---- at a moment

record Exacts (w : Net) : Type 0 where
  base : (i : ℕ) → Grown [] (w.given i)
  nodes : (x i : ℕ) → Exact (w.given i) (node_at i (w.hubs x))
  sent : (b : List ℕ) → b ∈ w.sent → (y : ReadsWell b) → (i : ℕ) (d : NodeDelta) → part_at i (parts_of y.0) ≡ some d → ExactDelta (w.given i) d
  saved : (x : ℕ) (t : Table) → t ∈ w.saved x → (i : ℕ) → Exact (w.given i) (node_at i t)

exacts-begin : Exacts begin
unfolding node_of
exacts-begin = record { base = λ i. as_is; nodes = λ x i. exact-fresh []; sent = λ b m. absurd (in-none m); saved = λ x t m. absurd (in-none m) }

module _ (plan : Plan) (ready : Ready plan) (w : Net) (ok : Moment plan.owner w) (y : Exacts w) where
  abbrev own : ℕ → ℕ
  own = plan.owner

  -- ---- calls that give nothing

  abbrev R : ℕ → ℕ → Node → Node → Type 0
  R x i n m = Exact (w.given i) n → Exact (w.given i) m

  same : (x i : ℕ) (n : Node) → R x i n n
  same x i n e = e

  on-hub : (x : ℕ) (u : Table) → Each w R same x u → Exacts (record { hubs = λ z. pick (eqb z x) u (w.hubs z); given = w.given; sent = w.sent; saved = w.saved })
  on-hub x u e = record { base = y.base; nodes = λ z i. each-hub w R same x u e z i (y.nodes z i); sent = y.sent; saved = y.saved }

  reaches : (x now : ℕ) (d : NodeDelta) (n : Node) → Applies (plan.ways x) now d n → n.last_gc ≤ max n.max (max d.last_gc d.max)
  reaches x now d n r = (ready.lawful x).safe (ready.late x) n.last_gc n.max d.last_gc d.max r.let-in

  -- ---- a write

  module _ (x i : ℕ) (k : List ℕ) (who : Party) (c : Call) where
    abbrev given : ℕ → List KeyValue
    given j = pick (eqb j i) (given_as (plan.profiles x) who k c (node_of i (w.hubs x)) (w.given j)) (w.given j)

    adds : own i ≡ x → (j : ℕ) → Longer (w.given j) (given j)
    adds mine j = go (eqb j i) refl
      where
        in-it : (o : Option Node) → node_of i (w.hubs x) ≡ o → Longer (w.given i) (given_in k c o (w.given i))
        in-it none q = as_long
        in-it (some p) q = by (decide c k p)
          where
            publishes : Publisher (w.given i) p
            publishes = subst (Publisher (w.given i)) (ap or_fresh q) (subst (λ (z : ℕ). Publisher (w.given i) (node_at i (w.hubs z))) mine (ok.owners i))

            by : (z : Decision) → Longer (w.given i) (given_after k z p (w.given i))
            by (Refuse r) = as_long
            by Leave = as_long
            by (Give a) = longer (given_by k a p) (next-version (w.given i) p publishes k a)

        in-profile : Longer (w.given i) (given_as (plan.profiles x) who k c (node_of i (w.hubs x)) (w.given i))
        in-profile = by-guard (plan.profiles x) who c i k (w.hubs x) (λ u g. Longer (w.given i) (g (w.given i))) as_long (in-it (node_of i (w.hubs x)) refl)

        go : (b : Bool) → eqb j i ≡ b → Longer (w.given j) (pick b (given_as (plan.profiles x) who k c (node_of i (w.hubs x)) (w.given j)) (w.given j))
        go true q = subst (λ (l : ℕ). Longer (w.given l) (given_as (plan.profiles x) who k c (node_of i (w.hubs x)) (w.given l))) (sym (eqb-true _ _ q)) in-profile
        go false q = as_long

    -- the newest record stands
    abbrev T : ℕ → ℕ → Node → Node → Type 0
    T z j n m = Newest n → Newest m

    acts : (z : ℕ) (n : Node) (e : Decision) → T z i n (act k e n)
    unfolding act
    acts z n (Refuse r) t = t
    acts z n Leave t = t
    acts z n (Give a) t = top-write k a n

    -- another hub's nodes stay
    abbrev S : ℕ → ℕ → Node → Node → Type 0
    S z j n m = (own j ≡ z → ⊥) → n ≡ m

    exacts-writing : own i ≡ x → Moment own (calls plan (Writing x i k who c) w) → Exacts (calls plan (Writing x i k who c) w)
    exacts-writing mine m =
        record {
          base = λ j. grown-longer [] (w.given j) (given j) (y.base j) (adds mine j);
          nodes = λ z j. node z j (eqb (own j) z) refl;
          sent = λ b i r j d q. exact-delta-longer (w.given j) (given j) (adds mine j) d (y.sent b i r j d q);
          saved = λ z t i j. exact-longer (w.given j) (given j) (adds mine j) (node_at j t) (y.saved z t i j);
        }
      where
        hubs : ℕ → Table
        hubs = (calls plan (Writing x i k who c) w).hubs

        newest : (z j : ℕ) → Newest (node_at j (hubs z))
        newest z j = each-hub w T (λ z j n t. t) x _ (each-call w T (λ z j n t. t) (plan.profiles x) who c x i k (acts x)) z j (y.nodes z j).top

        stays : (z j : ℕ) → (own j ≡ z → ⊥) → node_at j (w.hubs z) ≡ node_at j (hubs z)
        stays z j f = each-hub w S (λ z j n e. refl) x _ (each-call w S (λ z j n e. refl) (plan.profiles x) who c x i k (λ n e g. absurd (g mine))) z j f

        node : (z j : ℕ) (b : Bool) → eqb (own j) z ≡ b → Exact (given j) (node_at j (hubs z))
        node z j true q =
            exact-owner (given j) (node_at j (hubs z)) (subst (λ (l : ℕ). Publisher (given j) (node_at j (hubs l))) (eqb-true _ _ q) (m.owners j)) (newest z j)
        node z j false q = subst (Exact (given j)) (stays z j (eqb-false _ _ q)) (exact-longer (w.given j) (given j) (adds mine j) (node_at j (w.hubs z)) (y.nodes z j))

  -- ---- computing

  module _ (x edition : ℕ) (digest excluded : List ℕ) (order : Order) (mtu place : ℕ) (l : List ℕ) (uncut : UncutAt (Computing x edition digest excluded order mtu place l) w) where
    abbrev Sends : List (List ℕ) → Type 0
    Sends s = Exacts (record { hubs = w.hubs; given = w.given; sent = s; saved = w.saved })

    exacts-computing : (o : Given (Result Sent Refusal) (List ℕ)) → Comes edition excluded order mtu place digest (w.hubs x) l o → Sends (sent_after place o.lent o.answer w.sent)
    exacts-computing o (refuses r) = y
    exacts-computing o (writes ds rest e made at_place) =
        subst (λ (b : List ℕ). Sends (b ∷ w.sent)) (sym at_place)
        (record { base = y.base; nodes = y.nodes; sent = one_more AllExact (delta_bytes ops) w.sent new y.sent; saved = y.saved })
      where
        ops : List Op
        ops = ops_by excluded order mtu ds (w.hubs x)

        AllExact : List ℕ → Type 0
        AllExact b = (r : ReadsWell b) → (i : ℕ) (d : NodeDelta) → part_at i (parts_of r.0) ≡ some d → ExactDelta (w.given i) d

        there-is : (i : ℕ) (a : Option Node) → node_of i (w.hubs x) ≡ a → 0 < (or_fresh a).max → node_of i (w.hubs x) ≡ some (or_fresh a)
        there-is i none q b = absurd (omega arith)
        there-is i (some n) q b = q

        part : (i : ℕ) (d : NodeDelta) → part_at i (parts_of ops) ≡ some d → ExactDelta (w.given i) d
        part i d q =
            let p : PartFor excluded ds (w.hubs x) i d = made.each i d q in
            let z = part_in i (parts_of ops) q in
            let same-part : z.0 ≡ record { number = i; delta = d } = λ k. record { number = sym z.3 k; delta = z.2 k } in
            let n : Node = node_at i (w.hubs x) in
            let has : node_of i (w.hubs x) ≡ some n = there-is i (node_of i (w.hubs x)) refl (let a = p.behind in omega arith) in
            let whole = uncut ds rest e i d (subst (λ (v : Part). v ∈ parts_of ops) same-part z.1) n has in
            subst (ExactDelta (w.given i)) (sym p.delta-is)
            (exact-computed (w.given i) (y.base i) n (y.nodes x i) _ _ p.count p.fits p.behind
            (subst (λ (v : NodeDelta). length v.recs ≡ length (stale v.from n.recs)) p.delta-is whole))

        alike : (a b : List Op) → Good a ≡ Good b → a ≡ b
        alike a b q = cc

        new : AllExact (delta_bytes ops)
        new r i d q = part i d (sym (ap (λ (a : List Op). part_at i (parts_of a)) (alike r.0 ops (sym r.1 ∙ made.sendable.read))) ∙ q)

  -- ---- every event

  exacts-calls : (e : Event) → UncutAt e w → possible own e w ≡ true → Moment own (calls plan e w) → Exacts (calls plan e w)
  exacts-calls (Writing x i k who c) u p m = exacts-writing x i k who c (eqb-true _ _ (and_left _ _ p)) m
  exacts-calls (Beating x j) u p m = on-hub x _ (each-beat w R same x j (λ i n b z. exact-beat (w.given i) n z b))
  exacts-calls (Offering x j b) u p m = on-hub x _ (each-offer w R same x j b (λ i n b z. exact-beat (w.given i) n z b))
  exacts-calls (Removing x removal) u p m = on-hub x _ (each-remove w R same x removal (λ i due z. exact-remove (w.given i) (node_at i (w.hubs x)) z due))
  exacts-calls (Adding x j) u p m = on-hub x _ (each-add w R same x j)
  exacts-calls (Dropping x j) u p m = on-hub x _ (each-drop w R same x j (ok.tables x).obeyed.ascending (λ z. exact-fresh (w.given j)))
  exacts-calls (Computing x edition digest excluded order mtu place l) u p m =
      exacts-computing x edition digest excluded order mtu place l u _ (comes edition excluded order mtu place digest (w.hubs x) l (facts-table (w.hubs x) (ok.tables x).obeyed))
  exacts-calls (Arriving x k now l) u p m =
      on-hub x _
      (nth-sent (λ d. Each w R same x (applied_to (plan.ways x) now l d (w.hubs x))) (each_same w R same x) k w.sent (λ b m. (ok.sent b m).reads)
      (λ b e i p.
      let c = ok.sent b i in
      each-taken w R same (plan.ways x) (ready.lawful x) x now l e w.given (part-carried w.given b e c p)
      (λ j d q z. exact-apply (w.given j) (y.base j) now d (y.sent b i c.reads j d (at-whole b e c.reads p j d q)) (node_at j (w.hubs x)) z (plan.ways x) (reaches x now d (node_at j (w.hubs x))))))
  exacts-calls (Saving x) u p m = record { base = y.base; nodes = y.nodes; sent = y.sent; saved = λ z. at z (eqb z x) }
    where
      at : (z : ℕ) (b : Bool) (t : Table) → t ∈ pick b (w.hubs x ∷ w.saved x) (w.saved z) → (i : ℕ) → Exact (w.given i) (node_at i t)
      at z true t j = one_more (λ u. (i : ℕ) → Exact (w.given i) (node_at i u)) (w.hubs x) (w.saved x) (y.nodes x) (y.saved x) t j
      at z false t j = y.saved z t j
  exacts-calls (Restoring x k) u p m = on-hub x _ (go (placed k (w.saved x)) (λ t e. y.saved x t (placed-in k (w.saved x) e)))
    where
      go : (o : Option Table) → ((t : Table) → o ≡ some t → (i : ℕ) → Exact (w.given i) (node_at i t)) → Each w R same x (restored o (w.hubs x))
      go none f = each_same w R same x
      go (some t) f = λ i z. f t refl i

  exacts-event : (e : Event) → UncutAt e w → Exacts (happen plan e w)
  unfolding happen
  exacts-event e u = go (possible own e w) refl (moment-event plan w ok ready e)
    where
      go : (b : Bool) → possible own e w ≡ b → Moment own (pick b (calls plan e w) w) → Exacts (pick b (calls plan e w) w)
      go true q m = exacts-calls e u q m
      go false q m = y

  -- ---- between moments, at a hub that does not own the node

  module _ (i : ℕ) (s : KeyValue) (told : s ∈ w.given i) where
    abbrev P : ℕ → ℕ → Node → Node → Type 0
    P x j n m = j ≡ i → (own j ≡ x → ⊥) → Past s n → Past s m

    kept : (x j : ℕ) (n : Node) → P x j n n
    kept x j n e f a = a

    past-calls : (e : Event) → goes_on e ≡ true → possible own e w ≡ true → (z : ℕ) → Each w P kept z ((calls plan e w).hubs z)
    past-calls (Writing x j k who c) g p = each-hub w P kept x _ (each-call w P kept (plan.profiles x) who c x j k (λ n d e f. absurd (f (eqb-true _ _ (and_left _ _ p)))))
    past-calls (Beating x j) g p = each-hub w P kept x _ (each-beat w P kept x j (λ l n b e f a. past-beat s n a b))
    past-calls (Offering x j b) g p = each-hub w P kept x _ (each-offer w P kept x j b (λ l n b e f a. past-beat s n a b))
    past-calls (Removing x removal) g p = each-hub w P kept x _ (each-remove w P kept x removal (λ l due e f a. past-remove s (node_at l (w.hubs x)) a due))
    past-calls (Adding x j) g p = each-hub w P kept x _ (each-add w P kept x j)
    past-calls (Dropping x j) g p = absurd (false≢true g)
    past-calls (Computing x edition digest excluded order mtu place l) g p = each_same w P kept
    past-calls (Arriving x k now l) g p =
        each-hub w P kept x _
        (nth-sent (λ d. Each w P kept x (applied_to (plan.ways x) now l d (w.hubs x))) (each_same w P kept x) k w.sent (λ b m. (ok.sent b m).reads)
        (λ b u m v.
        let c = ok.sent b m in
        each-taken w P kept (plan.ways x) (ready.lawful x) x now l u w.given (part-carried w.given b u c v)
        (λ j d q e f a.
        past-apply s (node_at j (w.hubs x)) a (w.given j) (subst (λ (r : ℕ). s ∈ w.given r) (sym e) told) (exact-honest (w.given j) (node_at j (w.hubs x)) (y.nodes x j)).sorted now d
        (exact-sharp (w.given j) (y.base j) d (y.sent b m c.reads j d (at-whole b u c.reads v j d q))) (plan.ways x) (reaches x now d (node_at j (w.hubs x))))))
    past-calls (Saving x) g p = each_same w P kept
    past-calls (Restoring x k) g p = absurd (false≢true g)

    past-event : (e : Event) → goes_on e ≡ true → (x : ℕ) → (own i ≡ x → ⊥) → Past s (node_at i (w.hubs x)) → Past s (node_at i ((happen plan e w).hubs x))
    unfolding happen
    past-event e g x f a = go (possible own e w) refl
      where
        go : (b : Bool) → possible own e w ≡ b → Past s (node_at i ((pick b (calls plan e w) w).hubs x))
        go true q = past-calls e g q x i refl f a
        go false q = a

    -- it was given, and stays so
    told-calls : (e : Event) → possible own e w ≡ true → s ∈ (calls plan e w).given i
    told-calls (Writing x j k who c) p = at (adds x j k who c (eqb-true _ _ (and_left _ _ p)) i)
      where
        at : {h : List KeyValue} → Longer (w.given i) h → s ∈ h
        at as_long = told
        at (longer v q) = later told
    told-calls (Beating x j) p = told
    told-calls (Offering x j b) p = told
    told-calls (Removing x removal) p = told
    told-calls (Adding x j) p = told
    told-calls (Dropping x j) p = told
    told-calls (Computing x edition digest excluded order mtu place l) p = told
    told-calls (Arriving x k now l) p = told
    told-calls (Saving x) p = told
    told-calls (Restoring x k) p = told

    told-event : (e : Event) → s ∈ (happen plan e w).given i
    unfolding happen
    told-event e = go (possible own e w) refl
      where
        go : (b : Bool) → possible own e w ≡ b → s ∈ (pick b (calls plan e w) w).given i
        go true q = told-calls e q
        go false q = told

-- ---- a run

module _ (plan : Plan) (ready : Ready plan) where
  exacts-run : (es : List Event) (w : Net) → Moment plan.owner w → Exacts w → Uncut plan es w → Exacts (after plan es w)
  unfolding after Uncut
  exacts-run [] w ok y u = y
  exacts-run (e ∷ es) w ok y u = exacts-run es (happen plan e w) (moment-event plan w ok ready e) (exacts-event plan ready w ok y e u.0) u.1

  past-run : (i : ℕ) (s : KeyValue) (es : List Event) (w : Net) → Moment plan.owner w → Exacts w → Uncut plan es w → all_go_on es ≡ true
      → s ∈ w.given i → (x : ℕ) → (plan.owner i ≡ x → ⊥) → Past s (node_at i (w.hubs x))
      → Past s (node_at i ((after plan es w).hubs x))
  unfolding after Uncut all_go_on
  past-run i s [] w ok y u g told x f a = a
  past-run i s (e ∷ es) w ok y u g told x f a =
      past-run i s es (happen plan e w) (moment-event plan w ok ready e) (exacts-event plan ready w ok y e u.0) u.1 (and_right (goes_on e) _ g) (told-event plan ready w ok y i s told e) x f
      (past-event plan ready w ok y i s told e (and_left (goes_on e) _ g) x f a)

  told-run : (i : ℕ) (s : KeyValue) (es : List Event) (w : Net) → Moment plan.owner w → Exacts w → Uncut plan es w → s ∈ w.given i → s ∈ (after plan es w).given i
  unfolding after Uncut
  told-run i s [] w ok y u told = told
  told-run i s (e ∷ es) w ok y u told =
      told-run i s es (happen plan e w) (moment-event plan w ok ready e) (exacts-event plan ready w ok y e u.0) u.1 (told-event plan ready w ok y i s told e)

  -- ---- the theorem

  -- After any run whose deltas were not cut; and then as long as none is cut, no table restored and no node removed: no key's version falls, at any hub.
  pub no-key-falls-uncut : (es fs : List Event) → Uncut plan es begin → Uncut plan fs (after plan es begin) → all_go_on fs ≡ true → (x : ℕ) → NoKeyFalls ((after plan es begin).hubs x) ((after plan fs (after plan es begin)).hubs x)
  no-key-falls-uncut es fs u v g x i m n p q s t a b k = go (eqb (plan.owner i) x) refl
    where
      w : Net
      w = after plan es begin

      ok : Moment plan.owner w
      ok = moments plan ready es begin (moment-begin plan.owner)

      y : Exacts w
      y = exacts-run es begin (moment-begin plan.owner) exacts-begin u

      held : Holds (node_at i (w.hubs x)) s
      held = subst (λ (z : Node). Holds z s) (sym (ap or_fresh p)) a

      told : s ∈ w.given i
      told = ((ok.tables x).honest i).honest.told s held

      now : Holds (node_at i ((after plan fs w).hubs x)) t
      now = subst (λ (z : Node). Holds z t) (sym (ap or_fresh q)) b

      go : (c : Bool) → eqb (plan.owner i) x ≡ c → s.version ≤ t.version
      go true e =
          let end = moments plan ready fs w ok in
          let o = subst (λ (z : ℕ). Publisher ((after plan fs w).given i) (node_at i ((after plan fs w).hubs z))) (eqb-true _ _ e) (end.owners i) in
          all-current ((after plan fs w).given i) (node_at i ((after plan fs w).hubs x)) o.numbered o.node o.top t now s (told-run i s fs w ok y v told) (sym k)
      go false e =
          (past-run i s fs w ok y v g told x (eqb-false _ _ e) (past-held (w.given i) (node_at i (w.hubs x)) ((ok.tables x).honest i) s held)).none_older t now k

-- of lent bytes
pub lent-no-key-falls-uncut : (owner : ℕ → ℕ) (kinds : ℕ → Kind) → ((x : ℕ) → (ways_in (kinds x)).late ≡ true) → (es fs : List Event)
    → Uncut (plan_in owner kinds) es begin
    → Uncut (plan_in owner kinds) fs (after (plan_in owner kinds) es begin)
    → all_go_on fs ≡ true
    → (x : ℕ)
    → NoKeyFalls (decode_whole ((lent_after owner es (lent_begin kinds)).hubs x)).table (decode_whole ((lent_after owner fs (lent_after owner es (lent_begin kinds))).hubs x)).table
lent-no-key-falls-uncut owner kinds late es fs u v g x =
    let plan : Plan = plan_in owner kinds in
    let l : LentNet = lent_after owner es (lent_begin kinds) in
    let r = lent-run owner kinds late es in
    let s = after-lent owner kinds late fs l r.0 (subst (Moment owner) (sym r.1) (moments plan (ready owner kinds late) es begin (moment-begin owner))) in
    let e : tables_in (lent_after owner fs l) ≡ after plan fs (after plan es begin) = s.1 ∙ ap (after plan fs) r.1 in
    subst (λ (n : Net). NoKeyFalls ((tables_in l).hubs x) (n.hubs x)) (sym e)
    (subst (λ (n : Net). NoKeyFalls (n.hubs x) ((after plan fs (after plan es begin)).hubs x)) (sym r.1) (no-key-falls-uncut plan (ready owner kinds late) es fs u v g x))
