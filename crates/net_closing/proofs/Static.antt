-- A graph that stays as it is: every hub takes deltas only of those that it hears. Then a last_gc above max came from a heard hub whose last_gc is no lower, and
-- so on to one whose last_gc is within its max (Chains). Each event keeps this.
use Prim.Native.Nat.{◌≤◌, max, suc, zero, ℕ}
use mathlib.Core.Bool.{Bool, false, true, true≢false}
use mathlib.Core.List.{List, [], ◌∷◌}
use mathlib.Core.Logic.{◌⊎◌, inl, inr}
use mathlib.Core.Option.{Option, none, some}
use mathlib.Core.Path.{◌∙◌, ◌≡◌, ap, refl, subst, sym}
use native.Mathlib.Omega.{arith}
use lib.Dec.{eqb, ltb}
use lib.ListN.{length}
use borrow.Author.Tests.{eq-eqb, eqb-true, ltb-false, ltb-true}
use Rattle.fields.specs.Choice.{◌∈◌, here, later, pick}
use Rattle.fields.specs.Parts.{part, put}
use Rattle.rules.proofs.Obeys.{facts-table}
use Rattle.rules.proofs.Records.{gc-below, gc-rises}
use Rattle.rules.proofs.Sending.{node_delta}
use Rattle.rules.proofs.Tables.{part_at}
use Rattle.rules.proofs.Taking.{Came, came, left, reset, took}
use Rattle.rules.specs.Apply.{apply_node, outcome}
use Rattle.rules.specs.Delta.{NodeDelta, Ops, delta_bytes, read_delta}
use Rattle.rules.specs.Given.{Given}
use Rattle.rules.specs.Node.{Decision, Give, Leave, Node, Rec, Refuse, act, due, last_gc_of, remove, with_heartbeat, write}
use Rattle.rules.specs.Table.{Table, node_of}
use Rattle.std.specs.Prelude.{Result}
use Rattle.rules.specs.declared.Refusal.{Refusal}
use Rattle.rules.specs.declared.Sent.{Sent}
use Rattle.rules.specs.declared.Heartbeat.{Heartbeat}
use Rattle.demand3.proofs.Forms.{Comes, comes, refuses, writes}
use Rattle.demand3.specs.Forms.{Order, ops_by}
use Rattle.demand3.proofs.EachNode.{node_at, parts_in}
use Rattle.demand3.proofs.OnTheWay.{Sendable}
use Rattle.demand3.proofs.Parted.{Parted, ReadsWell, cut-delta, cut-nothing, uncut}
use Rattle.demand3.specs.Demand3.{wrote_delta}
use Rattle.demand3.specs.World.{Cut, DeltaSent, Exchange, Idle, applied_to, cut_by, nth_sent, sent_after}
use Rattle.net.proofs.Each.{Each, each-add, each-beat, each-call, each-drop, each-offer, each-remove, each_same, each-taken}
use Rattle.net.proofs.Moments.{Moment, moment-event, part-carried, placed-in}
use Rattle.net.specs.Net.{Adding, Arriving, Beating, Computing, Dropping, Event, Net, Offering, Plan, Ready, Removing, Restoring, Saving, Writing, after, begin, calls, happen, placed, possible}
use Rattle.net_closing.proofs.Chains.{Chain, Turns, chain-from, chain-turns, ends, follows, grows, settles, turns-low}
use Rattle.net_closing.specs.Closing.{Local, LocalAt, Neighbour, senders_after, senders_in}

-- what is at a place of all deltas is on its way from there
nth-placed : (P : Exchange → Type 0) → P Idle → (cs : List Cut) (k : ℕ) (ss : List (List ℕ)) → ((b : List ℕ) → b ∈ ss → ReadsWell b)
    → ((b c : List ℕ) → placed k ss ≡ some b → Parted b c → P (DeltaSent c)) → P (cut_by cs (nth_sent k ss))
unfolding placed nth_sent
nth-placed P idle cs k [] r f = cut-nothing P idle cs
nth-placed P idle cs zero (b ∷ ss) r f = cut-delta P idle cs b b (uncut b (r b (here refl))) (λ c y. f b c refl y)
nth-placed P idle cs (suc k) (b ∷ ss) r f = nth-placed P idle cs k ss (λ c m. r c (later m)) f

module _ (plan : Plan) (ready : Ready plan) (i : ℕ) (hears : (x y : ℕ) → Type 0) where
  abbrev pub nodes : (ℕ → Table) → ℕ → Node
  nodes hubs x = node_at i (hubs x)

  abbrev Part : List ℕ → NodeDelta → Type 0
  Part b d = part_at i (parts_in (read_delta b)) ≡ some d

  -- a delta of node i has no last_gc above its sender's
  abbrev From : (ℕ → Table) → List ℕ → Option ℕ → Type 0
  From hubs b none = ⊥
  From hubs b (some y) = (d : NodeDelta) → Part b d → d.last_gc ≤ (nodes hubs y).last_gc

  pub record Static (hubs : ℕ → Table) (sent : List (List ℕ)) (s : List ℕ) : Type 0 where
    pub chains : (x : ℕ) → Chain hears (nodes hubs) 0 x
    pub from : (k : ℕ) (b : List ℕ) → placed k sent ≡ some b → From hubs b (placed k s)

  abbrev pub StaticIn : Net → List ℕ → Type 0
  StaticIn w s = Static w.hubs w.sent s

  pub static-begin : StaticIn begin []
  unfolding node_of placed
  static-begin = record { chains = λ x. ends 0 x (omega arith) (omega arith); from = λ k b e. let z : ◌≡◌ {A = ℕ} 0 1 = cc in absurd (omega arith) }

  module _ (w : Net) (ok : Moment plan.owner w) (s : List ℕ) (st : StaticIn w s) where
    abbrev On : ℕ → ℕ → Node → Node → Type 0
    On x j n m = j ≡ i → Turns hears (nodes w.hubs) x n m

    on_same : (x j : ℕ) (n : Node) → On x j n n
    on_same x j n e = grows refl (omega arith)

    on-beat : (x j : ℕ) (n : Node) (b : Heartbeat) → On x j n (with_heartbeat b n)
    on-beat x j n b e = grows refl (omega arith)

    on-act : (x j : ℕ) (k : List ℕ) (n : Node) (z : Decision) → On x j n (act k z n)
    unfolding act write
    on-act x j k n (Refuse r) e = grows refl (omega arith)
    on-act x j k n Leave e = grows refl (omega arith)
    on-act x j k n (Give c) e = grows refl (omega arith)

    on-remove : (x : ℕ) (due : Rec → Bool) (j : ℕ) → On x j (node_at j (w.hubs x)) (remove due (node_at j (w.hubs x)))
    unfolding remove
    on-remove x due j e = go (ltb a.last_gc g) refl
      where
        a : Node
        a = node_at j (w.hubs x)

        g : ℕ
        g = last_gc_of due a.last_gc a.recs

        up : a.last_gc ≤ g
        up = gc-rises due a.last_gc a.recs

        low : g ≤ max a.last_gc a.max
        low =
            gc-below due a.last_gc (max a.last_gc a.max) a.recs (omega arith)
            (λ r m q. let b = ((ok.tables x).honest j).honest.within r.kv (r, m, refl) in omega arith)

        go : (b : Bool) → ltb a.last_gc g ≡ b → Turns hears (nodes w.hubs) x a (remove due a)
        go true p = let c = ltb-true a.last_gc g p in let d = low in settles (omega arith) (omega arith)
        go false p = let c = ltb-false a.last_gc g p in let d = up in grows (omega arith) (omega arith)

    on-take : (x now : ℕ) (d : NodeDelta) (n : Node) (o : Option ℕ) → (b : List ℕ) → Part b d → From w.hubs b o → Neighbour hears x o → Turns hears (nodes w.hubs) x n (apply_node (plan.ways x) now d n).node
    unfolding outcome
    on-take x now d n none b p f h = absurd f
    on-take x now d n (some y) b p f h = go (apply_node (plan.ways x) now d n).node (came (plan.ways x) now d n)
      where
        go : (m : Node) → Came (plan.ways x) now d n m → Turns hears (nodes w.hubs) x n m
        go m left = grows refl (omega arith)
        go m (reset r) = follows y r.above_gc h (chain-from hears (nodes w.hubs) 0 d.last_gc y (f d p) (st.chains y))
        go m (took r) = let e = r.newer in grows refl (omega arith)

    -- one hub's table is another
    on-hub : (x : ℕ) (u : Table) → Each w On on_same x u → Static (λ y. pick (eqb y x) u (w.hubs y)) w.sent s
    on-hub x u each =
        record {
          chains = λ y. chain-turns hears (nodes w.hubs) (nodes then) x same turns 0 y (st.chains y);
          from = λ k b e. sender b (placed k s) (st.from k b e);
        }
      where
        then : ℕ → Table
        then y = pick (eqb y x) u (w.hubs y)

        same : (y : ℕ) → (nodes then y ≡ nodes w.hubs y) ⊎ (y ≡ x)
        same y = go (eqb y x) refl
          where
            go : (b : Bool) → eqb y x ≡ b → (node_at i (pick b u (w.hubs y)) ≡ nodes w.hubs y) ⊎ (y ≡ x)
            go true q = inr (eqb-true y x q)
            go false q = inl refl

        turns : Turns hears (nodes w.hubs) x (nodes w.hubs x) (nodes then x)
        turns = subst (λ (b : Bool). Turns hears (nodes w.hubs) x (nodes w.hubs x) (node_at i (pick b u (w.hubs x)))) (sym (eq-eqb x x refl)) (each i refl)

        rises : (y : ℕ) → (nodes w.hubs y).last_gc ≤ (nodes then y).last_gc
        rises y = go (same y)
          where
            go : (nodes then y ≡ nodes w.hubs y) ⊎ (y ≡ x) → (nodes w.hubs y).last_gc ≤ (nodes then y).last_gc
            go (inl e) = let k : (nodes then y).last_gc ≡ (nodes w.hubs y).last_gc = ap (λ (n : Node). n.last_gc) e in omega arith
            go (inr e) = subst (λ (z : ℕ). (nodes w.hubs z).last_gc ≤ (nodes then z).last_gc) (sym e) (turns-low hears (nodes w.hubs) x (nodes w.hubs x) (nodes then x) turns)

        sender : (b : List ℕ) (o : Option ℕ) → From w.hubs b o → From then b o
        sender b none f = f
        sender b (some y) f = λ d p. let a = f d p in let c = rises y in omega arith

    -- a delta is computed, or refused
    computes : (x edition : ℕ) (digest excluded : List ℕ) (order : Order) (mtu place : ℕ) (l : List ℕ) (o : Given (Result Sent Refusal) (List ℕ)) → Comes edition excluded order mtu place digest (w.hubs x) l o → Static w.hubs (sent_after place o.lent o.answer w.sent) (pick (wrote_delta o.answer) (x ∷ s) s)
    unfolding node_delta placed
    computes x edition digest excluded order mtu place l o (refuses r) = st
    computes x edition digest excluded order mtu place l o (writes ds rest e made there) = record { chains = st.chains; from = at }
      where
        b₀ : List ℕ
        b₀ = part place (length (delta_bytes (ops_by excluded order mtu ds (w.hubs x)))) (put place (delta_bytes (ops_by excluded order mtu ds (w.hubs x))) l)

        may : Sendable (w.hubs x) (ops_by excluded order mtu ds (w.hubs x))
        may = made.sendable

        mine : (d : NodeDelta) → Part (delta_bytes (ops_by excluded order mtu ds (w.hubs x))) d → d.last_gc ≤ (nodes w.hubs x).last_gc
        mine d q =
            let y = may.made i d (sym (ap (λ (k : Ops). part_at i (parts_in k)) may.read) ∙ q) in
            let a : d.last_gc ≡ (nodes w.hubs x).last_gc = ap (λ (k : NodeDelta). k.last_gc) y.delta-is in
            omega arith

        at : (k : ℕ) (b : List ℕ) → placed k (b₀ ∷ w.sent) ≡ some b → From w.hubs b (placed k (x ∷ s))
        at zero b q =
            let is : b ≡ b₀ = cc in
            λ d r. mine d (subst (λ (k : List ℕ). Part k d) (is ∙ there) r)
        at (suc k) b q = st.from k b q

    static-calls : (e : Event) → LocalAt hears i e s → StaticIn (calls plan e w) (senders_after e w s)
    static-calls (Writing x j k who c) q = on-hub x _ (each-call w On on_same (plan.profiles x) who c x j k (on-act x j k))
    static-calls (Beating x j) q = on-hub x _ (each-beat w On on_same x j (on-beat x))
    static-calls (Offering x j h) q = on-hub x _ (each-offer w On on_same x j h (on-beat x))
    static-calls (Removing x removal) q = on-hub x _ (each-remove w On on_same x removal (λ j due. on-remove x due j))
    static-calls (Adding x j) q = on-hub x _ (each-add w On on_same x j)
    static-calls (Dropping x j) q = on-hub x _ (each-drop w On on_same x j (ok.tables x).obeyed.ascending (λ e. absurd (q e)))
    static-calls (Computing x edition digest excluded order mtu place l) q = computes x edition digest excluded order mtu place l _ (comes edition excluded order mtu place digest (w.hubs x) l (facts-table (w.hubs x) (ok.tables x).obeyed))
    static-calls (Arriving x k now l) q =
        on-hub x _
        (nth-placed (λ d. Each w On on_same x (applied_to (plan.ways x) now l d (w.hubs x))) (each_same w On on_same x) k.cuts k.delta w.sent (λ b m. (ok.sent b m).reads)
        (λ b c e y.
        let m = placed-in k.delta w.sent e in
        each-taken w On on_same (plan.ways x) (ready.lawful x) x now l c w.given (part-carried w.given b c (ok.sent b m) y)
        (λ j d p z.
        on-take x now d (node_at j (w.hubs x)) (placed k.delta s) b
        (subst (λ (v : ℕ). part_at v (parts_in (read_delta b)) ≡ some d) z (y.each j d p)) (st.from k.delta b e) q)))
    static-calls (Saving x) q = st
    static-calls (Restoring x k) q = absurd q

    static_stays : (e : Event) → possible plan.owner e w ≡ false → StaticIn w (senders_after e w s)
    static_stays (Writing x j k who c) q = st
    static_stays (Beating x j) q = st
    static_stays (Offering x j h) q = st
    static_stays (Removing x removal) q = st
    static_stays (Adding x j) q = st
    static_stays (Dropping x j) q = st
    static_stays (Computing x edition digest excluded order mtu place l) q = absurd (true≢false q)
    static_stays (Arriving x k now l) q = st
    static_stays (Saving x) q = st
    static_stays (Restoring x k) q = st

    static-event : (e : Event) → LocalAt hears i e s → StaticIn (happen plan e w) (senders_after e w s)
    unfolding happen
    static-event e q = go (possible plan.owner e w) refl
      where
        go : (b : Bool) → possible plan.owner e w ≡ b → StaticIn (pick b (calls plan e w) w) (senders_after e w s)
        go true p = static-calls e q
        go false p = static_stays e p

  pub static-run : (es : List Event) (w : Net) (s : List ℕ) → Moment plan.owner w → StaticIn w s → Local plan hears i es w s → StaticIn (after plan es w) (senders_in plan es w s)
  unfolding after Local senders_in
  static-run [] w s ok st l = st
  static-run (e ∷ es) w s ok st l = static-run es (happen plan e w) (senders_after e w s) (moment-event plan w ok ready e) (static-event w ok s st e l.0) l.1
