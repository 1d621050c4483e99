-- In o's star no fence stands against what o sends: a hub's last_gc of a node of o's is above its max only by a reset, to what o's last_gc then was, and that only rises. Assumes nothing but
-- that no hub is plain.
use Prim.Native.Nat.{◌≤◌, max, ℕ}
use mathlib.Core.Bool.{Bool, false, false≢true, not, true, true≢false}
use mathlib.Core.List.{List, [], ◌∷◌}
use mathlib.Core.Logic.{◌⊎◌, inl, inr}
use mathlib.Core.Option.{Option, none, some}
use mathlib.Core.Path.{◌∙◌, ◌≡◌, ap, refl, subst, sym}
use native.Mathlib.Omega.{arith}
use lib.Dec.{eqb}
use lib.ListN.{length}
use borrow.Author.Tests.{eq-eqb, eqb-true}
use Rattle.fields.proofs.Choice.{all_from, and_left, and_right, in-cons, in-none}
use Rattle.fields.specs.Choice.{◌∈◌, pick}
use Rattle.fields.specs.Parts.{part, put}
use Rattle.rules.proofs.Obeys.{facts-table}
use Rattle.rules.proofs.Sending.{node_delta}
use Rattle.rules.proofs.Tables.{part_at}
use Rattle.rules.specs.Apply.{apply_node}
use Rattle.rules.specs.Delta.{NodeDelta, Ops, delta_bytes, parts_of, read_delta}
use Rattle.rules.specs.Given.{Given}
use Rattle.rules.specs.Node.{Decision, Give, Leave, Node, Refuse, act, remove, with_heartbeat, write}
use Rattle.rules.specs.Table.{Entry, Table, among, node_of}
use Rattle.std.specs.Prelude.{Result}
use Rattle.rules.specs.declared.Refusal.{Refusal}
use Rattle.rules.specs.declared.Sent.{Sent}
use Rattle.rules.specs.declared.Heartbeat.{Heartbeat}
use Rattle.demand3.proofs.EachNode.{node_at, parts_in}
use Rattle.demand3.proofs.Forms.{Comes, comes, refuses, writes}
use Rattle.demand3.proofs.Honest.{gc-within}
use Rattle.demand3.proofs.OneNode.{bounded-apply, rises-apply, rises-remove}
use Rattle.demand3.proofs.Parted.{Parted, nth-sent}
use Rattle.demand3.specs.Demand3.{Rises}
use Rattle.demand3.specs.Forms.{Order, ops_by}
use Rattle.demand3.specs.World.{applied_to, sent_after}
use Rattle.net.proofs.Each.{Each, each-add, each-beat, each-call, each-drop, each-hub, each-offer, each-remove, each_same, each-taken}
use Rattle.net.proofs.Moments.{Moment, moment-event, part-carried, placed-in}
use Rattle.net.specs.Net.{Adding, Arriving, Beating, Computing, Dropping, Event, Net, Offering, Plan, Ready, Removing, Restoring, Saving, Writing, after, begin, calls, happen, placed, possible, restored}
use Rattle.net_star.specs.Star.{in_star, leaves_out, owns, star_at}

pub gc-up : (n m : Node) → Rises n m → n.last_gc ≤ m.last_gc
gc-up n m (inl x) = omega arith
gc-up n m (inr x) = let e = x.0 in omega arith

module _ (plan : Plan) (ready : Ready plan) (o : ℕ) where
  -- o's last_gc of the node
  abbrev pub gc_of : Net → ℕ → ℕ
  gc_of w i = (node_at i (w.hubs o)).last_gc

  abbrev pub Mine : ℕ → Type 0
  Mine i = plan.owner i ≡ o

  abbrev pub PartOf : List ℕ → ℕ → NodeDelta → Type 0
  PartOf b i d = part_at i (parts_in (read_delta b)) ≡ some d

  -- of each node of o's
  pub record Low (w : Net) : Type 0 where
    pub hubs : (x i : ℕ) → Mine i → (node_at i (w.hubs x)).last_gc ≤ max (node_at i (w.hubs x)).max (gc_of w i)
    pub sent : (b : List ℕ) → b ∈ w.sent → (i : ℕ) → Mine i → (d : NodeDelta) → PartOf b i d → d.last_gc ≤ gc_of w i
    pub saved : (x : ℕ) (t : Table) → t ∈ w.saved x → (i : ℕ) → Mine i → (node_at i t).last_gc ≤ max (node_at i t).max (gc_of w i)

  pub low-begin : Low begin
  unfolding node_of
  low-begin = record { hubs = λ x i m. omega arith; sent = λ b m. absurd (in-none m); saved = λ x t m. absurd (in-none m) }

  module _ (w : Net) (ok : Moment plan.owner w) (low : Low w) where
    -- o's last_gc does not fall, and another's stays within its max and o's
    abbrev On : ℕ → ℕ → Node → Node → Type 0
    On x j n m = Mine j → (x ≡ o → n.last_gc ≤ m.last_gc) × (n.last_gc ≤ max n.max (gc_of w j) → m.last_gc ≤ max m.max (gc_of w j))

    on_same : (x j : ℕ) (n : Node) → On x j n n
    on_same x j n e = (λ q. omega arith, λ b. b)

    on-act : (x j : ℕ) (k : List ℕ) (n : Node) (z : Decision) → On x j n (act k z n)
    unfolding act write
    on-act x j k n (Refuse r) e = (λ q. omega arith, λ b. b)
    on-act x j k n Leave e = (λ q. omega arith, λ b. b)
    on-act x j k n (Give c) e = (λ q. omega arith, λ b. omega arith)

    on-beat : (x j : ℕ) (n : Node) (b : Heartbeat) → On x j n (with_heartbeat b n)
    on-beat x j n b e = (λ q. omega arith, λ b. b)

    pub its-part : (b c : List ℕ) → b ∈ w.sent → (y : Parted b c) (j : ℕ) (d : NodeDelta) → part_at j (parts_of y.reads.0) ≡ some d → Mine j → d.last_gc ≤ gc_of w j
    its-part b c m y j d p e = low.sent b m j e d (y.each j d p)

    calls-on : (e : Event) → star_at plan.owner o e w ≡ true → possible plan.owner e w ≡ true → (y : ℕ) → Each w On on_same y ((calls plan e w).hubs y)
    unfolding remove
    calls-on (Writing x j k who c) q p = each-hub w On on_same x _ (each-call w On on_same (plan.profiles x) who c x j k (on-act x j k))
    calls-on (Beating x j) q p = each-hub w On on_same x _ (each-beat w On on_same x j (on-beat x))
    calls-on (Offering x j h) q p = each-hub w On on_same x _ (each-offer w On on_same x j h (on-beat x))
    calls-on (Removing x removal) q p =
        each-hub w On on_same x _
        (each-remove w On on_same x removal
        (λ j due e. (
          λ z. gc-up (node_at j (w.hubs x)) (remove due (node_at j (w.hubs x))) (rises-remove due (node_at j (w.hubs x))),
          λ b. gc-within (w.given j) (node_at j (w.hubs x)) ((ok.tables x).honest j) due (max (node_at j (w.hubs x)).max (gc_of w j)) b (omega arith),
        )))
    calls-on (Adding x j) q p = each-hub w On on_same x _ (each-add w On on_same x j)
    calls-on (Dropping x j) q p =
        each-hub w On on_same x _
        (each-drop w On on_same x j (ok.tables x).obeyed.ascending
        (λ e. (λ z. absurd (false≢true (sym (ap not (eq-eqb (plan.owner j) x (e ∙ sym z))) ∙ p)), λ b. omega arith)))
    calls-on (Computing x edition digest excluded order mtu place l) q p = each_same w On on_same
    calls-on (Arriving x k now l) q p =
        each-hub w On on_same x _
        (nth-sent (λ d. Each w On on_same x (applied_to (plan.ways x) now l d (w.hubs x))) (each_same w On on_same x) k w.sent (λ b m. (ok.sent b m).reads)
        (λ b c m y.
        each-taken w On on_same (plan.ways x) (ready.lawful x) x now l c w.given (part-carried w.given b c (ok.sent b m) y)
        (λ j d r e. (
          λ z. gc-up (node_at j (w.hubs x)) (apply_node (plan.ways x) now d (node_at j (w.hubs x))).node (rises-apply (plan.ways x) now d (node_at j (w.hubs x))),
          λ g. bounded-apply (plan.ways x) now d (node_at j (w.hubs x)) (gc_of w j) (its-part b c m y j d r e) g,
        ))))
    calls-on (Saving x) q p = each_same w On on_same
    calls-on (Restoring x k) q p = each-hub w On on_same x _ (old (placed k (w.saved x)) (λ t e. placed-in k (w.saved x) e))
      where
        not-o : x ≡ o → ⊥
        not-o e = false≢true (sym (ap not (eq-eqb x o e)) ∙ q)

        old : (a : Option Table) → ((t : Table) → a ≡ some t → t ∈ w.saved x) → Each w On on_same x (restored a (w.hubs x))
        old none f = each_same w On on_same x
        old (some t) f = λ j e. (λ z. absurd (not-o z), λ b. low.saved x t (f t refl) j e)

    -- what was computed and saved
    Rest : Net → Type 0
    Rest n = ((b : List ℕ) → b ∈ n.sent → (b ∈ w.sent) ⊎ ((i : ℕ) → Mine i → (d : NodeDelta) → PartOf b i d → d.last_gc ≤ gc_of w i)) × ((x : ℕ) (t : Table) → t ∈ n.saved x → (t ∈ w.saved x) ⊎ (t ≡ w.hubs x))

    as_before : Rest w
    unfolding Rest
    as_before = (λ b m. inl m, λ x t m. inl m)

    -- what o computes has its last_gc; another computes nothing of its nodes
    module _ (x : ℕ) (excluded : List ℕ) (q : pick (eqb x o) true (leaves_out plan.owner o excluded (w.hubs x)) ≡ true) where
      others : (e : Entry) → e ∈ w.hubs x → plan.owner e.number ≡ o → among e.number excluded ≡ false → x ≡ o
      others e m mine free = go (eqb x o) refl q
        where
          go : (b : Bool) → eqb x o ≡ b → pick b true (leaves_out plan.owner o excluded (w.hubs x)) ≡ true → x ≡ o
          go true z a = eqb-true x o z
          go false z a =
              let c : pick (owns plan.owner o e) (among e.number excluded) true ≡ true =
              all_from (λ (e : Entry). pick (owns plan.owner o e) (among e.number excluded) true) (w.hubs x) a e m in
              let d : among e.number excluded ≡ true = subst (λ (b : Bool). pick b (among e.number excluded) true ≡ true) (eq-eqb (plan.owner e.number) o mine) c in
              absurd (true≢false (sym d ∙ free))

      computed-low : (edition : ℕ) (digest : List ℕ) (order : Order) (mtu place : ℕ) (l : List ℕ) (a : Given (Result Sent Refusal) (List ℕ)) → Comes edition excluded order mtu place digest (w.hubs x) l a → (b : List ℕ) → b ∈ sent_after place a.lent a.answer w.sent → (b ∈ w.sent) ⊎ ((i : ℕ) → Mine i → (d : NodeDelta) → PartOf b i d → d.last_gc ≤ gc_of w i)
      unfolding node_delta
      computed-low edition digest order mtu place l a (refuses r) b m = inl m
      computed-low edition digest order mtu place l a (writes ds rest e made there) b m = at (in-cons m)
        where
          bytes : List ℕ
          bytes = delta_bytes (ops_by excluded order mtu ds (w.hubs x))

          mine : (i : ℕ) → Mine i → (d : NodeDelta) → PartOf bytes i d → d.last_gc ≤ gc_of w i
          mine i own d q =
              let y = made.each i d (sym (ap (λ (k : Ops). part_at i (parts_in k)) made.sendable.read) ∙ q) in
              let h = y.held in
              let z : x ≡ o = others h.0 h.1 (ap plan.owner (sym h.2) ∙ own) (subst (λ (j : ℕ). among j excluded ≡ false) h.2 y.free) in
              let c : d.last_gc ≡ (node_at i (w.hubs x)).last_gc = ap (λ (k : NodeDelta). k.last_gc) y.delta-is in
              let f : (node_at i (w.hubs x)).last_gc ≡ gc_of w i = ap (λ (k : ℕ). (node_at i (w.hubs k)).last_gc) z in
              omega arith

          at : (b ≡ part place (length bytes) (put place bytes l)) ⊎ (b ∈ w.sent) → (b ∈ w.sent) ⊎ ((i : ℕ) → Mine i → (d : NodeDelta) → PartOf b i d → d.last_gc ≤ gc_of w i)
          at (inl q) = let is : b ≡ bytes = q ∙ there in inr (λ i own d r. mine i own d (subst (λ (k : List ℕ). PartOf k i d) is r))
          at (inr n) = inl n

    calls-rest : (e : Event) → star_at plan.owner o e w ≡ true → Rest (calls plan e w)
    unfolding Rest
    calls-rest (Writing x j k who c) q = as_before
    calls-rest (Beating x j) q = as_before
    calls-rest (Offering x j h) q = as_before
    calls-rest (Removing x removal) q = as_before
    calls-rest (Adding x j) q = as_before
    calls-rest (Dropping x j) q = as_before
    calls-rest (Computing x edition digest excluded order mtu place l) q = (computed-low x excluded q edition digest order mtu place l _ (comes edition excluded order mtu place digest (w.hubs x) l (facts-table (w.hubs x) (ok.tables x).obeyed)), λ y t m. inl m)
    calls-rest (Arriving x k now l) q = as_before
    calls-rest (Saving x) q = (λ b m. inl m, λ y t m. at y t (eqb y x) refl m)
      where
        at : (y : ℕ) (t : Table) (b : Bool) → eqb y x ≡ b → t ∈ pick b (w.hubs x ∷ w.saved x) (w.saved y) → (t ∈ w.saved y) ⊎ (t ≡ w.hubs y)
        at y t false q m = inl m
        at y t true q m = by (in-cons m)
          where
            e : x ≡ y
            e = sym (eqb-true y x q)

            by : (t ≡ w.hubs x) ⊎ (t ∈ w.saved x) → (t ∈ w.saved y) ⊎ (t ≡ w.hubs y)
            by (inl z) = inr (z ∙ ap w.hubs e)
            by (inr z) = inl (subst (λ (k : ℕ). t ∈ w.saved k) e z)
    calls-rest (Restoring x k) q = as_before

    low-calls : (n : Net) → ((x : ℕ) → Each w On on_same x (n.hubs x)) → Rest n → Low n
    unfolding Rest
    low-calls n on rest =
        record {
          hubs = λ x i e. let a = (on x i e).1 (low.hubs x i e) in let u = up i e in omega arith;
          sent = λ b m i e d p. sent b i e d p (rest.0 b m);
          saved = λ x t m i e. saved x t i e (rest.1 x t m);
        }
      where
        up : (i : ℕ) → Mine i → gc_of w i ≤ gc_of n i
        up i e = (on o i e).0 refl

        sent : (b : List ℕ) (i : ℕ) → Mine i → (d : NodeDelta) → PartOf b i d → (b ∈ w.sent) ⊎ ((i : ℕ) → Mine i → (d : NodeDelta) → PartOf b i d → d.last_gc ≤ gc_of w i) → d.last_gc ≤ gc_of n i
        sent b i e d p (inl m) = let a = low.sent b m i e d p in let c = up i e in omega arith
        sent b i e d p (inr f) = let a = f i e d p in let c = up i e in omega arith

        saved : (x : ℕ) (t : Table) (i : ℕ) → Mine i → (t ∈ w.saved x) ⊎ (t ≡ w.hubs x) → (node_at i t).last_gc ≤ max (node_at i t).max (gc_of n i)
        saved x t i e (inl m) = let a = low.saved x t m i e in let c = up i e in omega arith
        saved x t i e (inr q) = subst (λ (k : Table). (node_at i k).last_gc ≤ max (node_at i k).max (gc_of n i)) (sym q) (let a = low.hubs x i e in let c = up i e in omega arith)

    pub low-event : (e : Event) → star_at plan.owner o e w ≡ true → Low (happen plan e w)
    unfolding happen
    low-event e q = go (possible plan.owner e w) refl
      where
        go : (b : Bool) → possible plan.owner e w ≡ b → Low (pick b (calls plan e w) w)
        go true p = low-calls (calls plan e w) (calls-on e q p) (calls-rest e q)
        go false p = low

  pub low_run : (es : List Event) (w : Net) → Moment plan.owner w → Low w → in_star plan o es w ≡ true → Moment plan.owner (after plan es w) × Low (after plan es w)
  unfolding after in_star
  low_run [] w ok low c = (ok, low)
  low_run (e ∷ es) w ok low c =
      low_run es (happen plan e w) (moment-event plan w ok ready e) (low-event w ok low e (and_left (star_at plan.owner o e w) _ c)) (and_right (star_at plan.owner o e w) _ c)
