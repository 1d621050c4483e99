-- Mixed nets stay sound. A plain hub's last_gc is within its max and its source's last_gc, and so is it when it takes what the source computed for it: a source's
-- last_gc does not fall. So the step's hypothesis holds of a plain hub too (demand3: Step), and the moment of the net is kept as in `net`.
use Prim.Native.Nat.{◌<◌, ◌≤◌, max, ℕ}
use mathlib.Core.Bool.{Bool, ◌&&◌, false, false≢true, not, true, true≢false}
use mathlib.Core.List.{List, [], ◌∷◌}
use mathlib.Core.Logic.{◌⊎◌, inl, inr}
use mathlib.Core.Option.{Option, none, some}
use mathlib.Core.Path.{◌∙◌, ◌≡◌, ap, refl, subst, sym}
use native.Mathlib.Omega.{arith}
use lib.Dec.{eqb, ltb}
use lib.ListN.{length}
use borrow.Author.Tests.{eqb-true, ltb-true}
use Rattle.fields.proofs.Choice.{all_from, in-cons, in-none}
use Rattle.fields.specs.Choice.{◌∈◌, here, later, pick}
use Rattle.fields.specs.Parts.{part, put}
use Rattle.rules.proofs.Calls.{node_in}
use Rattle.rules.proofs.Obeys.{facts-table}
use Rattle.rules.proofs.Sending.{node_delta}
use Rattle.rules.proofs.Tables.{part_at}
use Rattle.rules.proofs.Taking.{Applies}
use Rattle.rules.specs.Apply.{Ways, apply, apply_node}
use Rattle.rules.specs.Compute.{written}
use Rattle.rules.specs.Delta.{NodeDelta, Op, Ops, delta_bytes, parts_of, read_delta}
use Rattle.rules.specs.Digest.{NodeDigest}
use Rattle.rules.specs.Given.{Given}
use Rattle.rules.specs.Node.{Decision, Give, Leave, Node, Rec, Refuse, act, due, remove, with_heartbeat, write}
use Rattle.rules.specs.Sizes.{numbers}
use Rattle.rules.specs.Table.{Entry, Table, among, node_of}
use Rattle.std.specs.Prelude.{Err, Ok, Result}
use Rattle.rules.specs.declared.Refusal.{Refusal}
use Rattle.rules.specs.declared.Sent.{Sent}
use Rattle.rules.specs.declared.Heartbeat.{Heartbeat}
use Rattle.demand3.proofs.EachNode.{node_at, or_fresh, parts_in}
use Rattle.demand3.proofs.Honest.{gc-within}
use Rattle.demand3.proofs.Parted.{Parted, cut-way, nth-sent}
use Rattle.demand3.proofs.Forms.{Comes, comes, refuses, writes}
use Rattle.demand3.proofs.OnTheWay.{PartFor, Sendable}
use Rattle.demand3.proofs.OneNode.{bounded-apply, rises-apply, rises-remove}
use Rattle.demand3.proofs.Publisher.{Publisher}
use Rattle.demand3.specs.Demand3.{Rises}
use Rattle.demand3.specs.Forms.{Order, compute_by, ops_by}
use Rattle.demand3.specs.World.{Cut, DeltaSent, DigestSent, Exchange, Idle, Which, after_delta, applied_to, cut_by, sent_after}
use Rattle.net.proofs.Each.{Each, each-add, each-beat, each-call, each-drop, each-hub, each-offer, each-remove, each_same, each-taken}
use Rattle.net.proofs.Moments.{Carries, MayCome, Moment, arrived, moment-begin, moment-calls, part-carried, placed-in, same-table}
use Rattle.net.proofs.Safe.{sound}
use Rattle.net.specs.Net.{Adding, Arriving, Beating, Computing, Dropping, Event, Net, NetSound, Offering, Removing, Restoring, Saving, Writing, calls, happen, placed, possible, restored, with_table}
use Rattle.net_mixed.specs.Mixed.{Asking, Cast, Doing, Hearing, Mixed, Ordinary, Right, allowed, doing, flights_after, may_ask, run, start}

-- ---- the invariant

-- last_gc is within max and b
abbrev Bound : ℕ → Node → Type 0
Bound b n = n.last_gc ≤ max n.max b

abbrev gc_at : Net → ℕ → ℕ → ℕ
gc_at v y i = (node_at i (v.hubs y)).last_gc

module _ (c : Cast) where
  abbrev owner : ℕ → ℕ
  owner = c.plan.owner

  abbrev Plain : ℕ → Type 0
  Plain x = (c.plan.ways x).late ≡ false

  -- what plain hub x may have of node i
  abbrev Leaf : Net → ℕ → ℕ → Node → Type 0
  Leaf v x i n = (owner i ≡ x) ⊎ Bound (gc_at v (c.source x i) i) n

  -- and what may be on its way to it
  abbrev Part : List ℕ → ℕ → NodeDelta → Type 0
  Part b i d = part_at i (parts_in (read_delta b)) ≡ some d

  abbrev Fly : Net → ℕ → Exchange → Type 0
  Fly v x Idle = Unit {0}
  Fly v x (DigestSent d) = Unit {0}
  Fly v x (DeltaSent b) = (b ∈ v.sent) × ((i : ℕ) (d : NodeDelta) → Part b i d → (owner i ≡ x) ⊎ (Bound d.last_gc (node_at i (v.hubs x)) × (d.last_gc ≤ gc_at v (c.source x i) i)))

  pub record Fine (w : Mixed) : Type 0 where
    pub moment : Moment c.plan.owner w.net
    leaf : (x i : ℕ) → (c.plan.ways x).late ≡ false → Leaf w.net x i (node_at i (w.net.hubs x))
    saved : (x : ℕ) (t : Table) → (c.plan.ways x).late ≡ false → t ∈ w.net.saved x → (i : ℕ) → Leaf w.net x i (node_at i t)
    flies : (x : ℕ) → (c.plan.ways x).late ≡ false → Fly w.net x (w.flights x)

  pub fine-start : Fine start
  unfolding node_of
  fine-start =
      record {
        moment = moment-begin c.plan.owner;
        leaf = λ x i p. inr (omega arith);
        saved = λ x t p m. absurd (in-none m);
        flies = λ x p. tt;
      }

  module _ (right : Right c) (w : Mixed) (ok : Fine w) where
    abbrev v : Net
    v = w.net

    -- what holds of a leaf holds when no steady hub's last_gc falls
    module _ (n : Net) (rises : (y i : ℕ) → c.steady y i ≡ true → gc_at w.net y i ≤ gc_at n y i) where
      higher : (x i : ℕ) → Plain x → (a : ℕ) → a ≤ gc_at w.net (c.source x i) i → (owner i ≡ x) ⊎ (a ≤ gc_at n (c.source x i) i)
      higher x i p a l = at (right.sources x i p)
        where
          at : (owner i ≡ x) ⊎ (c.steady (c.source x i) i ≡ true) → (owner i ≡ x) ⊎ (a ≤ gc_at n (c.source x i) i)
          at (inl e) = inl e
          at (inr s) = inr (let r = rises (c.source x i) i s in omega arith)

      leaf-up : (x i : ℕ) → Plain x → (m : Node) → Leaf w.net x i m → Leaf n x i m
      leaf-up x i p m (inl e) = inl e
      leaf-up x i p m (inr u) = at (higher x i p (gc_at w.net (c.source x i) i) (omega arith))
        where
          at : (owner i ≡ x) ⊎ (gc_at w.net (c.source x i) i ≤ gc_at n (c.source x i) i) → Leaf n x i m
          at (inl e) = inl e
          at (inr l) = inr (omega arith)

      fly-up : (x : ℕ) → Plain x → ((b : List ℕ) → b ∈ w.net.sent → b ∈ n.sent) → (e : Exchange)
          → ((b : List ℕ) → e ≡ DeltaSent b → (i : ℕ) (d : NodeDelta) → Part b i d → Bound d.last_gc (node_at i (w.net.hubs x)) → Bound d.last_gc (node_at i (n.hubs x)))
          → Fly w.net x e
          → Fly n x e
      fly-up x p grows Idle tame f = tt
      fly-up x p grows (DigestSent d) tame f = tt
      fly-up x p grows (DeltaSent b) tame f = (grows b f.0, λ i d q. at i d q (f.1 i d q))
        where
          at : (i : ℕ) (d : NodeDelta) → Part b i d → (owner i ≡ x) ⊎ (Bound d.last_gc (node_at i (w.net.hubs x)) × (d.last_gc ≤ gc_at w.net (c.source x i) i)) → (owner i ≡ x) ⊎ (Bound d.last_gc (node_at i (n.hubs x)) × (d.last_gc ≤ gc_at n (c.source x i) i))
          at i d q (inl e) = inl e
          at i d q (inr y) = by (higher x i p d.last_gc y.1)
            where
              by : (owner i ≡ x) ⊎ (d.last_gc ≤ gc_at n (c.source x i) i) → (owner i ≡ x) ⊎ (Bound d.last_gc (node_at i (n.hubs x)) × (d.last_gc ≤ gc_at n (c.source x i) i))
              by (inl e) = inl e
              by (inr l) = inr (tame b refl i d q y.0, l)

    fine-next : (n : Net) (f : ℕ → Exchange)
        → Moment owner n
        → ((y i : ℕ) → c.steady y i ≡ true → gc_at w.net y i ≤ gc_at n y i)
        → ((x i : ℕ) → Plain x → Leaf w.net x i (node_at i (n.hubs x)))
        → ((x : ℕ) (t : Table) → t ∈ n.saved x → (t ∈ w.net.saved x) ⊎ (t ≡ w.net.hubs x))
        → ((x : ℕ) → Plain x → Fly n x (f x))
        → Fine (record { net = n; flights = f })
    fine-next n f moment rises leafs kept flies =
        record {
          moment = moment;
          leaf = λ x i p. leaf-up n rises x i p (node_at i (n.hubs x)) (leafs x i p);
          saved = λ x t p m i. leaf-up n rises x i p (node_at i t) (old x t p i (kept x t m));
          flies = flies;
        }
      where
        old : (x : ℕ) (t : Table) → Plain x → (i : ℕ) → (t ∈ w.net.saved x) ⊎ (t ≡ w.net.hubs x) → Leaf w.net x i (node_at i t)
        old x t p i (inl m) = ok.saved x t p m i
        old x t p i (inr e) = subst (λ (u : Table). Leaf w.net x i (node_at i u)) (sym e) (ok.leaf x i p)

    -- ---- the events of a net

    -- what may become of node i at hub y
    abbrev Moved : ℕ → ℕ → Node → Node → Type 0
    Moved y i n m = (c.steady y i ≡ true → n.last_gc ≤ m.last_gc) × (Plain y → (b : ℕ) → Bound b n → Bound b m)

    moved_same : (y i : ℕ) (n : Node) → Moved y i n n
    moved_same y i n = (λ s. omega arith, λ p b u. u)

    abbrev Alls : Net → Type 0
    Alls n = (y i : ℕ) → Moved y i (node_at i (w.net.hubs y)) (node_at i (n.hubs y))

    fine_moved : (n : Net) → Moment owner n → Alls n → ((b : List ℕ) → b ∈ w.net.sent → b ∈ n.sent) → ((x : ℕ) (t : Table) → t ∈ n.saved x → (t ∈ w.net.saved x) ⊎ (t ≡ w.net.hubs x)) → Fine (record { net = n; flights = w.flights })
    fine_moved n moment moved grows kept =
        fine-next n w.flights moment rises leafs kept
        (λ x p. fly-up n rises x p grows (w.flights x) (λ b e i d q u. (moved x i).1 p d.last_gc u) (ok.flies x p))
      where
        rises : (y i : ℕ) → c.steady y i ≡ true → gc_at w.net y i ≤ gc_at n y i
        rises y i s = (moved y i).0 s

        leafs : (x i : ℕ) → Plain x → Leaf w.net x i (node_at i (n.hubs x))
        leafs x i p = at (ok.leaf x i p)
          where
            at : Leaf w.net x i (node_at i (w.net.hubs x)) → Leaf w.net x i (node_at i (n.hubs x))
            at (inl e) = inl e
            at (inr u) = inr ((moved x i).1 p (gc_at w.net (c.source x i) i) u)

    acts : (x i : ℕ) (k : List ℕ) (n : Node) (z : Decision) → Moved x i n (act k z n)
    unfolding act write
    acts x i k n (Refuse r) = moved_same x i n
    acts x i k n Leave = moved_same x i n
    acts x i k n (Give g) = (λ s. omega arith, λ p b u. omega arith)

    beaten : (x i : ℕ) (n : Node) (b : Heartbeat) → Moved x i n (with_heartbeat b n)
    beaten x i n b = (λ s. omega arith, λ p g u. u)

    gc-up : (n m : Node) → Rises n m → n.last_gc ≤ m.last_gc
    gc-up n m (inl x) = omega arith
    gc-up n m (inr x) = let e = x.0 in omega arith

    removes : (x i : ℕ) (d : Rec → Bool) → Moved x i (node_at i (w.net.hubs x)) (remove d (node_at i (w.net.hubs x)))
    unfolding remove
    removes x i d =
        let n : Node = node_at i (w.net.hubs x) in (
          λ s. gc-up n (remove d n) (rises-remove d n),
          λ p b u. gc-within (w.net.given i) n ((ok.moment.tables x).honest i) d (max n.max b) u (omega arith),
        )

    -- only hub x's table is another
    on-hub : (x : ℕ) (u : Table) → Each v Moved moved_same x u → Moment owner (with_table x u v) → Fine (record { net = with_table x u v; flights = w.flights })
    on-hub x u e moment = fine_moved (with_table x u v) moment (λ y. each-hub v Moved moved_same x u e y) (λ b m. m) (λ y t m. inl m)

    fine-arriving : (x : ℕ) (k : Which) (now : ℕ) (l : List ℕ) → (c.plan.ways x).late ≡ true → Moment owner (calls c.plan (Arriving x k now l) v) → Fine (record { net = calls c.plan (Arriving x k now l) v; flights = w.flights })
    fine-arriving x k now l late moment = on-hub x _ (nth-sent (λ d. Each v Moved moved_same x (applied_to ways now l d (v.hubs x))) (each_same v Moved moved_same x) k v.sent (λ b m. (ok.moment.sent b m).reads) taken) moment
      where
        ways : Ways
        ways = c.plan.ways x

        taken : (b e : List ℕ) → b ∈ v.sent → Parted b e → Each v Moved moved_same x (apply ways e now (v.hubs x) l).table
        taken b e m y =
            each-taken v Moved moved_same ways (right.lawful x) x now l e v.given (part-carried v.given b e (ok.moment.sent b m) y)
            (λ i d q.
            let n : Node = node_at i (v.hubs x) in
            (λ s. gc-up n (apply_node ways now d n).node (rises-apply ways now d n), λ p. absurd (true≢false (sym late ∙ p))))

    fine-saving : (x : ℕ) → Moment owner (calls c.plan (Saving x) v) → Fine (record { net = calls c.plan (Saving x) v; flights = w.flights })
    fine-saving x moment = fine_moved (calls c.plan (Saving x) v) moment (λ y i. moved_same y i (node_at i (v.hubs y))) (λ b m. m) (λ y t m. at y t (eqb y x) refl m)
      where
        at : (y : ℕ) (t : Table) (b : Bool) → eqb y x ≡ b → t ∈ pick b (v.hubs x ∷ v.saved x) (v.saved y) → (t ∈ v.saved y) ⊎ (t ≡ v.hubs y)
        at y t false q m = inl m
        at y t true q m = by (in-cons m)
          where
            e : x ≡ y
            e = sym (eqb-true y x q)

            by : (t ≡ v.hubs x) ⊎ (t ∈ v.saved x) → (t ∈ v.saved y) ⊎ (t ≡ v.hubs y)
            by (inl z) = inr (z ∙ ap v.hubs e)
            by (inr z) = inl (subst (λ (k : ℕ). t ∈ v.saved k) e z)

    -- a hub that is restored has none of the nodes of which it is steady
    module _ (x k : ℕ) (free : allowed c (Restoring x k) v ≡ true) where
      none-steady : (i : ℕ) → c.steady x i ≡ true → gc_at v x i ≤ 0
      none-steady i s = go (node_of i (v.hubs x)) refl
        where
          go : (o : Option Node) → node_of i (v.hubs x) ≡ o → (or_fresh o).last_gc ≤ 0
          go none q = omega arith
          go (some n) q =
              let e = node_in i (v.hubs x) q in
              let f = all_from (λ (a : Entry). not (c.steady x a.number)) (v.hubs x) free e.0 e.1 in
              absurd (false≢true (sym (ap not (subst (λ (j : ℕ). c.steady x j ≡ true) e.3 s)) ∙ f))

      fine-restoring : (n : Net) → ((y : ℕ) → eqb y x ≡ false → n.hubs y ≡ v.hubs y) → ((i : ℕ) → Plain x → Leaf v x i (node_at i (n.hubs x))) → n.sent ≡ v.sent → n.saved ≡ v.saved → Moment owner n → Fine (record { net = n; flights = flights_after (Restoring x k) w.flights })
      fine-restoring n others mine sent_is saved-is moment =
          fine-next n (flights_after (Restoring x k) w.flights) moment rises (λ y i p. leafs y i p (eqb y x) refl)
          (λ y t m. inl (subst (λ (s : ℕ → List Table). t ∈ s y) saved-is m)) (λ y p. fly y p (eqb y x) refl)
        where
          rises : (y i : ℕ) → c.steady y i ≡ true → gc_at v y i ≤ gc_at n y i
          rises y i s = at (eqb y x) refl
            where
              at : (b : Bool) → eqb y x ≡ b → gc_at v y i ≤ gc_at n y i
              at true q =
                  let z = none-steady i (subst (λ (j : ℕ). c.steady j i ≡ true) (eqb-true y x q) s) in
                  subst (λ (j : ℕ). gc_at v j i ≤ gc_at n j i) (sym (eqb-true y x q)) (omega arith)
              at false q = let e : gc_at n y i ≡ gc_at v y i = ap (λ (t : Table). (node_at i t).last_gc) (others y q) in omega arith

          leafs : (y i : ℕ) → Plain y → (b : Bool) → eqb y x ≡ b → Leaf v y i (node_at i (n.hubs y))
          leafs y i p true q = let e = sym (eqb-true y x q) in subst (λ (j : ℕ). Leaf v j i (node_at i (n.hubs j))) e (mine i (subst Plain (sym e) p))
          leafs y i p false q = subst (λ (t : Table). Leaf v y i (node_at i t)) (sym (others y q)) (ok.leaf y i p)

          fly : (y : ℕ) → Plain y → (b : Bool) → eqb y x ≡ b → Fly n y (pick b Idle (w.flights y))
          fly y p true q = tt
          fly y p false q =
              fly-up n rises y p (λ b m. subst (λ (s : List (List ℕ)). b ∈ s) (sym sent_is) m) (w.flights y)
              (λ b e i d z u. subst (λ (t : Table). Bound d.last_gc (node_at i t)) (sym (others y q)) u) (ok.flies y p)

      other-hub : (u : Table) (y : ℕ) → eqb y x ≡ false → pick (eqb y x) u (v.hubs y) ≡ v.hubs y
      other-hub u y q = rw q

      fine-restored : Moment owner (calls c.plan (Restoring x k) v) → Fine (record { net = calls c.plan (Restoring x k) v; flights = flights_after (Restoring x k) w.flights })
      fine-restored moment =
          fine-restoring (calls c.plan (Restoring x k) v) (other-hub _) (λ i p. mine i p (eqb x x) (placed k (v.saved x)) (λ t e. placed-in k (v.saved x) e)) refl refl moment
        where
          mine : (i : ℕ) → Plain x → (b : Bool) (o : Option Table) → ((t : Table) → o ≡ some t → t ∈ v.saved x) → Leaf v x i (node_at i (pick b (restored o (v.hubs x)) (v.hubs x)))
          mine i p false o f = ok.leaf x i p
          mine i p true none f = ok.leaf x i p
          mine i p true (some t) f = ok.saved x t p (f t refl) i

      fine-not : Fine (record { net = v; flights = flights_after (Restoring x k) w.flights })
      fine-not = fine-restoring v (λ y q. refl) (λ i p. ok.leaf x i p) refl refl ok.moment

    fine-calls : (e : Event) → allowed c e v ≡ true → Moment owner (calls c.plan e v) → Fine (record { net = calls c.plan e v; flights = flights_after e w.flights })
    fine-calls (Writing x j k who a) q moment = fine_moved (calls c.plan (Writing x j k who a) v) moment (λ y. each-hub v Moved moved_same x _ (each-call v Moved moved_same (c.plan.profiles x) who a x j k (acts x j k)) y) (λ b m. m) (λ y t m. inl m)
    fine-calls (Beating x j) q moment = on-hub x _ (each-beat v Moved moved_same x j (beaten x)) moment
    fine-calls (Offering x j h) q moment = on-hub x _ (each-offer v Moved moved_same x j h (beaten x)) moment
    fine-calls (Removing x removal) q moment = on-hub x _ (each-remove v Moved moved_same x removal (λ i due. removes x i due)) moment
    fine-calls (Adding x j) q moment = on-hub x _ (each-add v Moved moved_same x j) moment
    fine-calls (Dropping x j) q moment =
        on-hub x _ (each-drop v Moved moved_same x j (ok.moment.tables x).obeyed.ascending (λ s. absurd (false≢true (sym (ap not s) ∙ q)), λ p b u. omega arith)) moment
    fine-calls (Computing x edition digest excluded order mtu place l) q moment =
        fine_moved (calls c.plan (Computing x edition digest excluded order mtu place l) v) moment (λ y i. moved_same y i (node_at i (v.hubs y))) (λ b m. grows (compute_by edition excluded order mtu place digest (v.hubs x) l).answer b m) (λ y t m. inl m)
      where
        grows : (a : (Result Sent Refusal)) (b : List ℕ) → b ∈ v.sent → b ∈ sent_after place (compute_by edition excluded order mtu place digest (v.hubs x) l).lent a v.sent
        grows (Ok s) b m = later m
        grows (Err r) b m = m
    fine-calls (Arriving x k now l) q moment = fine-arriving x k now l q moment
    fine-calls (Saving x) q moment = fine-saving x moment
    fine-calls (Restoring x k) q moment = fine-restored x k q moment

    may-come : (e : Event) → allowed c e v ≡ true → MayCome c.plan e
    may-come (Writing x i k who a) q = tt
    may-come (Beating x i) q = tt
    may-come (Offering x i h) q = tt
    may-come (Removing x removal) q = tt
    may-come (Adding x i) q = tt
    may-come (Dropping x i) q = tt
    may-come (Computing x edition digest excluded order mtu place l) q = tt
    may-come (Arriving x k now l) q = (right.lawful x, q)
    may-come (Saving x) q = tt
    may-come (Restoring x k) q = tt

    -- an event that is not possible: only what is on its way may be lost
    fine_stays : (e : Event) → allowed c e v ≡ true → Fine (record { net = v; flights = flights_after e w.flights })
    fine_stays (Writing x i k who a) q = ok
    fine_stays (Beating x i) q = ok
    fine_stays (Offering x i h) q = ok
    fine_stays (Removing x removal) q = ok
    fine_stays (Adding x i) q = ok
    fine_stays (Dropping x i) q = ok
    fine_stays (Computing x edition digest excluded order mtu place l) q = ok
    fine_stays (Arriving x k now l) q = ok
    fine_stays (Saving x) q = ok
    fine_stays (Restoring x k) q = fine-not x k q

    fine-ordinary : (e : Event) → allowed c e v ≡ true → Fine (record { net = happen c.plan e v; flights = flights_after e w.flights })
    unfolding happen
    fine-ordinary e q = go (possible owner e v) refl
      where
        go : (b : Bool) → possible owner e v ≡ b → Fine (record { net = pick b (calls c.plan e v) v; flights = flights_after e w.flights })
        go true p = fine-calls e q (moment-calls c.plan v ok.moment e (may-come e q) p)
        go false p = fine_stays e q

    -- ---- a plain hub asks

    module _ (x y edition : ℕ) (excluded : List ℕ) (order : Order) (mtu place : ℕ) (digest l : List ℕ) (free : may_ask c x y excluded (v.hubs y) ≡ true) where
      abbrev Next : Given (Result Sent Refusal) (List ℕ) → Net
      Next o = record { hubs = v.hubs; given = v.given; sent = sent_after place o.lent o.answer v.sent; saved = v.saved }

      -- of a node that x neither owns nor hears from y, nothing is computed
      from-source : (ds : List NodeDigest) (i : ℕ) (d : NodeDelta) → PartFor excluded ds (v.hubs y) i d → (owner i ≡ x) ⊎ (c.source x i ≡ y)
      from-source ds i d e =
          let f : pick (among e.held.0.number excluded) true (pick (eqb (owner e.held.0.number) x) true (eqb (c.source x e.held.0.number) y)) ≡ true =
          all_from (λ (a : Entry). pick (among a.number excluded) true (pick (eqb (owner a.number) x) true (eqb (c.source x a.number) y))) (v.hubs y) free e.held.0 e.held.1 in
          let g : pick (among i excluded) true (pick (eqb (owner i) x) true (eqb (c.source x i) y)) ≡ true =
          subst (λ (j : ℕ). pick (among j excluded) true (pick (eqb (owner j) x) true (eqb (c.source x j) y)) ≡ true) (sym e.held.2) f in
          go (eqb (owner i) x) refl (subst (λ (b : Bool). pick b true (pick (eqb (owner i) x) true (eqb (c.source x i) y)) ≡ true) e.free g)
        where
          go : (b : Bool) → eqb (owner i) x ≡ b → pick b true (eqb (c.source x i) y) ≡ true → (owner i ≡ x) ⊎ (c.source x i ≡ y)
          go true q f = inl (eqb-true _ _ q)
          go false q f = inr (eqb-true _ _ f)

      asked : (o : Given (Result Sent Refusal) (List ℕ)) → Comes edition excluded order mtu place digest (v.hubs y) l o → Moment owner (Next o) → Fine (record { net = Next o; flights = λ z. pick (eqb z x) (after_delta place o.lent o.answer (w.flights x)) (w.flights z) })
      unfolding node_delta
      asked o (refuses r) moment =
          fine-next v (λ z. pick (eqb z x) (w.flights x) (w.flights z)) ok.moment (λ y i s. omega arith) ok.leaf (λ z t m. inl m) (λ z p. fly z p (eqb z x) refl)
        where
          fly : (z : ℕ) → Plain z → (b : Bool) → eqb z x ≡ b → Fly v z (pick b (w.flights x) (w.flights z))
          fly z p true q = subst (λ (k : ℕ). Fly v z (w.flights k)) (eqb-true z x q) (ok.flies z p)
          fly z p false q = ok.flies z p
      asked o (writes ds rest e made there) moment =
          fine-next (Next o) (λ z. pick (eqb z x) (DeltaSent b) (w.flights z)) moment (λ y i s. omega arith) ok.leaf (λ z t m. inl m) (λ z p. fly z p (eqb z x) refl)
        where
          ops : List Op
          ops = ops_by excluded order mtu ds (v.hubs y)

          b : List ℕ
          b = part place (length (delta_bytes (ops_by excluded order mtu ds (v.hubs y)))) (put place (delta_bytes (ops_by excluded order mtu ds (v.hubs y))) l)

          is : b ≡ delta_bytes ops
          is = there

          may : Sendable (v.hubs y) ops
          may = made.sendable

          new : Plain x → (i : ℕ) (d : NodeDelta) → Part b i d → (owner i ≡ x) ⊎ (Bound d.last_gc (node_at i (v.hubs x)) × (d.last_gc ≤ gc_at v (c.source x i) i))
          new p i d q = at (from-source ds i d (made.each i d part-is)) (ok.leaf x i p)
            where
              part-is : part_at i (parts_of ops) ≡ some d
              part-is = sym (ap (λ (k : List ℕ). part_at i (parts_in (read_delta k))) is ∙ ap (λ (k : Ops). part_at i (parts_in k)) may.read) ∙ q

              gc_is : d.last_gc ≡ gc_at v y i
              gc_is = ap (λ (k : NodeDelta). k.last_gc) (may.made i d part-is).delta-is

              at : (owner i ≡ x) ⊎ (c.source x i ≡ y) → Leaf v x i (node_at i (v.hubs x)) → (owner i ≡ x) ⊎ (Bound d.last_gc (node_at i (v.hubs x)) × (d.last_gc ≤ gc_at v (c.source x i) i))
              at (inl e) u = inl e
              at (inr s) (inl e) = inl e
              at (inr s) (inr u) = let k : gc_at v (c.source x i) i ≡ gc_at v y i = ap (λ (z : ℕ). gc_at v z i) s in let m = gc_is in inr (omega arith, omega arith)

          fly : (z : ℕ) → Plain z → (t : Bool) → eqb z x ≡ t → Fly (Next (written ops place l)) z (pick t (DeltaSent b) (w.flights z))
          fly z p true q = let k = eqb-true z x q in subst (λ (j : ℕ). Fly (Next (written ops place l)) j (DeltaSent b)) (sym k) (here refl, new (subst Plain k p))
          fly z p false q = fly-up (Next (written ops place l)) (λ y i s. omega arith) z p (λ a m. later m) (w.flights z) (λ a e i d r u. u) (ok.flies z p)

      fine-asking : Fine (record { net = calls c.plan (Computing y edition digest excluded order mtu place l) v; flights = λ z. pick (eqb z x) (after_delta place (compute_by edition excluded order mtu place digest (v.hubs y) l).lent (compute_by edition excluded order mtu place digest (v.hubs y) l).answer (w.flights x)) (w.flights z) })
      fine-asking = asked _ (comes edition excluded order mtu place digest (v.hubs y) l (facts-table (v.hubs y) (ok.moment.tables y).obeyed)) (moment-calls c.plan v ok.moment (Computing y edition digest excluded order mtu place l) tt refl)

    -- ---- and applies what it asked for

    module _ (x now : ℕ) (l : List ℕ) (clock : now < numbers) (plain : (c.plan.ways x).late ≡ false) where
      abbrev ways : Ways
      ways = c.plan.ways x

      -- it applies e, which is the delta b or a part of it
      module _ (b e : List ℕ) (parted : Parted b e) (carried : Carries v.given b) (f : Fly v x (DeltaSent b)) where
        abbrev y : Carries v.given e
        y = part-carried v.given b e carried parted

        abbrev node : ℕ → Node
        node i = node_at i (v.hubs x)

        its-part : (i : ℕ) (d : NodeDelta) → part_at i (parts_of y.reads.0) ≡ some d → Part b i d
        its-part i d q = parted.each i d q

        reaches : (i : ℕ) (d : NodeDelta) → part_at i (parts_of y.reads.0) ≡ some d → Applies ways now d (node i) → (node i).last_gc ≤ max (node i).max (max d.last_gc d.max)
        reaches i d q r = at (f.1 i d (its-part i d q))
          where
            at : (owner i ≡ x) ⊎ (Bound d.last_gc (node i) × (d.last_gc ≤ gc_at v (c.source x i) i)) → (node i).last_gc ≤ max (node i).max (max d.last_gc d.max)
            at (inl e) =
                let own = subst (λ (k : ℕ). Publisher (v.given i) (node_at i (v.hubs k))) e (ok.moment.owners i) in
                let a = own.top in
                let g = own.node.honest.gc_low in
                omega arith
            at (inr u) = let a = u.0 in omega arith

        moment : Moment owner (with_table x (apply ways e now (v.hubs x) l).table v)
        moment = arrived owner v ok.moment ways (right.lawful x) x now l clock e y reaches

        -- what becomes of node i: its last_gc does not fall, and stays within max and whatever the part's last_gc is within
        abbrev Took : ℕ → ℕ → Node → Node → Type 0
        Took z i n m = (n.last_gc ≤ m.last_gc) × ((m ≡ n) ⊎ ((z ≡ x) × ((g : ℕ) → ((d : NodeDelta) → part_at i (parts_of y.reads.0) ≡ some d → d.last_gc ≤ g) → Bound g n → Bound g m)))

        took-same : (z i : ℕ) (n : Node) → Took z i n n
        took-same z i n = (omega arith, inl refl)

        abbrev u : Table
        u = (apply ways e now (v.hubs x) l).table

        took : (z : ℕ) → Each v Took took-same z (pick (eqb z x) u (v.hubs z))
        took =
            each-hub v Took took-same x u
            (each-taken v Took took-same ways (right.lawful x) x now l e v.given y
            (λ i d q. (gc-up (node i) (apply_node ways now d (node i)).node (rises-apply ways now d (node i)), inr (refl, λ g k a. bounded-apply ways now d (node i) g (k d q) a))))

        abbrev n : Net
        n = with_table x u v

        within : (i : ℕ) → (owner i ≡ x) ⊎ ((d : NodeDelta) → part_at i (parts_of y.reads.0) ≡ some d → d.last_gc ≤ gc_at v (c.source x i) i)
        within i = go (part_at i (parts_of y.reads.0)) refl
          where
            Low : Option NodeDelta → Type 0
            Low o = (owner i ≡ x) ⊎ ((d : NodeDelta) → o ≡ some d → d.last_gc ≤ gc_at v (c.source x i) i)

            same-gc : (a d : NodeDelta) → some a ≡ some d → a.last_gc ≡ d.last_gc
            same-gc a d e = cc

            at : (a : NodeDelta) → (owner i ≡ x) ⊎ (Bound a.last_gc (node i) × (a.last_gc ≤ gc_at v (c.source x i) i)) → Low (some a)
            at a (inl e) = inl e
            at a (inr k) = inr (λ d e. let g = same-gc a d e in let z = k.1 in omega arith)

            go : (o : Option NodeDelta) → part_at i (parts_of y.reads.0) ≡ o → Low o
            go none q = inr (λ d e. let z : ◌≡◌ {A = ℕ} 0 1 = cc in absurd (omega arith))
            go (some a) q = at a (f.1 i a (its-part i a q))

        leafs : (z i : ℕ) → Plain z → Leaf v z i (node_at i (n.hubs z))
        leafs z i p = at (took z i).1 (ok.leaf z i p)
          where
            at : ((node_at i (n.hubs z) ≡ node_at i (v.hubs z)) ⊎ ((z ≡ x) × ((g : ℕ) → ((d : NodeDelta) → part_at i (parts_of y.reads.0) ≡ some d → d.last_gc ≤ g) → Bound g (node_at i (v.hubs z)) → Bound g (node_at i (n.hubs z))))) → Leaf v z i (node_at i (v.hubs z)) → Leaf v z i (node_at i (n.hubs z))
            at k (inl e) = inl e
            at (inl e) (inr a) = inr (subst (Bound (gc_at v (c.source z i) i)) (sym e) a)
            at (inr k) (inr a) = by (within i)
              where
                by : (owner i ≡ x) ⊎ ((d : NodeDelta) → part_at i (parts_of y.reads.0) ≡ some d → d.last_gc ≤ gc_at v (c.source x i) i) → Leaf v z i (node_at i (n.hubs z))
                by (inl e) = inl (e ∙ sym k.0)
                by (inr s) = inr (k.1 (gc_at v (c.source z i) i) (subst (λ (j : ℕ). (d : NodeDelta) → part_at i (parts_of y.reads.0) ≡ some d → d.last_gc ≤ gc_at v (c.source j i) i) (sym k.0) s) a)

        -- of the delta itself, which may come again, and of what is on its way to others
        tame : (z : ℕ) → Plain z → (a : List ℕ) → w.flights z ≡ DeltaSent a → (z ≡ x → a ≡ b) → (i : ℕ) (d : NodeDelta) → Part a i d → Bound d.last_gc (node_at i (v.hubs z)) → Bound d.last_gc (node_at i (n.hubs z))
        tame z p a e same i d q k = at (took z i).1
          where
            same-gc : (a d : NodeDelta) → some a ≡ some d → a.last_gc ≡ d.last_gc
            same-gc a d e = cc

            at : ((node_at i (n.hubs z) ≡ node_at i (v.hubs z)) ⊎ ((z ≡ x) × ((g : ℕ) → ((d : NodeDelta) → part_at i (parts_of y.reads.0) ≡ some d → d.last_gc ≤ g) → Bound g (node_at i (v.hubs z)) → Bound g (node_at i (n.hubs z))))) → Bound d.last_gc (node_at i (n.hubs z))
            at (inl s) = subst (Bound d.last_gc) (sym s) k
            at (inr s) =
                s.1 d.last_gc
                (λ o r.
                let g : o.last_gc ≡ d.last_gc = same-gc o d (sym (its-part i o r) ∙ ap (λ (j : List ℕ). part_at i (parts_in (read_delta j))) (sym (same s.0)) ∙ q) in
                omega arith)
                k

        fine-heard : w.flights x ≡ DeltaSent b → Fine (record { net = n; flights = w.flights })
        fine-heard q =
            fine-next n w.flights moment rises leafs (λ z t m. inl m)
            (λ z p. fly-up n rises z p (λ a m. m) (w.flights z) (λ a r i d j k. tame z p a r (λ s. same a (sym r ∙ ap w.flights s ∙ q)) i d j k) (ok.flies z p))
          where
            same : (a : List ℕ) → DeltaSent a ≡ DeltaSent b → a ≡ b
            same a q = cc

            rises : (z i : ℕ) → c.steady z i ≡ true → gc_at v z i ≤ gc_at n z i
            rises z i s = (took z i).0

      fine-hearing : (cuts : List Cut) → Fine (record { net = with_table x (applied_to ways now l (cut_by cuts (w.flights x)) (v.hubs x)) v; flights = w.flights })
      fine-hearing cuts =
          cut-way (λ d. Fine (record { net = with_table x (applied_to ways now l d (v.hubs x)) v; flights = w.flights })) nothing (λ d. nothing) cuts (w.flights x)
          (λ b q. (ok.moment.sent b (flies b q).0).reads) (λ b e q y. fine-heard b e y (ok.moment.sent b (flies b q).0) (flies b q) q)
        where
          nothing : Fine (record { net = with_table x (v.hubs x) v; flights = w.flights })
          nothing = on-hub x (v.hubs x) (each_same v Moved moved_same x) (same-table owner v ok.moment x)

          flies : (b : List ℕ) → w.flights x ≡ DeltaSent b → Fly v x (DeltaSent b)
          flies b q = subst (Fly v x) q (ok.flies x plain)

  -- ---- every run

  pub fine-doing : Right c → (e : Doing) (w : Mixed) → Fine w → Fine (doing c e w)
  unfolding doing
  fine-doing right (Ordinary e) w ok = go (allowed c e w.net) refl
    where
      go : (b : Bool) → allowed c e w.net ≡ b → Fine (pick b (record { net = happen c.plan e w.net; flights = flights_after e w.flights }) w)
      go true q = fine-ordinary right w ok e q
      go false q = ok
  fine-doing right (Asking x y edition digest excluded order mtu place l) w ok = go (may_ask c x y excluded (w.net.hubs y)) refl
    where
      go : (b : Bool) → may_ask c x y excluded (w.net.hubs y) ≡ b → Fine (pick b (record { net = calls c.plan (Computing y edition digest excluded order mtu place l) w.net; flights = λ z. pick (eqb z x) (after_delta place (compute_by edition excluded order mtu place digest (w.net.hubs y) l).lent (compute_by edition excluded order mtu place digest (w.net.hubs y) l).answer (w.flights x)) (w.flights z) }) w)
      go true q = fine-asking right w ok x y edition excluded order mtu place digest l q
      go false q = ok
  fine-doing right (Hearing x cuts now l) w ok = go (c.plan.ways x).late refl (ltb now numbers) refl
    where
      go : (p : Bool) → (c.plan.ways x).late ≡ p → (b : Bool) → ltb now numbers ≡ b → Fine (pick (not p && b) (record { net = with_table x (applied_to (c.plan.ways x) now l (cut_by cuts (w.flights x)) (w.net.hubs x)) w.net; flights = w.flights }) w)
      go false p true q = fine-hearing right w ok x now l (ltb-true _ _ q) p cuts
      go false p false q = ok
      go true p b q = ok

  fine-run : Right c → (es : List Doing) (w : Mixed) → Fine w → Fine (run c es w)
  unfolding run
  fine-run right [] w ok = ok
  fine-run right (e ∷ es) w ok = fine-run right es (doing c e w) (fine-doing right e w ok)

-- every table obeys the rules, the claims hold between the owner of each node and every hub that has it, plain ones too, and owners reject
pub mixed-sound : (c : Cast) → Right c → (es : List Doing) → NetSound c.plan (run c es start).net
mixed-sound c right es = sound c.plan right.lawful (run c es start).net (fine-run c right es start (fine-start c)).moment
