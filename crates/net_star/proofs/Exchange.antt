-- What a whole exchange with o brings: while a follower needs anything of o's nodes, it needs less of one of them afterwards. Assumes nothing but that no hub is plain.
use Prim.Native.Nat.{◌<◌, ◌≤◌, max, suc, ℕ}
use mathlib.Core.Bool.{Bool, ◌&&◌, false, false≢true, true}
use mathlib.Core.List.{List, []}
use mathlib.Core.Option.{Option, some}
use mathlib.Core.Path.{◌∙◌, ◌≡◌, ap, refl, subst, sym}
use native.Mathlib.Omega.{arith}
use lib.Dec.{leb, ltb}
use lib.ListN.{length}
use borrow.Author.Tests.{eq-eqb, leb-true}
use Rattle.fields.specs.Choice.{◌∈◌, pick}
use Rattle.rules.proofs.Calls.{node_in}
use Rattle.rules.proofs.Digests.{read-written}
use Rattle.rules.proofs.Obeys.{facts-table}
use Rattle.rules.proofs.Sending.{node_delta}
use Rattle.rules.proofs.Tables.{answer-each, mapped, node-each, part_at, repeated, taking}
use Rattle.rules.proofs.Taking.{taken-node}
use Rattle.rules.specs.Apply.{Stream, Taking, Ways, apply, apply_node, delta_status, outcome}
use Rattle.rules.specs.Compute.{from_of, stale, told_of}
use Rattle.rules.specs.Delta.{NodeDelta, Op, delta_bytes, nothing_read, parts_of}
use Rattle.rules.specs.Digest.{Entries, NodeDigest, digest_bytes, digest_of}
use Rattle.rules.specs.Given.{Given}
use Rattle.rules.specs.Node.{Node}
use Rattle.rules.specs.Sizes.{numbers}
use Rattle.rules.specs.Table.{Entry, among, node_of, obeys}
use Rattle.std.specs.Prelude.{Result}
use Rattle.rules.specs.declared.Refusal.{Refusal}
use Rattle.rules.specs.declared.Sent.{Sent}
use Rattle.rules.specs.declared.NodeAnswer.{NodeAnswer}
use Rattle.rules.specs.declared.NodeAnswer.TheVariants as node
use Rattle.demand3.proofs.EachNode.{node_at, or_fresh}
use Rattle.demand3.proofs.Forms.{Comes, Made, comes, refuses, writes}
use Rattle.demand3.proofs.Moments.{read-once}
use Rattle.demand3.proofs.Nearer.{Stirs, told-held}
use Rattle.demand3.proofs.Needed.{Onward, needed, needed-falls, needed-some, onward-gc}
use Rattle.demand3.proofs.OnTheWay.{PartFor}
use Rattle.demand3.proofs.Whole.{stream, taken}
use Rattle.demand3.specs.Demand3.{least_width, no_room, wrote_delta}
use Rattle.demand3.specs.Forms.{AsPlanned, InLine, Order, ops_by}
use Rattle.demand3.specs.World.{DeltaSent, Exchange, Which, World, applied_to}
use Rattle.demand3.specs.World as world
use Rattle.net.specs.Net.{Arriving, Net, Plan, Ready, happen}
use Rattle.net_closing.proofs.Exchange.{read-edition}
use Rattle.net_closing.proofs.Rounds.{there-is}
use Rattle.net_closing.specs.Closing.{Asked}
use Rattle.net_star.proofs.Quiet.{Alike, Further, Kept}
use Rattle.net_star.proofs.Stirring.{line-stirs}
use Rattle.net_star.specs.Star.{Whole, ops_of, wide}

pub needed-alike : (p n f : Node) → Alike p n → needed n f ≡ needed p f
unfolding needed
needed-alike p n f e =
    let a = e.0 in
    let b = e.1 in
    let c = e.2 in
    λ z. pick (leb (a z) f.max) 0 (suc (length (stale (from_of (b z) f.last_gc f.max) (c z))))

module _ (plan : Plan) (ready : Ready plan) (o : ℕ) (p : ℕ → Node) (x : ℕ) (u v w : Net) (q : Asked) (excluded : List ℕ) (which : Which) (s : Whole plan o x u v w q excluded which)
    (ku : Kept plan ready o p u) (kv : Kept plan ready o p v) (kw : Kept plan ready o p w) (on : Further plan ready o p u w) where
  abbrev told : List NodeDigest
  told = digest_of [] (u.hubs x)

  abbrev ops : List Op
  ops = ops_of q excluded o x u v

  abbrev ways : Ways
  ways = plan.ways x

  obeyed : (n : Net) → Kept plan ready o p n → (y : ℕ) → obeys (n.hubs y) ≡ true
  obeyed n k y = facts-table (n.hubs y) (k.moment.tables y).obeyed

  -- ---- the delta

  made : Made excluded q.order q.mtu told (v.hubs o)
  made = go _ (comes q.edition excluded q.order q.mtu q.place (digest_bytes q.edition told) (v.hubs o) q.datagram (obeyed v kv o)) s.wrote
    where
      go : (a : Given (Result Sent Refusal) (List ℕ)) → Comes q.edition excluded q.order q.mtu q.place (digest_bytes q.edition told) (v.hubs o) q.datagram a → wrote_delta a.answer ≡ true → Made excluded q.order q.mtu told (v.hubs o)
      go a (refuses r) g = absurd (false≢true g)
      go a (writes ds rest e k there) g =
          let twice : Entries ds rest ≡ Entries told [] = sym e ∙ read-written q.edition (read-edition q.edition _ ds rest e) [] (u.hubs x) (obeyed u ku x) in
          let ds-is : ds ≡ told = cc in
          subst (λ (l : List NodeDigest). Made excluded q.order q.mtu l (v.hubs o)) ds-is k

  once : repeated (parts_of ops) ≡ false
  once = read-once ops nothing_read made.sendable.chain

  -- ---- the applying

  abbrev pub then : Net
  then = happen plan (Arriving x which q.now q.answers) w

  abbrev pair : World
  pair = record { publisher = v.hubs o; follower = w.hubs x; given = λ j. []; exchange = DeltaSent (delta_bytes ops); sent = [] }

  abbrev end : Stream
  end = stream ways (ready.lawful x) ops made.sendable.read q.now q.answers pair

  -- demand 3's law of a delta that is taken, for a world of these two
  took : ((apply ways (delta_bytes ops) q.now (w.hubs x) q.answers).table ≡ end.table) × (node.Room ∈ end.answers → ⊥)
  unfolding world.happen
  took =
      let r = taken ways (ready.lawful x) ops made.sendable.read q.now q.answers pair refl granted in
      (sym (now-is (ltb q.now numbers) s.clock) ∙ ap (λ (y : World). y.follower) r.0, r.1)
    where
      granted : (ltb q.now numbers && no_room (apply ways (delta_bytes ops) q.now (w.hubs x) q.answers).answer (apply ways (delta_bytes ops) q.now (w.hubs x) q.answers).list) ≡ true
      granted = rw s.clock s.roomy

      now-is : (c : Bool) → c ≡ true → (pick c (record { publisher = v.hubs o; follower = (apply ways (delta_bytes ops) q.now (w.hubs x) q.answers).table; given = λ j. []; exchange = DeltaSent (delta_bytes ops); sent = [] }) pair).follower ≡ (apply ways (delta_bytes ops) q.now (w.hubs x) q.answers).table
      now-is true e = refl
      now-is false e = absurd (false≢true e)

  arrived : then.hubs x ≡ (apply ways (delta_bytes ops) q.now (w.hubs x) q.answers).table
  unfolding happen
  arrived = rw (s.clock, eq-eqb x x refl) (ap (λ (d : Exchange). applied_to ways q.now q.answers d (w.hubs x)) s.comes)

  -- a node that has a part takes it
  node-then : (j : ℕ) (d : NodeDelta) (y : Node) → part_at j (parts_of ops) ≡ some d → node_of j (w.hubs x) ≡ some y → node_at j (then.hubs x) ≡ outcome (delta_status ways.fence y d) q.now d y
  node-then j d y part has =
      ap (node_at j) (arrived ∙ took.0)
      ∙ ap or_fresh (node-each take j (parts_of ops) (w.hubs x) once ∙ ap (λ (a : Option NodeDelta). mapped (taking take a) (node_of j (w.hubs x))) part ∙ ap (mapped (taking take (some d))) has)
      ∙ taken-node ways q.now d y (λ e. took.1 (subst (λ (a : NodeAnswer). a ∈ end.answers) e (answer-each take j (parts_of ops) (w.hubs x) d y part has)))
    where
      take : Taking
      take = apply_node ways q.now

  -- ---- one of o's nodes that x is behind of

  stirs : (e : Entry) → e ∈ v.hubs o → plan.owner e.number ≡ o → (told_of e.number told).max < e.node.max → Stirs (v.hubs o) ops
  stirs e m mine says = go q.order s.is_wide made
    where
      free : among e.number excluded ≡ false
      free = s.own_go e m mine

      go : (order : Order) → wide order q.mtu ≡ true → Made excluded order q.mtu told (v.hubs o) → Stirs (v.hubs o) (ops_by excluded order q.mtu told (v.hubs o))
      go (InLine ties) h k = line-stirs excluded q.mtu ties told (v.hubs o) (obeyed v kv o) (leb-true least_width q.mtu h) e m free says
      go (AsPlanned nodes counts) h k = k.stirs h e m says

  -- x told what it had
  tells : (i : ℕ) (f : Node) → node_of i (u.hubs x) ≡ some f → told_of i told ≡ record { number = i; heartbeat = f.heartbeat; last_gc = f.last_gc; max = f.max }
  tells i f e = told-held i (u.hubs x) f e

  tells-max : (i : ℕ) (f : Node) → node_of i (u.hubs x) ≡ some f → (told_of i told).max ≡ f.max
  tells-max i f e = ap (λ (k : NodeDigest). k.max) (tells i f e)

  module _ (i : ℕ) (mine : plan.owner i ≡ o) (late : 0 < needed (p i) (node_at i (u.hubs x))) where
    r : Node
    r = node_at i (v.hubs o)

    behind : (node_at i (u.hubs x)).max < r.max
    unfolding r
    behind = needed-some r (node_at i (u.hubs x)) (let a = needed-alike (p i) r (node_at i (u.hubs x)) (kv.alike i mine) in omega arith)

    stirring : Stirs (v.hubs o) ops
    unfolding r
    stirring =
        let b = behind in
        let h : node_of i (v.hubs o) ≡ some r = there-is (node_of i (v.hubs o)) (node_at i (u.hubs x)).max b in
        let e = node_in i (v.hubs o) h in
        let f = s.had i r mine h (omega arith) in
        let t : (told_of i told).max ≡ f.0.max = tells-max i f.0 f.1 in
        let g : (node_at i (u.hubs x)).max ≡ f.0.max = ap (λ (k : Option Node). (or_fresh k).max) f.1 in
        let n : e.0.node.max ≡ r.max = ap (λ (k : Node). k.max) e.2 in
        let c : (told_of i told).max < e.0.node.max = omega arith in
        stirs e.0 e.1 (ap plan.owner (sym e.3) ∙ mine) (subst (λ (k : ℕ). (told_of k told).max < e.0.node.max) e.3 c)

    -- of some node it needs less
    pub one-falls : (j : ℕ) × (plan.owner j ≡ o) × (0 < (p j).max) × (needed (p j) (node_at j (then.hubs x)) < needed (p j) (node_at j (u.hubs x)))
    unfolding node_delta
    one-falls = (j, own, let a = z-top in let b = z.behind in omega arith, fall)
      where
        t : Stirs (v.hubs o) ops
        t = stirring

        j : ℕ
        j = t.0

        d : NodeDelta
        d = t.1

        z : PartFor excluded told (v.hubs o) j d
        z = made.each j d t.2

        -- it is not excluded, so it is o's
        own : plan.owner j ≡ o
        own = ap plan.owner z.held.2 ∙ s.others_stay z.held.0 z.held.1 (subst (λ (k : ℕ). among k excluded ≡ false) z.held.2 z.free)

        m : Node
        m = node_at j (v.hubs o)

        alike : Alike (p j) m
        alike = kv.alike j own

        z-top : m.max ≡ (p j).max
        z-top = alike.0

        m-is : node_of j (v.hubs o) ≡ some m
        m-is = there-is (node_of j (v.hubs o)) (told_of j told).max z.behind

        some-version : 0 < m.max
        some-version = let b = z.behind in omega arith

        f : (n : Node) × (node_of j (u.hubs x) ≡ some n)
        f = s.had j m own m-is some-version

        y : (n : Node) × (node_of j (w.hubs x) ≡ some n)
        y = s.has j m own m-is some-version

        f-is : node_at j (u.hubs x) ≡ f.0
        f-is = ap or_fresh f.1

        y-is : node_at j (w.hubs x) ≡ y.0
        y-is = ap or_fresh y.1

        told_is : told_of j told ≡ record { number = j; heartbeat = f.0.heartbeat; last_gc = f.0.last_gc; max = f.0.max }
        told_is = tells j f.0 f.1

        late-there : f.0.max < m.max
        late-there = let a = z.behind in let b = ap (λ (k : NodeDigest). k.max) told_is in omega arith

        gc_is : d.last_gc ≡ m.last_gc
        gc_is = ap (λ (k : NodeDelta). k.last_gc) z.delta-is

        from_is : d.from ≡ from_of m.last_gc f.0.last_gc f.0.max
        from_is = ap (λ (k : NodeDelta). k.from) z.delta-is ∙ (λ a. from_of m.last_gc (told_is a).last_gc (told_is a).max)

        onward : Onward m f.0 y.0
        onward =
            onward-gc (p j) m f.0 y.0 (sym alike.1)
            (subst (λ (k : Node). Onward (p j) k y.0) f-is (subst (Onward (p j) (node_at j (u.hubs x))) y-is (on x j own)))

        -- no fence stands against it
        bounded : y.0.last_gc ≤ max y.0.max d.last_gc
        bounded =
            subst (λ (k : Node). k.last_gc ≤ max k.max d.last_gc) y-is
            (let a = kw.low.hubs x j own in let b = (kw.alike j own).1 in let c = alike.1 in let e = gc_is in omega arith)

        fall : needed (p j) (node_at j (then.hubs x)) < needed (p j) (node_at j (u.hubs x))
        fall =
            let k =
            needed-falls ways.fence q.now m f.0 y.0 d late-there gc_is from_is onward ((ready.lawful x).lets y.0.last_gc y.0.max d.last_gc d.max bounded) t.3 in
            let a : needed (p j) (node_at j (then.hubs x)) ≡ needed (p j) (outcome (delta_status ways.fence y.0 d) q.now d y.0) = ap (needed (p j)) (node-then j d y.0 t.2 y.1) in
            let b : needed (p j) (node_at j (u.hubs x)) ≡ needed (p j) f.0 = ap (needed (p j)) f-is in
            let c = needed-alike (p j) m f.0 alike in
            let e = needed-alike (p j) m (outcome (delta_status ways.fence y.0 d) q.now d y.0) alike in
            omega arith
