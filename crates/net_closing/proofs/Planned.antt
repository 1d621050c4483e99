-- An exchange by a plan in which nothing is refused and no node answers Room: of each node that the plan names, something comes over. So it is one of those by which nets end.
use Prim.Native.Nat.{◌<◌, ℕ}
use mathlib.Core.Bool.{false≢true, true}
use mathlib.Core.List.{List, []}
use mathlib.Core.Option.{Option, some}
use mathlib.Core.Path.{◌∙◌, ◌≡◌, ap, subst, sym}
use native.Mathlib.Omega.{arith}
use lib.Dec.{ltb}
use Rattle.fields.specs.Choice.{◌∈◌}
use Rattle.rules.proofs.Digests.{read-written}
use Rattle.rules.proofs.Obeys.{facts-table}
use Rattle.rules.proofs.Tables.{part_in}
use Rattle.rules.specs.Apply.{apply}
use Rattle.rules.specs.Delta.{NodeDelta, Part, delta_bytes, parts_of}
use Rattle.rules.specs.Digest.{Entries, NodeDigest, digest_bytes, digest_of}
use Rattle.rules.specs.Given.{Given}
use Rattle.rules.specs.Node.{Node}
use Rattle.rules.specs.Sizes.{numbers}
use Rattle.rules.specs.Table.{Table, node_of, obeys}
use Rattle.std.specs.Prelude.{Result}
use Rattle.rules.specs.declared.Refusal.{Refusal}
use Rattle.rules.specs.declared.Sent.{Sent}
use Rattle.plan.proofs.Comes as planner
use Rattle.plan.proofs.Sent.{planned-some}
use Rattle.plan.specs.Plan.{accepts, compute_plan, delta_by}
use Rattle.demand3.proofs.EachNode.{node_at, or_fresh}
use Rattle.demand3.proofs.Needed.{Moves, brings, completes}
use Rattle.demand3.proofs.Planned.{planned-moves}
use Rattle.demand3.specs.Demand3.{no_room, wrote_delta}
use Rattle.demand3.specs.Forms.{AsPlanned, Order, compute_by, ops_by}
use Rattle.net.proofs.Moments.{Moment}
use Rattle.net.specs.Net.{Net, Plan}
use Rattle.net_closing.proofs.Exchange.{read-edition}
use Rattle.net_closing.specs.Closing.{Asked, Heard, PartIn, ops_in}

module _ (edition : ℕ) (nodes counts : List ℕ) (mtu place : ℕ) (l : List ℕ) (t u : Table) (t-ok : obeys t ≡ true) (u-ok : obeys u ≡ true) where
  -- what was written for t's own digest was accepted for what it tells
  accepted : wrote_delta (compute_plan edition [] nodes counts mtu place (digest_bytes edition (digest_of [] t)) u l).answer ≡ true → accepts [] nodes counts mtu (digest_of [] t) u ≡ true
  accepted = go _ (planner.plan-comes edition [] nodes counts mtu place (digest_bytes edition (digest_of [] t)) u l)
    where
      go : (o : Given (Result Sent Refusal) (List ℕ)) → planner.PlanComes edition [] nodes counts mtu place (digest_bytes edition (digest_of [] t)) u l o → wrote_delta o.answer ≡ true → accepts [] nodes counts mtu (digest_of [] t) u ≡ true
      go o (planner.refuses r) g = absurd (false≢true g)
      go o (planner.writes ds rest e taken h k) g =
          let twice : Entries ds rest ≡ Entries (digest_of [] t) [] = sym e ∙ read-written edition (read-edition edition _ ds rest e) [] t t-ok in
          let ds-is : ds ≡ digest_of [] t = cc in
          subst (λ (x : List NodeDigest). accepts [] nodes counts mtu x u ≡ true) ds-is taken

  comes-over : wrote_delta (compute_plan edition [] nodes counts mtu place (digest_bytes edition (digest_of [] t)) u l).answer ≡ true → (i : ℕ) → i ∈ nodes → (m : Node) → node_of i u ≡ some m → 0 < m.max → (d : NodeDelta) × PartIn (delta_by [] nodes counts (digest_of [] t) u) i d × (0 < d.max)
  comes-over wrote i n m held some-max =
      let taken = accepted wrote in
      let p = planned-some [] nodes counts mtu (digest_of [] t) u u-ok taken i n in
      let x = part_in i (parts_of (delta_by [] nodes counts (digest_of [] t) u)) p.1 in
      let same : ◌≡◌ {A = Part} x.0 (record { number = i; delta = p.0 }) = (λ z. record { number = sym x.3 z; delta = x.2 z }) in
      (p.0, subst (λ (y : Part). y ∈ parts_of (delta_by [] nodes counts (digest_of [] t) u)) same x.1, high p.0 (planned-moves [] nodes counts mtu (digest_of [] t) u u-ok taken i p.0 p.1))
    where
      high : (d : NodeDelta) → Moves (node_at i u) d → 0 < d.max
      high d (brings r k a b) = omega arith
      high d (completes a) = let e = ap (λ (o : Option Node). (or_fresh o).max) held in omega arith

pub planned-heard : (plan : Plan) (w : Net) → Moment plan.owner w → (i x y : ℕ) (q : Asked) (nodes counts : List ℕ) (n : Node)
    → q.order ≡ AsPlanned nodes counts
    → i ∈ nodes
    → node_of i (w.hubs x) ≡ some n
    → wrote_delta (compute_by q.edition [] q.order q.mtu q.place (digest_bytes q.edition (digest_of [] (w.hubs x))) (w.hubs y) q.datagram).answer ≡ true
    → ltb q.now numbers ≡ true
    → no_room (apply (plan.ways x) (delta_bytes (ops_in q x y w)) q.now (w.hubs x) q.answers).answer (apply (plan.ways x) (delta_bytes (ops_in q x y w)) q.now (w.hubs x) q.answers).list ≡ true
    → Heard plan i x y w q
planned-heard plan w ok i x y q nodes counts n by-plan named has wrote clock roomy =
    record {
      node = n;
      has = has;
      wrote = wrote;
      clock = clock;
      roomy = roomy;
      brings =
          λ m e late.
          let b = comes-over q.edition nodes counts q.mtu q.place q.datagram (w.hubs x) (w.hubs y) (obeyed x) (obeyed y) done i named m e (omega arith) in
          (b.0, subst (λ (o : Order). PartIn (ops_by [] o q.mtu (digest_of [] (w.hubs x)) (w.hubs y)) i b.0) (sym by-plan) b.1, b.2);
    }
  where
    obeyed : (z : ℕ) → obeys (w.hubs z) ≡ true
    obeyed z = facts-table (w.hubs z) (ok.tables z).obeyed

    done : wrote_delta (compute_plan q.edition [] nodes counts q.mtu q.place (digest_bytes q.edition (digest_of [] (w.hubs x))) (w.hubs y) q.datagram).answer ≡ true
    done = subst (λ (o : Order). wrote_delta (compute_by q.edition [] o q.mtu q.place (digest_bytes q.edition (digest_of [] (w.hubs x))) (w.hubs y) q.datagram).answer ≡ true) by-plan wrote
