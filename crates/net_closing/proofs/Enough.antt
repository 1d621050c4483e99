-- An exchange in document 01's order in which nothing is refused, no node answers Room and the MTU is as large as the sender's table is one of which nothing is cut.
use Prim.Native.Nat.{◌≤◌, ℕ}
use mathlib.Core.Bool.{true}
use mathlib.Core.List.{List, []}
use mathlib.Core.Option.{Option, some}
use mathlib.Core.Path.{◌≡◌, ap, subst, sym}
use native.Mathlib.Omega.{arith}
use lib.Dec.{ltb}
use Rattle.rules.specs.Apply.{Lawful, apply}
use Rattle.rules.specs.Delta.{delta_bytes}
use Rattle.rules.specs.Digest.{digest_bytes, digest_of}
use Rattle.rules.specs.Node.{Node}
use Rattle.rules.specs.Sizes.{numbers}
use Rattle.rules.specs.Table.{node_of}
use Rattle.demand3.proofs.EachNode.{or_fresh}
use Rattle.demand3.specs.Forms.{InLine, Order, compute_by, ops_by}
use Rattle.demand3.specs.Demand3.{no_room, wrote_delta}
use Rattle.net.proofs.Moments.{Moment}
use Rattle.net.specs.Net.{Net, Plan}
use Rattle.net_closing.proofs.Exchange.{heard-behind}
use Rattle.net_closing.proofs.Wide.{wide-brings, wide-uncut}
use Rattle.net_closing.specs.Closing.{Asked, Heard, HeardWhole, PartIn, ops_in, weight}

pub wide-heard : (plan : Plan) → ((x : ℕ) → Lawful (plan.ways x)) → (w : Net) → Moment plan.owner w → (i x y : ℕ) (q : Asked) (ties : List ℕ) (n : Node)
    → q.order ≡ InLine ties
    → node_of i (w.hubs x) ≡ some n
    → wrote_delta (compute_by q.edition [] q.order q.mtu q.place (digest_bytes q.edition (digest_of [] (w.hubs x))) (w.hubs y) q.datagram).answer ≡ true
    → ltb q.now numbers ≡ true
    → no_room (apply (plan.ways x) (delta_bytes (ops_in q x y w)) q.now (w.hubs x) q.answers).answer (apply (plan.ways x) (delta_bytes (ops_in q x y w)) q.now (w.hubs x) q.answers).list ≡ true
    → weight (w.hubs y) ≤ q.mtu
    → HeardWhole plan i x y w q
wide-heard plan lawful w ok i x y q ties n in_line has wrote clock roomy wide =
    record {
      heard = heard;
      uncut =
          λ m e d k.
          let r = heard-behind plan lawful w ok i x y q heard d k in
          let z = ap (λ (o : Option Node). (or_fresh o).max) e in
          wide-uncut ties q.mtu (w.hubs x) (w.hubs y) (ok.tables y).obeyed.ascending wide i n m has e (omega arith) d
          (subst (λ (o : Order). PartIn (ops_by [] o q.mtu (digest_of [] (w.hubs x)) (w.hubs y)) i d) in_line k);
    }
  where
    heard : Heard plan i x y w q
    heard =
        record {
          node = n;
          has = has;
          wrote = wrote;
          clock = clock;
          roomy = roomy;
          brings =
              λ m e late.
              let b = wide-brings ties q.mtu (w.hubs x) (w.hubs y) (ok.tables y).obeyed.ascending wide i n m has e late in
              (b.0, subst (λ (o : Order). PartIn (ops_by [] o q.mtu (digest_of [] (w.hubs x)) (w.hubs y)) i b.0) (sym in_line) b.1, b.2);
        }
