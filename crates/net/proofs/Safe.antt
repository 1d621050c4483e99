-- The theorem about nets: where no hub is plain, the claims hold at every moment of every run.
use Prim.Native.Nat.{ℕ}
use mathlib.Core.List.{List}
use mathlib.Core.Option.{some}
use mathlib.Core.Path.{◌∙◌, ◌≡◌, ap, refl, subst, sym}
use Rattle.fields.specs.Choice.{◌∈◌}
use Rattle.rules.proofs.Keeps.{fenced-lawful}
use Rattle.rules.proofs.Obeys.{facts-table}
use Rattle.rules.specs.Apply.{Lawful, fenced_ways}
use Rattle.rules.specs.Delta.{Good, Op, nothing_read, parts_of}
use Rattle.rules.specs.Node.{Node}
use Rattle.rules.specs.Table.{node_of}
use Rattle.rules.specs.declared.Profile.{Profile}
use Rattle.demand3.proofs.EachNode.{or_fresh}
use Rattle.demand3.proofs.Honest.{HonestNode}
use Rattle.demand3.proofs.Moments.{read-once}
use Rattle.demand3.proofs.Publisher.{Publisher, claims-of}
use Rattle.net.proofs.Coming.{part-there}
use Rattle.net.proofs.Moments.{Moment, moment-begin, moments}
use Rattle.net.proofs.Owners.{owner-stays}
use Rattle.net.proofs.Pairs.{pairs-rise}
use Rattle.net.specs.Net.{Event, Net, NetSafe, NetSound, Plan, Ready, after, begin}

pub sound : (plan : Plan) → ((x : ℕ) → Lawful (plan.ways x)) → (w : Net) → Moment plan.owner w → NetSound plan w
sound plan lawful w ok =
    record {
      tables_obey = λ x. facts-table (w.hubs x) (ok.tables x).obeyed;
      claims =
          λ i x p n e f.
          claims-of (w.given i) p n (owns i p e) (subst (HonestNode (w.given i)) (ap or_fresh f) ((ok.tables x).honest i));
      owner_rejects =
          λ b m ops q y z p e now.
          let c = ok.sent b m in
          let same : ops ≡ c.reads.0 = alike ops c.reads.0 (sym q ∙ c.reads.1) in
          let z' : y ∈ parts_of c.reads.0 = subst (λ (os : List Op). y ∈ parts_of os) same z in
          let x : ℕ = plan.owner y.number in
          owner-stays (plan.ways x) (lawful x) (w.given y.number) p (owns y.number p e) y.delta
          (c.honest y.number y.delta (part-there (parts_of c.reads.0) (read-once c.reads.0 nothing_read c.reads.2) y z')) now;
    }
  where
    alike : (a b : List Op) → Good a ≡ Good b → a ≡ b
    alike a b e = cc

    owns : (i : ℕ) (p : Node) → node_of i (w.hubs (plan.owner i)) ≡ some p → Publisher (w.given i) p
    owns i p e = subst (Publisher (w.given i)) (ap or_fresh e) (ok.owners i)

-- whoever owns which node, each hub in ways of its own
pub net-sound : (plan : Plan) → Ready plan → (es : List Event) → NetSound plan (after plan es begin)
net-sound plan ready es = sound plan ready.lawful (after plan es begin) (moments plan ready es begin (moment-begin plan.owner))

pub net-safe : (plan : Plan) → Ready plan → NetSafe plan
net-safe plan ready =
    record {
      at_every_moment = net-sound plan ready;
      between_moments = λ es fs g x. pairs-rise plan fs (after plan es begin) g x;
    }

-- every hub fenced, in any profiles
pub fenced-net : (owner : ℕ → ℕ) (profiles : ℕ → Profile) → NetSafe (record { owner = owner; ways = λ x. fenced_ways; profiles = profiles })
fenced-net owner profiles = net-safe _ (record { lawful = λ x. fenced-lawful; late = λ x. refl })
