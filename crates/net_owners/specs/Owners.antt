-- Nodes that change hands. A node has one owner at a time, and at any moment another hub may become it: one that has all versions that were given and not lost, in its table and on
-- its disk. So the old owner gives no more, and what it gave and let nobody hear is lost first, with its table (Forgetting). All else is as in a net whose
-- hubs lose their memory (net_losing: Losing): crashes, lost disks, late deltas. The theorem is in proofs/Owners.
use Rattle.std.specs.Prelude.{ℕ, Bool, false, ◌&&◌, List, [], ◌∷◌, eqb, leb, length}
use Rattle.std.proofs.Math.Option.{Option, none, some}
use Rattle.fields.specs.Choice.{pick}
use Rattle.rules.specs.Node.{KeyValue, Node}
use Rattle.rules.specs.Table.{node_of}
use Rattle.net.specs.Net.{Plan}
use Rattle.net_losing.specs.Losing.{Losing, Doing, doing, start}

-- who owns each node now, and the net
pub record Handed : Type 0 where
  pub owner : ℕ → ℕ
  pub losing : Losing

pub data Turn : Type 0 where
  -- what happens in a net whose hubs lose their memory
  Goes : Doing → Turn
  -- a node gets another owner: node, hub
  Handing : ℕ → ℕ → Turn

-- ---- when it may

-- the node is there, and at the last version given
abbrev pub has_all : (given : List KeyValue) (held : Option Node) → Bool
has_all h none = false
has_all h (some n) = leb (length h) n.max

abbrev pub may_own : (node hub : ℕ) (w : Losing) → Bool
may_own i y w = has_all (w.net.given i) (node_of i (w.net.hubs y)) && has_all (w.net.given i) (node_of i (w.disk y))

-- ---- what happens then

-- node i is hub y's
abbrev pub owned_by : (node hub : ℕ) (owner : ℕ → ℕ) (nodes : ℕ) → ℕ
owned_by i y owner j = pick (eqb j i) y (owner j)

-- what the old owner saved is thrown away: a copy of its own node may be of a time that a crash undid
abbrev pub handed_over : (node hub : ℕ) (v : Handed) → Handed
handed_over i y v =
    record {
      owner = owned_by i y v.owner;
      losing =
          record {
            net = record { hubs = v.losing.net.hubs; given = v.losing.net.given; sent = v.losing.net.sent; saved = λ x. pick (eqb x (v.owner i)) [] (v.losing.net.saved x) };
            disk = v.losing.disk;
            kept = v.losing.kept;
            out = v.losing.out;
            forgot = v.losing.forgot;
          };
    }

-- the plan with the owners of the moment
abbrev pub plan_now : (plan : Plan) (owner : ℕ → ℕ) → Plan
plan_now plan owner = record { owner = owner; ways = plan.ways; profiles = plan.profiles }

unfoldable pub turn : (plan : Plan) (t : Turn) (v : Handed) → Handed
turn plan (Goes e) v = record { owner = v.owner; losing = doing (plan_now plan v.owner) e v.losing }
turn plan (Handing i y) v = pick (may_own i y v.losing) (handed_over i y v) v

-- the plan says who owns which node at first
abbrev pub handed_start : (plan : Plan) → Handed
handed_start plan = record { owner = plan.owner; losing = start }

unfoldable pub turns : (plan : Plan) (ts : List Turn) (v : Handed) → Handed
turns plan [] v = v
turns plan (t ∷ ts) v = turns plan ts (turn plan t v)
