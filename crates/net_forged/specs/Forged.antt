-- A net in which datagrams come from anywhere. What happens at a hub is what happens in a net (net: Net), but for a delta that arrives: any bytes whatever come to any hub, at any time and any
-- number of times, and every hub applies them with its own nodes left alone (leaving: Leaving). An honest delta that is late, doubled, cut or lost is one of these. The theorems are in
-- proofs/Owned and proofs/Silent: no bytes touch a node at its owner. What forged ones do to a follower, and the way out, is in proofs/Witnesses.
use Rattle.std.specs.Prelude.{ℕ, Bool, true, false, not, ◌&&◌, List, [], ◌∷◌, eqb, ltb}
use Rattle.std.proofs.Math.Option.{Option}
use Rattle.fields.specs.Numbers.{Bytes}
use Rattle.fields.specs.Choice.{pick, all}
use Rattle.rules.specs.Sizes.{numbers}
use Rattle.rules.specs.Node.{Node}
use Rattle.rules.specs.Table.{Table, node_of, numbers_of}
use Rattle.rules.specs.Whole.{decode_whole}
use Rattle.leaving.specs.Leaving.{apply_leaving, lent_leaving}
use Rattle.net.specs.Net.{Plan, Net, Event, Writing, Beating, Offering, Removing, Adding, Dropping, Computing, Arriving, Saving, Restoring, happen, with_table}
use Rattle.net.specs.LentNet.{LentNet, lent_happen, with_bytes}

pub data Doing : Type 0 where
  -- a call of a hub's own: what happens in a net
  Own : Event → Doing
  -- bytes come as a delta: hub, bytes, now, the lent list of answers
  Coming : ℕ → List ℕ → ℕ → List ℕ → Doing

-- what a hub does by itself; whatever arrives is a Coming
abbrev pub of_itself : (event : Event) → Bool
of_itself (Writing x i k who c) = true
of_itself (Beating x i) = true
of_itself (Offering x i h) = true
of_itself (Removing x removal) = true
of_itself (Adding x i) = true
of_itself (Dropping x i) = true
of_itself (Computing x edition digest excluded order mtu place l) = true
of_itself (Arriving x k now l) = false
of_itself (Saving x) = true
of_itself (Restoring x k) = true

-- the hub at which it happens
abbrev pub hub_of : (event : Event) → ℕ
hub_of (Writing x i k who c) = x
hub_of (Beating x i) = x
hub_of (Offering x i h) = x
hub_of (Removing x removal) = x
hub_of (Adding x i) = x
hub_of (Dropping x i) = x
hub_of (Computing x edition digest excluded order mtu place l) = x
hub_of (Arriving x k now l) = x
hub_of (Saving x) = x
hub_of (Restoring x k) = x

-- those of these nodes that the hub owns
unfoldable pub own_of : (owner : ℕ → ℕ) (hub : ℕ) (nodes : List ℕ) → List ℕ
own_of owner x [] = []
own_of owner x (i ∷ is) = pick (eqb (owner i) x) (i ∷ own_of owner x is) (own_of owner x is)

-- a time of eight bytes, and bytes
abbrev pub datagram : (bytes : Bytes) (now : ℕ) → Bool
datagram b now = ltb now numbers && all (λ n. ltb n 256) b

-- ---- of tables

abbrev pub taken : (plan : Plan) (hub : ℕ) (bytes : Bytes) (now : ℕ) (answers : Bytes) (table : Table) → Table
taken plan x b now l t = (apply_leaving (own_of plan.owner x (numbers_of t)) (plan.ways x) b now t l).table

unfoldable pub happens : (plan : Plan) (doing : Doing) (net : Net) → Net
happens plan (Own e) w = pick (of_itself e) (happen plan e w) w
happens plan (Coming x b now l) w = pick (datagram b now) (with_table x (taken plan x b now l (w.hubs x)) w) w

unfoldable pub runs : (plan : Plan) (doings : List Doing) (net : Net) → Net
runs plan [] w = w
runs plan (d ∷ ds) w = runs plan ds (happens plan d w)

-- ---- of lent bytes

abbrev pub lent_comes : (owner : ℕ → ℕ) (hub : ℕ) (bytes : Bytes) (now : ℕ) (answers table : Bytes) → Bytes
lent_comes owner x b now answers l = (lent_leaving (own_of owner x (numbers_of (decode_whole l).table)) b now answers l).lent.table

unfoldable pub lent_happens : (owner : ℕ → ℕ) (doing : Doing) (net : LentNet) → LentNet
lent_happens owner (Own e) w = pick (of_itself e) (lent_happen owner e w) w
lent_happens owner (Coming x b now l) w = pick (datagram b now) (with_bytes x (lent_comes owner x b now l (w.hubs x)) w) w

unfoldable pub lent_runs : (owner : ℕ → ℕ) (doings : List Doing) (net : LentNet) → LentNet
lent_runs owner [] w = w
lent_runs owner (d ∷ ds) w = lent_runs owner ds (lent_happens owner d w)

-- a node in the bytes of its owner's table
abbrev pub lent_node : (owner : ℕ → ℕ) (node : ℕ) (net : LentNet) → Option Node
lent_node owner i w = node_of i (decode_whole (w.hubs (owner i))).table

-- ---- which of them are no call of the node's owner

abbrev pub elsewhere : (owner : ℕ → ℕ) (node : ℕ) (doing : Doing) → Bool
elsewhere owner i (Own e) = not (eqb (owner i) (hub_of e))
elsewhere owner i (Coming x b now l) = true
