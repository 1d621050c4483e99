-- How a net ends. An exchange is two calls: hub y computes a delta for hub x's own digest, and x applies it at once. A round is a run in which every hub hears every
-- neighbour by such an exchange, in any order, and much else may happen beside it. Here is what the theorems of proofs/ ask of exchanges, rounds and runs, of
-- one node i of whole tables.
use Rattle.std.specs.Prelude.{ℕ, suc, max, ◌+◌, ◌≤◌, ◌<◌, ◌≡◌, Bool, true, false, not, ◌&&◌, List, [], ◌∷◌, ◌++◌, ltb, eqb, length}
use Rattle.std.proofs.Math.Option.{Option, none, some}
use Rattle.fields.specs.Numbers.{Bytes}
use Rattle.fields.specs.Choice.{◌∈◌, pick}
use Rattle.rules.specs.Sizes.{numbers}
use Rattle.rules.specs.Node.{Node, Rec}
use Rattle.rules.specs.Table.{Table, node_of}
use Rattle.rules.specs.Digest.{digest_of, digest_bytes}
use Rattle.rules.specs.Delta.{Op, NodeDelta, beside_texts, delta_bytes, parts_of}
use Rattle.rules.specs.Compute.{stale}
use Rattle.rules.specs.Apply.{Ways, apply}
use Rattle.demand3.specs.Forms.{Order, compute_by, ops_by}
use Rattle.demand3.specs.Demand3.{Claims, wrote_delta, no_room}
use Rattle.demand3.specs.World.{DeltaSent, Which, arrives, intact}
use Rattle.net.specs.Net.{Plan, Net, Event, Writing, Beating, Offering, Removing, Adding, Dropping, Computing, Arriving, Saving, Restoring, placed, happen, after}
use Rattle.net.specs.LentNet.{LentNet, lent_after}

-- ---- an exchange

-- what the two calls are given: the edition of the digest, one for both ends; nothing is excluded
pub record Asked : Type 0 where
  pub edition : ℕ
  pub order : Order
  pub mtu : ℕ
  pub place : ℕ
  pub datagram : Bytes
  pub now : ℕ
  pub answers : Bytes

abbrev pub exchange_in : (asked : Asked) (x y : ℕ) (net : Net) → List Event
exchange_in q x y w = Computing y q.edition (digest_bytes q.edition (digest_of [] (w.hubs x))) [] q.order q.mtu q.place q.datagram ∷ Arriving x (intact 0) q.now q.answers ∷ []

-- the operations that y sends
abbrev pub ops_in : (asked : Asked) (x y : ℕ) (net : Net) → List Op
ops_in q x y w = ops_by [] q.order q.mtu (digest_of [] (w.hubs x)) (w.hubs y)

-- d is their part for node i
abbrev pub PartIn : (ops : List Op) (node : ℕ) (d : NodeDelta) → Type 0
PartIn ops i d = record { number = i; delta = d } ∈ parts_of ops

-- x, which has node i, hears y: no call is refused and no node answers Room; and if y is ahead of x, then of node i a record comes over, or a SetMaxVersion
pub record Heard (plan : Plan) (i x y : ℕ) (w : Net) (q : Asked) : Type 0 where
  pub node : Node
  pub has : node_of i (w.hubs x) ≡ some node
  pub wrote : wrote_delta (compute_by q.edition [] q.order q.mtu q.place (digest_bytes q.edition (digest_of [] (w.hubs x))) (w.hubs y) q.datagram).answer ≡ true
  pub clock : ltb q.now numbers ≡ true
  pub roomy : no_room (apply (plan.ways x) (delta_bytes (ops_in q x y w)) q.now (w.hubs x) q.answers).answer
      (apply (plan.ways x) (delta_bytes (ops_in q x y w)) q.now (w.hubs x) q.answers).list ≡ true
  pub brings : (m : Node) → node_of i (w.hubs y) ≡ some m → node.max < m.max → (d : NodeDelta) × PartIn (ops_in q x y w) i d × (0 < d.max)

-- and of node i nothing is cut: all records above from come over
pub record HeardWhole (plan : Plan) (i x y : ℕ) (w : Net) (q : Asked) : Type 0 where
  pub heard : Heard plan i x y w q
  pub uncut : (m : Node) → node_of i (w.hubs y) ≡ some m → (d : NodeDelta) → PartIn (ops_in q x y w) i d → length d.recs ≡ length (stale d.from m.recs)

-- ---- rounds

-- nobody writes node i or removes it, and no table is restored
abbrev pub calm : (node : ℕ) (event : Event) → Bool
calm i (Writing x j k who c) = not (eqb i j)
calm i (Beating x j) = true
calm i (Offering x j h) = true
calm i (Removing x removal) = true
calm i (Adding x j) = true
calm i (Dropping x j) = not (eqb i j)
calm i (Computing x edition digest excluded order mtu place l) = true
calm i (Arriving x k now l) = true
calm i (Saving x) = true
calm i (Restoring x k) = false

-- nor does any hub remove records
abbrev pub settled : (node : ℕ) (event : Event) → Bool
settled i (Writing x j k who c) = not (eqb i j)
settled i (Beating x j) = true
settled i (Offering x j h) = true
settled i (Removing x removal) = false
settled i (Adding x j) = true
settled i (Dropping x j) = not (eqb i j)
settled i (Computing x edition digest excluded order mtu place l) = true
settled i (Arriving x k now l) = true
settled i (Saving x) = true
settled i (Restoring x k) = false

unfoldable pub every : (test : Event → Bool) (events : List Event) → Bool
every test [] = true
every test (e ∷ es) = test e && every test es

-- at some moment of the run x hears y
pub record HearsIn (plan : Plan) (so : Net → Asked → Type 0) (x y : ℕ) (es : List Event) (w : Net) : Type 0 where
  pub before : List Event
  pub asked : Asked
  pub rest : List Event
  pub is : es ≡ before ++ (exchange_in asked x y (after plan before w) ++ rest)
  pub so_heard : so (after plan before w) asked

-- each hub hears each neighbour once, and of all else only what the test allows happens
pub record Round (plan : Plan) (test : Event → Bool) (so : (x y : ℕ) → Net → Asked → Type 0) (hears : (x y : ℕ) → Type 0) (es : List Event) (w : Net) : Type 0 where
  pub only : every test es ≡ true
  pub each : (x y : ℕ) → hears x y → HearsIn plan (so x y) x y es w

unfoldable pub after_all : (plan : Plan) (rounds : List (List Event)) (net : Net) → Net
after_all plan [] w = w
after_all plan (es ∷ ess) w = after_all plan ess (after plan es w)

unfoldable pub Rounds : (plan : Plan) (test : Event → Bool) (so : (x y : ℕ) → Net → Asked → Type 0) (hears : (x y : ℕ) → Type 0) (rounds : List (List Event)) (net : Net) → Type 0
Rounds plan test so hears [] w = Unit {0}
Rounds plan test so hears (es ∷ ess) w = Round plan test so hears es w × Rounds plan test so hears ess (after plan es w)

-- a way of k steps from the hub `from`
pub data Steps (hears : (x y : ℕ) → Type 0) (from : ℕ) : (k x : ℕ) → Type 0 where
  here_it_is : Steps hears from 0 from
  along : (k x y : ℕ) → hears x y → Steps hears from k y → Steps hears from (suc k) x

-- ---- the end

-- hub x has node i at its owner's max, and demand 3's claims hold between them
pub record Closed (plan : Plan) (i x : ℕ) (w : Net) : Type 0 where
  pub same_max : (p n : Node) → node_of i (w.hubs (plan.owner i)) ≡ some p → node_of i (w.hubs x) ≡ some n → n.max ≡ p.max
  pub claims : (p n : Node) → node_of i (w.hubs (plan.owner i)) ≡ some p → node_of i (w.hubs x) ≡ some n → Claims (w.given i) p n

-- the test of these ways is the least: what the safe step allows is let through. Plain and guarded tables have it, fenced ones do not
abbrev pub Least : Ways → Type 0
Least ways = (own_gc own_max gc m : ℕ) → own_gc ≤ max own_max (max gc m) → ways.fence own_gc own_max gc m ≡ false

-- ---- where only owners remove

-- no hub but the owner of node i removes records, and the owner is not restored
abbrev pub owner_removes : (plan : Plan) (node : ℕ) (event : Event) → Bool
owner_removes plan i (Writing x j k who c) = true
owner_removes plan i (Beating x j) = true
owner_removes plan i (Offering x j h) = true
owner_removes plan i (Removing x removal) = eqb x (plan.owner i)
owner_removes plan i (Adding x j) = true
owner_removes plan i (Dropping x j) = true
owner_removes plan i (Computing x edition digest excluded order mtu place l) = true
owner_removes plan i (Arriving x k now l) = true
owner_removes plan i (Saving x) = true
owner_removes plan i (Restoring x k) = not (eqb x (plan.owner i))

-- ---- static graphs

-- who computed each delta, the newest first; a refused call sends nothing
abbrev pub senders_after : (event : Event) (net : Net) (senders : List ℕ) → List ℕ
senders_after (Writing x i k who c) w s = s
senders_after (Beating x i) w s = s
senders_after (Offering x i h) w s = s
senders_after (Removing x removal) w s = s
senders_after (Adding x i) w s = s
senders_after (Dropping x i) w s = s
senders_after (Computing x edition digest excluded order mtu place l) w s = pick (wrote_delta (compute_by edition excluded order mtu place digest (w.hubs x) l).answer) (x ∷ s) s
senders_after (Arriving x k now l) w s = s
senders_after (Saving x) w s = s
senders_after (Restoring x k) w s = s

abbrev pub Neighbour : (hears : (x y : ℕ) → Type 0) (x : ℕ) (sender : Option ℕ) → Type 0
Neighbour hears x none = Unit {0}
Neighbour hears x (some y) = hears x y

-- a hub takes deltas, and parts of deltas, only of those that it hears, late and twice too; nobody removes node i, and no table is restored
abbrev pub LocalAt : (hears : (x y : ℕ) → Type 0) (node : ℕ) (event : Event) (senders : List ℕ) → Type 0
LocalAt hears i (Writing x j k who c) s = Unit {0}
LocalAt hears i (Beating x j) s = Unit {0}
LocalAt hears i (Offering x j h) s = Unit {0}
LocalAt hears i (Removing x removal) s = Unit {0}
LocalAt hears i (Adding x j) s = Unit {0}
LocalAt hears i (Dropping x j) s = j ≡ i → ⊥
LocalAt hears i (Computing x edition digest excluded order mtu place l) s = Unit {0}
LocalAt hears i (Arriving x k now l) s = Neighbour hears x (placed k.delta s)
LocalAt hears i (Saving x) s = Unit {0}
LocalAt hears i (Restoring x k) s = ⊥

unfoldable pub Local : (plan : Plan) (hears : (x y : ℕ) → Type 0) (node : ℕ) (events : List Event) (net : Net) (senders : List ℕ) → Type 0
Local plan hears i [] w s = Unit {0}
Local plan hears i (e ∷ es) w s = LocalAt hears i e s × Local plan hears i es (happen plan e w) (senders_after e w s)

unfoldable pub senders_in : (plan : Plan) (events : List Event) (net : Net) (senders : List ℕ) → List ℕ
senders_in plan [] w s = s
senders_in plan (e ∷ es) w s = senders_in plan es (happen plan e w) (senders_after e w s)

-- the rounds too
unfoldable pub LocalAll : (plan : Plan) (hears : (x y : ℕ) → Type 0) (node : ℕ) (rounds : List (List Event)) (net : Net) (senders : List ℕ) → Type 0
LocalAll plan hears i [] w s = Unit {0}
LocalAll plan hears i (es ∷ ess) w s = Local plan hears i es w s × LocalAll plan hears i ess (after plan es w) (senders_in plan es w s)

-- ---- graphs that change

-- a piece of a run, in which one hub hears another: who hears, who is heard, what happens
pub record Piece : Type 0 where
  pub hub : ℕ
  pub told : ℕ
  pub events : List Event

unfoldable pub runs_of : (pieces : List Piece) → List (List Event)
runs_of [] = []
runs_of (p ∷ ps) = p.events ∷ runs_of ps

-- in each piece its hub hears whom it names, uncut, at some moment, and of all else only what is calm happens
pub record Heeds (plan : Plan) (i : ℕ) (p : Piece) (w : Net) : Type 0 where
  pub only : every (calm i) p.events ≡ true
  pub hears : HearsIn plan (HeardWhole plan i p.hub p.told) p.hub p.told p.events w

unfoldable pub Pieces : (plan : Plan) (node : ℕ) (pieces : List Piece) (net : Net) → Type 0
Pieces plan i [] w = Unit {0}
Pieces plan i (p ∷ ps) w = Heeds plan i p w × Pieces plan i ps (after plan p.events w)

-- who is fed from this hub on: itself, and whoever hears twice, in any two pieces, a hub that was fed before
pub data Fed (from : ℕ) : (hub : ℕ) (pieces : List Piece) → Type 0 where
  itself : (ps : List Piece) → Fed from from ps
  by_two : (p q : Piece) (ps qs rs : List Piece) → Fed from p.told ps → q.hub ≡ p.hub → q.told ≡ p.told → Fed from p.hub (ps ++ (p ∷ qs ++ (q ∷ rs)))

-- ---- exchanges that cross

-- what y sends at one moment for the digest that x wrote at another
abbrev pub ops_across : (asked : Asked) (x y : ℕ) (digested computed : Net) → List Op
ops_across q x y u v = ops_by [] q.order q.mtu (digest_of [] (u.hubs x)) (v.hubs y)

-- Hub x wrote its digest at u, y computed for it at v, and of all deltas that were ever computed this one is now to arrive at x, in w. No call is refused and no node answers Room; if y was
-- ahead of what x told, of node i something comes over, uncut; and x's max of node i is not below what it told: x was not reset since, or is past that again.
pub record Across (plan : Plan) (i x y : ℕ) (u v w : Net) (q : Asked) (which : Which) : Type 0 where
  pub told : Node
  pub node : Node
  pub had : node_of i (u.hubs x) ≡ some told
  pub has : node_of i (w.hubs x) ≡ some node
  pub not-below : told.max ≤ node.max
  pub wrote : wrote_delta (compute_by q.edition [] q.order q.mtu q.place (digest_bytes q.edition (digest_of [] (u.hubs x))) (v.hubs y) q.datagram).answer ≡ true
  pub comes : arrives which w.sent ≡ DeltaSent (delta_bytes (ops_across q x y u v))
  pub clock : ltb q.now numbers ≡ true
  pub roomy : no_room (apply (plan.ways x) (delta_bytes (ops_across q x y u v)) q.now (w.hubs x) q.answers).answer
      (apply (plan.ways x) (delta_bytes (ops_across q x y u v)) q.now (w.hubs x) q.answers).list ≡ true
  pub brings : (m : Node) → node_of i (v.hubs y) ≡ some m → told.max < m.max → (d : NodeDelta) × PartIn (ops_across q x y u v) i d × (0 < d.max)
  pub uncut : (m : Node) → node_of i (v.hubs y) ≡ some m → (d : NodeDelta) → PartIn (ops_across q x y u v) i d → length d.recs ≡ length (stale d.from m.recs)

-- in this run such an exchange begins and ends; anything may happen between
pub record Crosses (plan : Plan) (i x y : ℕ) (es : List Event) (w : Net) : Type 0 where
  pub asked : Asked
  pub which : Which
  pub before : List Event
  pub waiting : List Event
  pub coming : List Event
  pub rest : List Event
  pub is : es ≡ before ++ (waiting ++ (coming ++ (Arriving x which asked.now asked.answers ∷ rest)))
  pub so_heard : Across plan i x y (after plan before w) (after plan waiting (after plan before w)) (after plan coming (after plan waiting (after plan before w))) asked which

-- Who is fed by a run from this net on, hub `from` being so: itself; whoever was before; and who has two such exchanges, one behind the other, with a hub that was fed before the first.
-- Exchanges with others may cross them.
pub data FedIn (plan : Plan) (i from : ℕ) (w : Net) : (hub : ℕ) (events : List Event) → Type 0 where
  from-here : (es : List Event) → FedIn plan i from w from es
  before_this : (x : ℕ) (es fs : List Event) → FedIn plan i from w x es → FedIn plan i from w x (es ++ fs)
  by_both : (x y : ℕ) (es fs gs : List Event)
      → FedIn plan i from w y es
      → Crosses plan i x y fs (after plan es w)
      → Crosses plan i x y gs (after plan fs (after plan es w))
      → FedIn plan i from w x (es ++ (fs ++ gs))

-- ---- the MTU from which nothing is cut

-- what these records take in a delta: each 14 bytes beside its key and value
unfoldable pub record_bytes : List Rec → ℕ
record_bytes [] = 0
record_bytes (r ∷ l) = beside_texts + length r.kv.key + length r.kv.value + record_bytes l

-- what a table takes at most: 34 bytes for each node (a Node and a SetMaxVersion), and its records
unfoldable pub weight : Table → ℕ
weight [] = 0
weight (e ∷ t) = 34 + record_bytes e.node.recs + weight t

-- the records of all nodes
unfoldable pub records_in : Table → ℕ
records_in [] = 0
records_in (e ∷ t) = length e.node.recs + records_in t

-- ---- of lent bytes

unfoldable pub lent_after_all : (owner : ℕ → ℕ) (rounds : List (List Event)) (net : LentNet) → LentNet
lent_after_all owner [] w = w
lent_after_all owner (es ∷ ess) w = lent_after_all owner ess (lent_after owner es w)
