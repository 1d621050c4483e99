-- Careful nets: every hub removes only carefully (ticket 12), and only while every other hub of the net is among its peers present, with rows that tell
-- nothing which the peer has not. Nobody restores a table or removes a node. Hubs may be of any kind, plain ones too, and every delta ever computed may come
-- to any of them, late, twice, in any order. What is claimed of such a net stands here; it is proved in proofs/Safe, of lent bytes in proofs/LentSafe. That a
-- row which a digest of the peer told, however old, tells nothing which the peer has not, is proved in proofs/Telling.
use Rattle.std.specs.Prelude.{ℕ, ◌≤◌, ◌≡◌, List, [], ◌∷◌, get_or}
use Rattle.std.proofs.Math.Option.{Option, none, some}
use Rattle.fields.specs.Choice.{◌∈◌}
use Rattle.rules.specs.Node.{Node}
use Rattle.rules.specs.Table.{Table, node_of}
use Rattle.rules.specs.Delta.{Op, Good, Part, parts_of, read_delta}
use Rattle.rules.specs.Apply.{apply_node}
use Rattle.rules.specs.Whole.{decode_whole}
use Rattle.rules.specs.Profile.{Kind}
use Rattle.rules.specs.declared.NodeAnswer.TheVariants as node
use Rattle.grid.specs.Grid.{Grid, columns, place_of}
use Rattle.grid.specs.GridLayout.{decode_grid}
use Rattle.demand3.specs.Forms.{ByClock, Carefully, Removal}
use Rattle.net.specs.Net.{Adding, Arriving, Beating, Computing, Dropping, Event, Net, NetSound, Offering, Plan, Removing, Restoring, Saving, Writing, after, begin, happen}
use Rattle.net.specs.LentNet.{LentSound, lent_after, lent_begin, plan_in}

-- ---- what a grid tells of a hub

-- the max of a node; 0 where it is not held
abbrev pub max_on : (held : Option Node) → ℕ
max_on none = 0
max_on (some n) = n.max

abbrev pub max_at : (number : ℕ) (table : Table) → ℕ
max_at i t = max_on (node_of i t)

-- the max that a peer told of a node
abbrev pub told_max : (peer number : ℕ) (grid : Grid) → ℕ
told_max p i g = get_or (get_or g.maxes p []) (place_of i (columns g)) 0

-- the hub of this table is one of the peers present, and has what its row says that it has
pub record ToldBy (table : Table) (grid : Grid) : Type 0 where
  pub peer : ℕ
  pub present : get_or grid.present peer 0 ≡ 1
  pub within : (i : ℕ) → told_max peer i grid ≤ max_at i table

-- ---- what may happen

-- a removal is careful, and every other hub of the net is present
abbrev pub CarefulOver : (members : List ℕ) (hub : ℕ) (removal : Removal) (net : Net) → Type 0
CarefulOver ms x (ByClock now grace) w = ⊥
CarefulOver ms x (Carefully grid now grace) w = (y : ℕ) → y ∈ ms → (y ≡ x → ⊥) → ToldBy (w.hubs y) (decode_grid grid)

abbrev pub CarefulEvent : (members : List ℕ) (event : Event) (net : Net) → Type 0
CarefulEvent ms (Writing x i k who c) w = x ∈ ms
CarefulEvent ms (Beating x i) w = x ∈ ms
CarefulEvent ms (Offering x i h) w = x ∈ ms
CarefulEvent ms (Removing x removal) w = (x ∈ ms) × CarefulOver ms x removal w
CarefulEvent ms (Adding x i) w = x ∈ ms
CarefulEvent ms (Dropping x i) w = ⊥
CarefulEvent ms (Computing x edition digest excluded order mtu place l) w = x ∈ ms
CarefulEvent ms (Arriving x k now l) w = x ∈ ms
CarefulEvent ms (Saving x) w = x ∈ ms
CarefulEvent ms (Restoring x k) w = ⊥

-- a run of the net in which it is always so
unfoldable pub CarefulRun : (plan : Plan) (members : List ℕ) (events : List Event) (net : Net) → Type 0
CarefulRun plan ms [] w = Unit {0}
CarefulRun plan ms (e ∷ es) w = CarefulEvent ms e w × CarefulRun plan ms es (happen plan e w)

-- ---- what is claimed

-- At every moment of such a run: demand 3's claims between each node's owner and every hub; no hub of the net is reset by anything that was ever computed; what
-- any hub has removed, every hub has seen; and no max falls.
pub record CarefulSafe (plan : Plan) (ms : List ℕ) : Type 0 where
  pub at_every_moment : (es : List Event) → CarefulRun plan ms es begin → NetSound plan (after plan es begin)
  pub never_reset : (es : List Event) → CarefulRun plan ms es begin
      → (b : List ℕ) → b ∈ (after plan es begin).sent
      → (ops : List Op) → read_delta b ≡ Good ops
      → (y : Part) → y ∈ parts_of ops
      → (x : ℕ) → x ∈ ms
      → (n : Node) → node_of y.number ((after plan es begin).hubs x) ≡ some n
      → (now : ℕ) → (apply_node (plan.ways x) now y.delta n).answer ≡ node.ApplyAfterReset → ⊥
  pub seen_by_all : (es : List Event) → CarefulRun plan ms es begin → (i x y : ℕ) → x ∈ ms → y ∈ ms
      → (n m : Node) → node_of i ((after plan es begin).hubs x) ≡ some n → node_of i ((after plan es begin).hubs y) ≡ some m
      → n.last_gc ≤ m.max
  pub maxes_rise : (es fs : List Event) → CarefulRun plan ms es begin → CarefulRun plan ms fs (after plan es begin) → (x i : ℕ)
      → max_at i ((after plan es begin).hubs x) ≤ max_at i ((after plan fs (after plan es begin)).hubs x)

-- The same of lent bytes: every event is what an entry point promises. The run is told by the tables that stand in the bytes.
pub record LentCarefulSafe (owner : ℕ → ℕ) (kinds : ℕ → Kind) (ms : List ℕ) : Type 0 where
  pub lent_at_every_moment : (es : List Event) → CarefulRun (plan_in owner kinds) ms es begin → LentSound owner kinds (lent_after owner es (lent_begin kinds))
  pub lent_same : (es : List Event) → CarefulRun (plan_in owner kinds) ms es begin → (x : ℕ)
      → (decode_whole ((lent_after owner es (lent_begin kinds)).hubs x)).table ≡ (after (plan_in owner kinds) es begin).hubs x
