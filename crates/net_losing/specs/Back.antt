-- What does not come back: two sentences about a hub's table at two moments. That they hold, and of which nets, is proved in proofs/Back, proofs/TwoHubs and proofs/Uncut. For the
-- last of these, what a net is whose deltas are not cut.
use Rattle.std.specs.Prelude.{ℕ, ◌≤◌, ◌≡◌, List, [], ◌∷◌, length}
use Rattle.std.proofs.Math.Option.{some}
use Rattle.fields.specs.Choice.{◌∈◌}
use Rattle.rules.specs.Node.{KeyValue, Node}
use Rattle.rules.specs.Table.{Table, node_of}
use Rattle.rules.specs.Digest.{Entries, NodeDigest, read_digest}
use Rattle.rules.specs.Delta.{NodeDelta, parts_of}
use Rattle.rules.specs.Compute.{stale}
use Rattle.demand3.specs.Demand3.{Holds, Last, reach}
use Rattle.demand3.specs.Forms.{ops_by}
use Rattle.net.specs.Net.{Plan, Net, Event, Writing, Beating, Offering, Removing, Adding, Dropping, Computing, Arriving, Saving, Restoring, happen}

-- how far a node has got: the larger of its last_gc and its max
abbrev pub reached : (node : Node) → ℕ
reached n = reach n.last_gc n.max

-- Of node i, of which `given` was given so far: the table before had reached t, whatever it held then, and t is still the last that its key was given. Then the table
-- later holds t, or nothing of that key.
abbrev pub NeverBack : (number : ℕ) (given : List KeyValue) (before later : Table) → Type 0
NeverBack i h before later =
    (m n : Node) → node_of i before ≡ some m → node_of i later ≡ some n
    → (t : KeyValue) → t ∈ h → Last h t → t.version ≤ reached m
    → (s : KeyValue) → Holds n s → s.key ≡ t.key
    → s ≡ t

-- No key's version falls: what the table later holds of a key is not older than what the table before held, though it may have held nothing of it between.
abbrev pub NoKeyFalls : (before later : Table) → Type 0
NoKeyFalls before later =
    (i : ℕ) (m n : Node) → node_of i before ≡ some m → node_of i later ≡ some n
    → (s t : KeyValue) → Holds m s → Holds n t → t.key ≡ s.key
    → s.version ≤ t.version

-- ---- nets whose deltas are not cut

-- of a delta that is computed: of each node that it has all records above its from come over
abbrev pub UncutAt : (event : Event) (net : Net) → Type 0
UncutAt (Writing x i k who c) w = Unit {0}
UncutAt (Beating x i) w = Unit {0}
UncutAt (Offering x i h) w = Unit {0}
UncutAt (Removing x removal) w = Unit {0}
UncutAt (Adding x i) w = Unit {0}
UncutAt (Dropping x i) w = Unit {0}
UncutAt (Computing x edition digest excluded order mtu place l) w =
    (ds : List NodeDigest) (rest : List ℕ) → read_digest edition digest ≡ Entries ds rest
    → (i : ℕ) (d : NodeDelta) → record { number = i; delta = d } ∈ parts_of (ops_by excluded order mtu ds (w.hubs x))
    → (m : Node) → node_of i (w.hubs x) ≡ some m
    → length d.recs ≡ length (stale d.from m.recs)
UncutAt (Arriving x k now l) w = Unit {0}
UncutAt (Saving x) w = Unit {0}
UncutAt (Restoring x k) w = Unit {0}

unfoldable pub Uncut : (plan : Plan) (events : List Event) (net : Net) → Type 0
Uncut plan [] w = Unit {0}
Uncut plan (e ∷ es) w = UncutAt e w × Uncut plan es (happen plan e w)
