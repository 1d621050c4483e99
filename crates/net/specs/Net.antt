-- A net of hubs. Each node has an owner, the one hub that writes it; every other hub may follow it and pass on what it has. Deltas of all of them go to all
-- of them, late, twice or never, for any digest. Here are the net, what may happen in it, and what is claimed of it. Whatever happens is a call of
-- document 01, as `rules` defines it; each hub writes in a profile of its own (document 02, ticket 8). That the claims hold where no hub is plain is proved in proofs/Safe; that they fail of plain hubs in
-- proofs/Witnesses.
use Rattle.std.specs.Prelude.{ℕ, zero, suc, ◌≡◌, Bool, true, false, not, ◌&&◌, List, [], ◌∷◌, ltb, eqb}
use Rattle.std.proofs.Math.Option.{Option, none, some}
use Rattle.fields.specs.Numbers.{Bytes}
use Rattle.fields.specs.Choice.{◌∈◌, pick, all}
use Rattle.rules.specs.Sizes.{numbers}
use Rattle.rules.specs.Node.{KeyValue, Node, Call}
use Rattle.rules.specs.Table.{Entry, Table, node_of, obeys}
use Rattle.rules.specs.Local.{call_as, add, remove_node, offer, local_beat}
use Rattle.rules.specs.Delta.{Op, Good, Part, parts_of, read_delta}
use Rattle.rules.specs.Apply.{Ways, Lawful, taken_as, apply_node}
use Rattle.rules.specs.declared.Heartbeat.{Heartbeat}
use Rattle.rules.specs.declared.NodeAnswer.TheVariants as node
use Rattle.rules.specs.declared.Party.{Party}
use Rattle.rules.specs.declared.Profile.{Profile}
use Rattle.demand3.specs.Forms.{Order, Removal, removed_by}
use Rattle.demand3.specs.World.{Which, time_of, given_as, sent_for, arrives, applied_to}
use Rattle.demand3.specs.Demand3.{Claims, AllRise}

-- ---- the net

-- the hub that owns each node, the ways in which each hub applies deltas, and the profile in which it writes
pub record Plan : Type 0 where
  pub owner : ℕ → ℕ
  pub ways : ℕ → Ways
  pub profiles : ℕ → Profile

-- no hub is plain: each applies in lawful ways in which deltas may come late (fenced, guarded)
pub record Ready (plan : Plan) : Type 0 where
  pub lawful : (x : ℕ) → Lawful (plan.ways x)
  pub late : (x : ℕ) → (plan.ways x).late ≡ true

-- The table of each hub; what the owner of each node gave to it so far, the newest first; the bytes of every delta that a hub ever computed; the
-- tables that each hub saved, the newest first. No call looks at what was given.
pub record Net : Type 0 where
  pub hubs : ℕ → Table
  pub given : ℕ → List KeyValue
  pub sent : List Bytes
  pub saved : ℕ → List Table

-- no hub has a node yet
abbrev pub begin : Net
begin = record { hubs = λ x. []; given = λ i. []; sent = []; saved = λ x. [] }

-- ---- what may happen

-- the first number is the hub's
pub data Event : Type 0 where
  -- set, set with TTL, delete or delete after TTL, on a node that the hub owns: node, key, the call with its value and time
  Writing : ℕ → ℕ → List ℕ → Party → Call → Event
  -- a local beat, a heartbeat offer: node, and the heartbeat offered
  Beating : ℕ → ℕ → Event
  Offering : ℕ → ℕ → Heartbeat → Event
  -- removal over all nodes, of whatever kind
  Removing : ℕ → Removal → Event
  -- a node is added; a node that the hub does not own is removed, with all its records
  Adding : ℕ → ℕ → Event
  Dropping : ℕ → ℕ → Event
  -- a delta is computed for any bytes as a digest, read in any edition: the edition, those bytes, excluded nodes, the order, MTU, the place in the datagram,
  -- the datagram
  Computing : ℕ → ℕ → List ℕ → List ℕ → Order → ℕ → ℕ → List ℕ → Event
  -- a delta that any hub ever computed arrives, or a part of it that gateways cut, late or again: which, now, the lent list of answers
  Arriving : ℕ → Which → ℕ → List ℕ → Event
  -- the hub saves its table; it is restored from one that it saved, if no write of its own nodes is lost: which of them
  Saving : ℕ → Event
  Restoring : ℕ → ℕ → Event

-- the thing at this place of a list
unfoldable pub placed : {A : Type 0} (place : ℕ) (l : List A) → Option A
placed i [] = none
placed zero (a ∷ l) = some a
placed (suc i) (a ∷ l) = placed i l

-- every node that the hub owns has in the saved table the max that it has now
abbrev pub has_max : (max : ℕ) (held : Option Node) → Bool
has_max m none = false
has_max m (some n) = eqb n.max m

abbrev pub nothing_lost : (owner : ℕ → ℕ) (hub : ℕ) (table : Table) (old : Option Table) → Bool
nothing_lost owner x t none = true
nothing_lost owner x t (some old) = all (λ (e : Entry). pick (eqb (owner e.number) x) (has_max e.node.max (node_of e.number old)) true) t

-- only the owner writes, and it does not remove its node; numbers are of eight bytes
abbrev pub possible : (owner : ℕ → ℕ) (event : Event) (net : Net) → Bool
possible owner (Writing x i k who c) w = eqb (owner i) x && ltb (time_of c) numbers
possible owner (Beating x i) w = true
possible owner (Offering x i h) w = ltb h.0 numbers
possible owner (Removing x removal) w = true
possible owner (Adding x i) w = ltb i numbers
possible owner (Dropping x i) w = not (eqb (owner i) x)
possible owner (Computing x edition digest excluded order mtu place l) w = true
possible owner (Arriving x k now l) w = ltb now numbers
possible owner (Saving x) w = true
possible owner (Restoring x k) w = nothing_lost owner x (w.hubs x) (placed k (w.saved x))

-- ---- what happens then

-- the table of one hub is another
abbrev pub with_table : (hub : ℕ) (table : Table) (net : Net) → Net
with_table x t w = record { hubs = λ y. pick (eqb y x) t (w.hubs y); given = w.given; sent = w.sent; saved = w.saved }

abbrev pub restored : (old : Option Table) (table : Table) → Table
restored none t = t
restored (some old) t = old

-- a write that the hub's profile refuses (17, 18) changes nothing and gives nothing
abbrev pub calls : (plan : Plan) (event : Event) (net : Net) → Net
calls plan (Writing x i k who c) w =
    record {
      hubs = λ y. pick (eqb y x) (call_as (plan.profiles x) who c i k (w.hubs x)).table (w.hubs y);
      given = λ j. pick (eqb j i) (given_as (plan.profiles x) who k c (node_of i (w.hubs x)) (w.given j)) (w.given j);
      sent = w.sent;
      saved = w.saved;
    }
calls plan (Beating x i) w = with_table x (local_beat i (w.hubs x)).table w
calls plan (Offering x i h) w = with_table x (offer i h (w.hubs x)).table w
calls plan (Removing x removal) w = with_table x (removed_by removal (w.hubs x)) w
calls plan (Adding x i) w = with_table x (add i (w.hubs x)).table w
calls plan (Dropping x i) w = with_table x (remove_node i (w.hubs x)).table w
calls plan (Computing x edition digest excluded order mtu place l) w =
    record { hubs = w.hubs; given = w.given; sent = sent_for edition digest excluded order mtu place l (w.hubs x) w.sent; saved = w.saved }
calls plan (Arriving x k now l) w = with_table x (applied_to (plan.ways x) now l (arrives k w.sent) (w.hubs x)) w
calls plan (Saving x) w = record { hubs = w.hubs; given = w.given; sent = w.sent; saved = λ y. pick (eqb y x) (w.hubs x ∷ w.saved x) (w.saved y) }
calls plan (Restoring x k) w = with_table x (restored (placed k (w.saved x)) (w.hubs x)) w

-- an event that is not possible changes nothing
unfoldable pub happen : (plan : Plan) (event : Event) (net : Net) → Net
happen plan e w = pick (possible plan.owner e w) (calls plan e w) w

unfoldable pub after : (plan : Plan) (events : List Event) (net : Net) → Net
after plan [] w = w
after plan (e ∷ es) w = after plan es (happen plan e w)

-- ---- what is claimed

-- At a moment: every table obeys document 01's rules. Of each node demand 3's claims hold between its owner and every hub that has it: no hub's max
-- passes the owner's; where they are equal, both hold the same Set records, and every record of the hub carries the last version that its key was
-- given. And the owner rejects whatever was ever computed of its node, and stays as it is.
pub record NetSound (plan : Plan) (w : Net) : Type 0 where
  pub tables_obey : (x : ℕ) → obeys (w.hubs x) ≡ true
  pub claims : (i x : ℕ) (p n : Node) → node_of i (w.hubs (plan.owner i)) ≡ some p → node_of i (w.hubs x) ≡ some n → Claims (w.given i) p n
  pub owner_rejects : (b : List ℕ) → b ∈ w.sent
      → (ops : List Op) → read_delta b ≡ Good ops
      → (y : Part) → y ∈ parts_of ops
      → (p : Node) → node_of y.number (w.hubs (plan.owner y.number)) ≡ some p
      → (now : ℕ) → apply_node (plan.ways (plan.owner y.number)) now y.delta p ≡ taken_as node.Reject p

-- no table is restored, and no node removed
abbrev pub goes_on : (event : Event) → Bool
goes_on (Writing x i k who c) = true
goes_on (Beating x i) = true
goes_on (Offering x i h) = true
goes_on (Removing x removal) = true
goes_on (Adding x i) = true
goes_on (Dropping x i) = false
goes_on (Computing x edition digest excluded order mtu place l) = true
goes_on (Arriving x k now l) = true
goes_on (Saving x) = true
goes_on (Restoring x k) = false

unfoldable pub all_go_on : (events : List Event) → Bool
all_go_on [] = true
all_go_on (e ∷ es) = goes_on e && all_go_on es

-- At every moment of every run the claims hold; and between two moments no pair (last_gc, max) falls at any hub, if between them no table is
-- restored and no node removed.
pub record NetSafe (plan : Plan) : Type 0 where
  pub at_every_moment : (es : List Event) → NetSound plan (after plan es begin)
  pub between_moments : (es fs : List Event) → all_go_on fs ≡ true → (x : ℕ) → AllRise ((after plan es begin).hubs x) ((after plan fs (after plan es begin)).hubs x)
