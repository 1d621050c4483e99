-- Demand 3: what is claimed of the world at every moment of every run, and how many whole exchanges end it once it is quiet. The theorems that these
-- claims hold are in proofs/Demand3.
use Rattle.std.specs.Prelude.{ℕ, suc, max, ◌+◌, ◌≤◌, ◌<◌, ◌≡◌, ◌⊎◌, Bool, true, false, not, ◌&&◌, List, [], ◌∷◌, leb, eqb, length, take}
use Rattle.std.proofs.Math.Option.{some}
use Rattle.fields.specs.Numbers.{Bytes}
use Rattle.fields.specs.Choice.{◌∈◌, pick}
use Rattle.rules.specs.Answers.{code_of}
use Rattle.rules.specs.Node.{KeyValue, Rec, Node}
use Rattle.rules.specs.Table.{Table, node_of, numbers_of, among, obeys}
use Rattle.rules.specs.Digest.{write_digest}
use Rattle.rules.specs.Apply.{Ways, apply}
use Rattle.rules.specs.declared.Status.TheVariants.{Set}
use Rattle.rules.specs.declared.NodeAnswer.TheVariants as node
use Rattle.std.specs.Prelude.{Err, Ok, Result}
use Rattle.rules.specs.declared.DeltaFault.{DeltaFault}
use Rattle.rules.specs.declared.Refusal.{Refusal}
use Rattle.rules.specs.declared.Sent.{Sent}
use Rattle.demand3.specs.Forms.{Order, InLine, AsPlanned, compute_by}
use Rattle.demand3.specs.World.{World, Exchange, Idle, DigestSent, DeltaSent, Event, Writing, Beating, Offering, Removing, Digesting, Computing, Applying, Receiving, Sending, Arriving, possible, happen, after, start}

-- ---- the claims at a moment

-- the node holds a record with this key, value, version and status
abbrev pub Holds : (node : Node) (kv : KeyValue) → Type 0
Holds n s = (r : Rec) × (r ∈ n.recs) × (r.kv ≡ s)

-- no later version was given to its key
abbrev pub Last : (given : List KeyValue) (kv : KeyValue) → Type 0
Last h s = (t : KeyValue) → t ∈ h → t.key ≡ s.key → t.version ≤ s.version

-- Of which versions a node or a delta with this last_gc and this max knows: up to the larger of the two, for after a reset last_gc may exceed max. The
-- invariant that the claims rest on (proofs/Honest) says that an older record stands only where its key was given a version above this.
abbrev pub reach : (last_gc max : ℕ) → ℕ
reach g m = max g m

-- What is claimed of a node: p is the publisher's, which gave h so far, and f the follower's. The follower's max never passes the publisher's;
-- where they are equal, both hold the same Set records, and every record of the follower carries the last version that its key was given.
pub record Claims (h : List KeyValue) (p f : Node) : Type 0 where
  pub never_ahead : f.max ≤ p.max
  pub same_set : f.max ≡ p.max → (s : KeyValue) → s.status ≡ Set → (Holds p s → Holds f s) × (Holds f s → Holds p s)
  pub last_given : f.max ≡ p.max → (s : KeyValue) → Holds f s → (s ∈ h) × Last h s

-- What is claimed of the world: both tables hold the nodes that they began with and obey document 01's rules, and each node is as claimed.
pub record Sound (is : List ℕ) (w : World) : Type 0 where
  pub publisher_nodes : numbers_of w.publisher ≡ is
  pub follower_nodes : numbers_of w.follower ≡ is
  pub publisher_obeys : obeys w.publisher ≡ true
  pub follower_obeys : obeys w.follower ≡ true
  pub claims : (i : ℕ) (p f : Node) → node_of i w.publisher ≡ some p → node_of i w.follower ≡ some f → Claims (w.given i) p f

-- ---- the claim between two moments

-- the pair (last_gc, max) does not fall in lexicographic order
abbrev pub Rises : (before later : Node) → Type 0
Rises a b = (a.last_gc < b.last_gc) ⊎ ((a.last_gc ≡ b.last_gc) × (a.max ≤ b.max))

-- no node's pair falls from the one table to the other
abbrev pub AllRise : (before later : Table) → Type 0
AllRise t u = (i : ℕ) (a b : Node) → node_of i t ≡ some a → node_of i u ≡ some b → Rises a b

-- ---- the closing count

-- no write, no delete and no removal; beats, offers, exchanges and late deltas go on
abbrev pub quiet : (event : Event) → Bool
quiet (Writing i k who c) = false
quiet (Beating s i) = true
quiet (Offering s i h) = true
quiet (Removing s removal) = false
quiet (Digesting edition excluded place l) = true
quiet (Computing edition excluded order mtu place l) = true
quiet (Applying now l) = true
quiet (Receiving cuts now l) = true
quiet (Sending edition digest excluded order mtu place l) = true
quiet (Arriving k now l) = true

unfoldable pub all_quiet : (events : List Event) → Bool
all_quiet [] = true
all_quiet (e ∷ es) = quiet e && all_quiet es

-- the least MTU of the closing count: a Node and the largest record, 25 + 110 bytes
abbrev pub least_width : ℕ
least_width = 135

abbrev pub is_none : (excluded : List ℕ) → Bool
is_none [] = true
is_none (i ∷ is) = false

-- A computing whose exchange counts. In document 01's order no node is excluded, and the MTU is wide enough. A plan counts if it names a node: any MTU that it fits, any nodes
-- excluded from the delta.
abbrev pub wide_enough : (excluded : List ℕ) (order : Order) (mtu : ℕ) → Bool
wide_enough excluded (InLine ties) mtu = is_none excluded && leb least_width mtu
wide_enough excluded (AsPlanned nodes counts) mtu = not (is_none nodes)

-- no node is excluded from the digest, and the computing counts
abbrev pub unlimited : (event : Event) → Bool
unlimited (Writing i k who c) = true
unlimited (Beating s i) = true
unlimited (Offering s i h) = true
unlimited (Removing s removal) = true
unlimited (Digesting edition excluded place l) = is_none excluded
unlimited (Computing edition excluded order mtu place l) = wide_enough excluded order mtu
unlimited (Applying now l) = true
unlimited (Receiving cuts now l) = true
unlimited (Sending edition digest excluded order mtu place l) = true
unlimited (Arriving k now l) = true

-- Nothing refused, read off the answers: the three calls of an exchange give no number, and no node answers Room. A Reject is no refusal.
abbrev pub wrote_digest : (Result ℕ Refusal) → Bool
wrote_digest (Ok n) = true
wrote_digest (Err r) = false

abbrev pub wrote_delta : (Result Sent Refusal) → Bool
wrote_delta (Ok s) = true
wrote_delta (Err r) = false

-- the first n places of the list have the nodes' answers
abbrev pub no_room : (answer : (Result ℕ DeltaFault)) (list : Bytes) → Bool
no_room (Ok n) l = not (among (code_of node.Room) (take n l))
no_room (Err f) l = false

abbrev pub is_computed : (edition : ℕ) (excluded : List ℕ) (order : Order) (mtu place : ℕ) (datagram : Bytes) (table : Table) (way : Exchange) → Bool
is_computed edition excluded order mtu place l t Idle = false
is_computed edition excluded order mtu place l t (DigestSent d) = wrote_delta (compute_by edition excluded order mtu place d t l).answer
is_computed edition excluded order mtu place l t (DeltaSent b) = false

abbrev pub is_applied : (ways : Ways) (now : ℕ) (answers : Bytes) (table : Table) (way : Exchange) → Bool
is_applied ways now l t Idle = false
is_applied ways now l t (DigestSent d) = false
is_applied ways now l t (DeltaSent b) = no_room (apply ways b now t l).answer (apply ways b now t l).list

-- whether a call of an exchange is made and not refused
abbrev pub granted : (ways : Ways) (event : Event) (world : World) → Bool
granted ways (Writing i k who c) w = true
granted ways (Beating s i) w = true
granted ways (Offering s i h) w = true
granted ways (Removing s removal) w = true
granted ways (Digesting edition excluded place l) w = wrote_digest (write_digest edition excluded place w.follower l).answer
granted ways (Computing edition excluded order mtu place l) w = is_computed edition excluded order mtu place l w.publisher w.exchange
granted ways (Applying now l) w = possible ways (Applying now l) && is_applied ways now l w.follower w.exchange
granted ways (Receiving cuts now l) w = true
granted ways (Sending edition digest excluded order mtu place l) w = true
granted ways (Arriving k now l) w = true

-- A whole exchange is a digest, a delta and its applying, in this order, with no node excluded and an MTU of 135 or more, or by a plan that names a node; nothing lost and nothing
-- refused, and both ends use one edition: the delta is computed in the edition that the digest was written in. Beats, offers and late deltas may fall
-- between its steps. The stages: none has begun, its digest is written in an edition, its delta is computed.
pub data Stage : Type 0 where
  NotBegun : Stage
  Asked : ℕ → Stage
  Answered : Stage

-- where a call brings it that is unlimited and granted
abbrev pub onward : (event : Event) (stage : Stage) → Stage
onward (Writing i k who c) st = st
onward (Beating s i) st = st
onward (Offering s i h) st = st
onward (Removing s removal) st = st
onward (Digesting edition excluded place l) st = Asked edition
onward (Computing edition excluded order mtu place l) NotBegun = NotBegun
onward (Computing edition excluded order mtu place l) (Asked e) = pick (eqb e edition) Answered NotBegun
onward (Computing edition excluded order mtu place l) Answered = NotBegun
onward (Applying now l) st = NotBegun
onward (Receiving cuts now l) st = st
onward (Sending edition digest excluded order mtu place l) st = st
onward (Arriving k now l) st = st

-- the applying is its end; the same delta, applied again, counts no more
abbrev pub ending : (event : Event) (stage : Stage) → ℕ
ending (Writing i k who c) st = 0
ending (Beating s i) st = 0
ending (Offering s i h) st = 0
ending (Removing s removal) st = 0
ending (Digesting edition excluded place l) st = 0
ending (Computing edition excluded order mtu place l) st = 0
ending (Applying now l) NotBegun = 0
ending (Applying now l) (Asked edition) = 0
ending (Applying now l) Answered = 1
ending (Receiving cuts now l) st = 0
ending (Sending edition digest excluded order mtu place l) st = 0
ending (Arriving k now l) st = 0

-- the whole exchanges of a run; a step that is limited or refused ends its exchange uncounted
unfoldable pub wholes : (ways : Ways) (stage : Stage) (events : List Event) (world : World) → ℕ
wholes ways st [] w = 0
wholes ways st (e ∷ es) w =
    pick (unlimited e && granted ways e w)
    (ending e st + wholes ways (onward e st) es (happen ways e w))
    (wholes ways NotBegun es (happen ways e w))

-- what a table holds: records (tombstones and TTL records counted) and nodes together
unfoldable pub holdings : Table → ℕ
holdings [] = 0
holdings (e ∷ t) = suc (length e.node.recs) + holdings t

-- every node's max is the same in both tables
abbrev pub SameMax : (publisher follower : Table) → Type 0
SameMax t u = (i : ℕ) (a b : Node) → node_of i t ≡ some a → node_of i u ≡ some b → b.max ≡ a.max

-- ---- the whole demand

-- Of a publisher and a follower that begin fresh with the nodes `is`, the follower in these ways (document 01: `plain_ways`). At every moment of
-- every run the claims hold; between any two moments no node's pair falls in either table; and when writes, deletes and removals cease after any
-- run, as many whole exchanges as the publisher then holds records and nodes make every max equal, whatever else happens. The first two hold with
-- the digest's editions confused too: a digest may be written in one and read in the other. The count asks that both ends of an exchange use the same.
pub record Demand3 (ways : Ways) (is : List ℕ) : Type 0 where
  pub at_every_moment : (es : List Event) → Sound is (after ways es (start is))
  pub between_moments : (es fs : List Event)
      → AllRise (after ways es (start is)).publisher (after ways fs (after ways es (start is))).publisher
      × AllRise (after ways es (start is)).follower (after ways fs (after ways es (start is))).follower
  pub closing_count : (es fs : List Event)
      → all_quiet fs ≡ true
      → holdings (after ways es (start is)).publisher ≤ wholes ways NotBegun fs (after ways es (start is))
      → SameMax (after ways fs (after ways es (start is))).publisher (after ways fs (after ways es (start is))).follower
