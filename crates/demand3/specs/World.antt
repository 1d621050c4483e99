-- Demand 3's world: a publisher's table and a follower's, all that may happen to them, and where their exchange stands. A run is a list of
-- events, and `after` gives the world after it. Whatever happens is a call of document 01 or 02, as `rules` and `plan` define it: local
-- calls and removal (Local), digest writing (Digest), computing (Compute, Plan), applying (Apply). Bytes go from one side to the other. `Ways` are the
-- follower's (Apply); document 01's are `plain_ways`.
use Rattle.std.specs.Prelude.{ℕ, zero, suc, ◌+◌, Bool, true, ◌&&◌, List, [], ◌∷◌, ltb, eqb, take, drop}
use Rattle.std.proofs.Math.Option.{Option, none, some}
use Rattle.fields.specs.Numbers.{Bytes}
use Rattle.fields.specs.Choice.{pick}
use Rattle.fields.specs.Parts.{part}
use Rattle.rules.specs.Sizes.{numbers}
use Rattle.rules.specs.Node.{KeyValue, Node, fresh, Change, Call, Setting, SettingTtl, Deleting, DeletingAfterTtl, Decision, Refuse, Leave, Give, decide}
use Rattle.rules.specs.Table.{Table, node_of, among}
use Rattle.rules.specs.Local.{call, offer, local_beat}
use Rattle.rules.specs.Digest.{write_digest}
use Rattle.rules.specs.Delta.{read_delta}
use Rattle.rules.specs.Apply.{Ways, apply}
use Rattle.rules.specs.Profile.{guard_in}
use Rattle.rules.specs.declared.Heartbeat.{Heartbeat}
use Rattle.rules.specs.declared.Party.{Party}
use Rattle.rules.specs.declared.Profile.{Profile}
use Rattle.rules.specs.declared.Refusal.{Refusal}
use Rattle.std.specs.Prelude.{Err, Ok, Result}
use Rattle.rules.specs.declared.Sent.{Sent}
use Rattle.delta_split.specs.Split.{cut_places}
use Rattle.demand3.specs.Forms.{Order, Removal, compute_by, removed_by}

-- ---- the world

-- where the exchange stands: nothing is on its way, the bytes of a digest are, or those of a delta
pub data Exchange : Type 0 where
  Idle : Exchange
  DigestSent : List ℕ → Exchange
  DeltaSent : List ℕ → Exchange

-- The two tables; what the publisher gave so far, node by node, the newest first: each version with its key, value and status; the exchange; and
-- the bytes of every delta that was ever computed, the newest first. No call looks at what was given; the claims are about it.
pub record World : Type 0 where
  pub publisher : Table
  pub follower : Table
  pub given : ℕ → List KeyValue
  pub exchange : Exchange
  pub sent : List Bytes

-- fresh nodes under these numbers
unfoldable pub fresh_table : List ℕ → Table
fresh_table [] = []
fresh_table (i ∷ is) = record { number = i; node = fresh } ∷ fresh_table is

-- both tables fresh with the same nodes, and nothing given yet
unfoldable pub start : (numbers : List ℕ) → World
start is = record { publisher = fresh_table is; follower = fresh_table is; given = λ i. []; exchange = Idle; sent = [] }

-- ---- what may happen

pub data Side : Type 0 where
  Publishers : Side
  Followers : Side

-- A gateway cuts a delta at the start of a Node operation (document 02, ticket 14), at this place of its bytes, and one part goes on: what stands before it, or what stands from
-- it on.
pub data Cut : Type 0 where
  Before : ℕ → Cut
  From : ℕ → Cut

-- what arrives of all deltas that were ever computed: one of them, the newest being 0, and how gateways cut it, one after the other; without a cut it comes whole
pub record Which : Type 0 where
  pub delta : ℕ
  pub cuts : List Cut

abbrev pub intact : ℕ → Which
intact k = record { delta = k; cuts = [] }

pub data Event : Type 0 where
  -- set, set with TTL, delete or delete after TTL on the publisher: node, key, the party that a shared table looks at, the call with its value and time
  Writing : ℕ → List ℕ → Party → Call → Event
  -- a local beat, a heartbeat offer: node, and the heartbeat offered
  Beating : Side → ℕ → Event
  Offering : Side → ℕ → Heartbeat → Event
  -- removal over all nodes, of whatever kind
  Removing : Side → Removal → Event
  -- The follower writes a digest: edition, excluded nodes, place in the datagram, datagram. Once written it replaces what was on its way; refused, it ends
  -- nothing.
  Digesting : ℕ → List ℕ → ℕ → List ℕ → Event
  -- the publisher computes a delta for the digest on its way, which it reads in any edition: the edition, excluded nodes, the order, MTU, the place in the
  -- datagram, the datagram
  Computing : ℕ → List ℕ → Order → ℕ → ℕ → List ℕ → Event
  -- the follower applies the delta on its way, and may apply it again: now, the lent list of answers
  Applying : ℕ → List ℕ → Event
  -- a part of it arrives, in any order with the others, again or never, and is applied: the cuts, now, the lent list of answers
  Receiving : List Cut → ℕ → List ℕ → Event
  -- the publisher computes a delta for any bytes as a digest, late or forged ones too, beside the exchange: the edition, those bytes, excluded nodes,
  -- the order, MTU, the place in the datagram, the datagram
  Sending : ℕ → List ℕ → List ℕ → Order → ℕ → ℕ → List ℕ → Event
  -- a delta that was ever computed arrives at the follower, or a part of it, late or again: which, now, the lent list of answers
  Arriving : Which → ℕ → List ℕ → Event

-- the time that a call brings
abbrev pub time_of : Call → ℕ
time_of (Setting v) = 0
time_of (SettingTtl v now) = now
time_of (Deleting now) = now
time_of (DeletingAfterTtl now) = now

-- Times and heartbeats are numbers of eight bytes: with another there is no such call. Deltas come late only where the follower's ways say so.
abbrev pub possible : (ways : Ways) (event : Event) → Bool
possible ways (Writing i k who c) = ltb (time_of c) numbers
possible ways (Beating s i) = true
possible ways (Offering s i h) = ltb h.0 numbers
possible ways (Removing s removal) = true
possible ways (Digesting edition excluded place l) = true
possible ways (Computing edition excluded order mtu place l) = true
possible ways (Applying now l) = ltb now numbers
possible ways (Receiving cuts now l) = ltb now numbers
possible ways (Sending edition digest excluded order mtu place l) = true
possible ways (Arriving k now l) = ways.late && ltb now numbers

-- ---- what a call gives to its key

-- the version that a change gives, with its key, value and status
abbrev pub given_by : (key : Bytes) (change : Change) (node : Node) → KeyValue
given_by k c n = record { key = k; value = c.value; version = n.max + 1; status = c.status }

-- a refused call and one that has nothing to change give none
abbrev pub given_after : (key : Bytes) (decision : Decision) (node : Node) (given : List KeyValue) → List KeyValue
given_after k (Refuse r) n h = h
given_after k Leave n h = h
given_after k (Give c) n h = given_by k c n ∷ h

abbrev pub given_in : (key : Bytes) (call : Call) (held : Option Node) (given : List KeyValue) → List KeyValue
given_in k c none h = h
given_in k c (some n) h = given_after k (decide c k n) n h

-- a call that the profile of the table refuses (17, 18, 19, or 5 by party) gives none either; so it is in lent bytes and in nets
abbrev pub unless_refused : (refused : Option Refusal) (after before : List KeyValue) → List KeyValue
unless_refused none g h = g
unless_refused (some r) g h = h

abbrev pub given_as : (profile : Profile) (party : Party) (key : Bytes) (call : Call) (held : Option Node) (given : List KeyValue) → List KeyValue
given_as p q k c o h = unless_refused (guard_in p q c k o) (given_in k c o h) h

-- ---- what is on its way after a call; a refused one sends nothing, and what was on its way stays

-- a digest of so many bytes from its place on
abbrev pub after_digest : (place : ℕ) (datagram : Bytes) (answer : (Result ℕ Refusal)) (way : Exchange) → Exchange
after_digest place l (Ok n) x = DigestSent (part place n l)
after_digest place l (Err r) x = x

abbrev pub after_delta : (place : ℕ) (datagram : Bytes) (answer : (Result Sent Refusal)) (way : Exchange) → Exchange
after_delta place l (Ok s) x = DeltaSent (part place s.bytes l)
after_delta place l (Err r) x = x

abbrev pub digested : (edition : ℕ) (excluded : List ℕ) (place : ℕ) (datagram : Bytes) (table : Table) (way : Exchange) → Exchange
digested edition excluded place l t x = after_digest place (write_digest edition excluded place t l).lent (write_digest edition excluded place t l).answer x

-- only for a digest that is on its way
abbrev pub computed_for : (edition : ℕ) (excluded : List ℕ) (order : Order) (mtu place : ℕ) (datagram : Bytes) (table : Table) (way : Exchange) → Exchange
computed_for edition excluded order mtu place l t Idle = Idle
computed_for edition excluded order mtu place l t (DigestSent d) =
    after_delta place (compute_by edition excluded order mtu place d t l).lent (compute_by edition excluded order mtu place d t l).answer (DigestSent d)
computed_for edition excluded order mtu place l t (DeltaSent b) = DeltaSent b

-- what was ever computed, when a call has computed one more
abbrev pub sent_after : (place : ℕ) (datagram : Bytes) (answer : (Result Sent Refusal)) (sent : List Bytes) → List Bytes
sent_after place l (Ok s) ss = part place s.bytes l ∷ ss
sent_after place l (Err r) ss = ss

abbrev pub sent_for : (edition : ℕ) (digest : Bytes) (excluded : List ℕ) (order : Order) (mtu place : ℕ) (datagram : Bytes) (table : Table) (sent : List Bytes) → List Bytes
sent_for edition digest excluded order mtu place l t ss =
    sent_after place (compute_by edition excluded order mtu place digest t l).lent (compute_by edition excluded order mtu place digest t l).answer ss

-- for a digest that is on its way
abbrev pub sent_on : (edition : ℕ) (excluded : List ℕ) (order : Order) (mtu place : ℕ) (datagram : Bytes) (table : Table) (way : Exchange) (sent : List Bytes) → List Bytes
sent_on edition excluded order mtu place l t Idle ss = ss
sent_on edition excluded order mtu place l t (DigestSent d) ss = sent_for edition d excluded order mtu place l t ss
sent_on edition excluded order mtu place l t (DeltaSent b) ss = ss

-- the delta of this place among all of them, as if it were on its way
unfoldable pub nth_sent : (place : ℕ) (sent : List Bytes) → Exchange
nth_sent k [] = Idle
nth_sent zero (b ∷ ss) = DeltaSent b
nth_sent (suc k) (b ∷ ss) = nth_sent k ss

-- what goes on of it behind a gateway; where no Node operation starts there is no such part, and nothing goes on
abbrev pub cut_at : (cut : Cut) (way : Exchange) → Exchange
cut_at c Idle = Idle
cut_at c (DigestSent d) = DigestSent d
cut_at (Before at) (DeltaSent b) = pick (among at (cut_places (read_delta b))) (DeltaSent (take at b)) Idle
cut_at (From at) (DeltaSent b) = pick (among at (cut_places (read_delta b))) (DeltaSent (drop at b)) Idle

unfoldable pub cut_by : (cuts : List Cut) (way : Exchange) → Exchange
cut_by [] x = x
cut_by (c ∷ cs) x = cut_by cs (cut_at c x)

-- what arrives, as if it were on its way
abbrev pub arrives : (which : Which) (sent : List Bytes) → Exchange
arrives k ss = cut_by k.cuts (nth_sent k.delta ss)

-- only a delta that is on its way
abbrev pub applied_to : (ways : Ways) (now : ℕ) (answers : Bytes) (way : Exchange) (table : Table) → Table
applied_to ways now l Idle t = t
applied_to ways now l (DigestSent d) t = t
applied_to ways now l (DeltaSent b) t = (apply ways b now t l).table

-- ---- a run

-- a call that changes the table of one side
abbrev pub on_side : (side : Side) (f : Table → Table) (world : World) → World
on_side Publishers f w = record { publisher = f w.publisher; follower = w.follower; given = w.given; exchange = w.exchange; sent = w.sent }
on_side Followers f w = record { publisher = w.publisher; follower = f w.follower; given = w.given; exchange = w.exchange; sent = w.sent }

abbrev pub on_exchange : (way : Exchange) (world : World) → World
on_exchange x w = record { publisher = w.publisher; follower = w.follower; given = w.given; exchange = x; sent = w.sent }

abbrev pub on_sent : (sent : List Bytes) (world : World) → World
on_sent ss w = record { publisher = w.publisher; follower = w.follower; given = w.given; exchange = w.exchange; sent = ss }

abbrev pub calls : (ways : Ways) (event : Event) (world : World) → World
calls ways (Writing i k who c) w =
    record {
      publisher = (call c i k w.publisher).table;
      follower = w.follower;
      given = λ j. pick (eqb j i) (given_in k c (node_of i w.publisher) (w.given j)) (w.given j);
      exchange = w.exchange;
      sent = w.sent;
    }
calls ways (Beating s i) w = on_side s (λ t. (local_beat i t).table) w
calls ways (Offering s i h) w = on_side s (λ t. (offer i h t).table) w
calls ways (Removing s removal) w = on_side s (removed_by removal) w
calls ways (Digesting edition excluded place l) w = on_exchange (digested edition excluded place l w.follower w.exchange) w
calls ways (Computing edition excluded order mtu place l) w =
    on_exchange (computed_for edition excluded order mtu place l w.publisher w.exchange) (on_sent (sent_on edition excluded order mtu place l w.publisher w.exchange w.sent) w)
calls ways (Applying now l) w = on_side Followers (applied_to ways now l w.exchange) w
calls ways (Receiving cuts now l) w = on_side Followers (applied_to ways now l (cut_by cuts w.exchange)) w
calls ways (Sending edition digest excluded order mtu place l) w = on_sent (sent_for edition digest excluded order mtu place l w.publisher w.sent) w
calls ways (Arriving k now l) w = on_side Followers (applied_to ways now l (arrives k w.sent)) w

-- the world after an event; one that is not possible changes nothing
unfoldable pub happen : (ways : Ways) (event : Event) (world : World) → World
happen ways e w = pick (possible ways e) (calls ways e w) w

-- the world after a run
unfoldable pub after : (ways : Ways) (events : List Event) (world : World) → World
after ways [] w = w
after ways (e ∷ es) w = after ways es (happen ways e w)
