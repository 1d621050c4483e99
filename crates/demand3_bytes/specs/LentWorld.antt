-- Demand 3's world in lent bytes: the bytes of a publisher's table and of a follower's, and whatever a hub's calls do to them. What happens is
-- given by the definitions that the entry points promise (Lent of `rules`) and by nothing else. The events are those of the world of tables
-- (World of `demand3`), and so is what is on its way and what was ever computed: there too it is bytes. Each table has a kind, a mode and a profile, chosen when it was made
-- and kept in its bytes; the follower applies in the ways of its own (Apply of `rules`), and deltas come late to it where they let them. The publisher writes by its own
-- profile: a write that this refuses (17, 18) is a call like any other; it leaves the bytes and gives nothing.
use Rattle.std.specs.Prelude.{ℕ, List, [], ◌∷◌, eqb}
use Rattle.fields.specs.Numbers.{Bytes}
use Rattle.fields.specs.Choice.{pick}
use Rattle.rules.specs.Node.{KeyValue}
use Rattle.rules.specs.Table.{Table, node_of}
use Rattle.rules.specs.Apply.{ways_in}
use Rattle.rules.specs.Profile.{Kind}
use Rattle.rules.specs.Whole.{encode_whole, decode_whole}
use Rattle.rules.specs.Lent.{lent_add, lent_call, lent_offer, lent_beat, lent_digest, lent_apply}
use Rattle.demand3.specs.Forms.{Order, lent_compute_by, lent_removed_by}
use Rattle.demand3.specs.World.{Exchange, Idle, DigestSent, DeltaSent, Side, Publishers, Followers, Event, Writing, Beating, Offering, Removing, Digesting, Computing, Applying, Receiving, Sending, Arriving, possible, given_as, after_digest, after_delta, sent_after, arrives, cut_by, fresh_table}

-- ---- the world

-- The bytes of the two tables; what the publisher gave so far, node by node, the newest first; the exchange; the bytes of every delta that was ever
-- computed, the newest first. No call looks at what was given.
pub record LentWorld : Type 0 where
  pub publisher : Bytes
  pub follower : Bytes
  pub given : ℕ → List KeyValue
  pub exchange : Exchange
  pub sent : List Bytes

-- the table that stands in bytes, and its kind
abbrev pub table_in : (table : Bytes) → Table
table_in l = (decode_whole l).table

abbrev pub kind_in : (table : Bytes) → Kind
kind_in l = (decode_whole l).kind

-- the bytes of a table of a kind, which remembers nothing: no node comes or goes here
abbrev pub of_kind : (kind : Kind) (table : Table) → Bytes
of_kind k t = encode_whole (record { kind = k; memory = []; table = t })

-- both tables fresh with the same nodes, each of its kind, and nothing given yet
unfoldable pub lent_start : (publishers followers : Kind) (numbers : List ℕ) → LentWorld
lent_start p f is = record { publisher = of_kind p (fresh_table is); follower = of_kind f (fresh_table is); given = λ i. []; exchange = Idle; sent = [] }

-- The bytes that adding these nodes one after the other leaves. So the start is made of new tables (proofs/Start).
unfoldable pub lent_adds : (numbers : List ℕ) (table : Bytes) → Bytes
lent_adds [] l = l
lent_adds (i ∷ is) l = lent_adds is (lent_add i l).lent

-- ---- what is on its way after a call

abbrev pub lent_digested : (edition : ℕ) (excluded : List ℕ) (place : ℕ) (datagram table : Bytes) (way : Exchange) → Exchange
lent_digested edition excluded place d l x = after_digest place (lent_digest edition excluded place d l).lent (lent_digest edition excluded place d l).answer x

-- only for a digest that is on its way
abbrev pub lent_computed : (edition : ℕ) (excluded : List ℕ) (order : Order) (mtu place : ℕ) (datagram table : Bytes) (way : Exchange) → Exchange
lent_computed edition excluded order mtu place d l Idle = Idle
lent_computed edition excluded order mtu place d l (DigestSent b) =
    after_delta place (lent_compute_by edition excluded order mtu place b d l).lent (lent_compute_by edition excluded order mtu place b d l).answer (DigestSent b)
lent_computed edition excluded order mtu place d l (DeltaSent b) = DeltaSent b

-- what was ever computed, for any bytes as a digest
abbrev pub lent_sent_for : (edition : ℕ) (digest : Bytes) (excluded : List ℕ) (order : Order) (mtu place : ℕ) (datagram table : Bytes) (sent : List Bytes) → List Bytes
lent_sent_for edition digest excluded order mtu place d l ss =
    sent_after place (lent_compute_by edition excluded order mtu place digest d l).lent (lent_compute_by edition excluded order mtu place digest d l).answer ss

-- for a digest that is on its way
abbrev pub lent_sent_on : (edition : ℕ) (excluded : List ℕ) (order : Order) (mtu place : ℕ) (datagram table : Bytes) (way : Exchange) (sent : List Bytes) → List Bytes
lent_sent_on edition excluded order mtu place d l Idle ss = ss
lent_sent_on edition excluded order mtu place d l (DigestSent b) ss = lent_sent_for edition b excluded order mtu place d l ss
lent_sent_on edition excluded order mtu place d l (DeltaSent b) ss = ss

-- only a delta that is on its way
abbrev pub lent_applied : (now : ℕ) (answers : Bytes) (way : Exchange) (table : Bytes) → Bytes
lent_applied now answers Idle l = l
lent_applied now answers (DigestSent b) l = l
lent_applied now answers (DeltaSent b) l = (lent_apply b now answers l).lent.table

-- ---- a run

-- a call that changes the bytes of one side's table
abbrev pub on_lent : (side : Side) (f : Bytes → Bytes) (world : LentWorld) → LentWorld
on_lent Publishers f w = record { publisher = f w.publisher; follower = w.follower; given = w.given; exchange = w.exchange; sent = w.sent }
on_lent Followers f w = record { publisher = w.publisher; follower = f w.follower; given = w.given; exchange = w.exchange; sent = w.sent }

abbrev pub on_way : (way : Exchange) (sent : List Bytes) (world : LentWorld) → LentWorld
on_way x ss w = record { publisher = w.publisher; follower = w.follower; given = w.given; exchange = x; sent = ss }

-- what a write gives is told by the bytes that it finds
abbrev pub lent_calls : (event : Event) (world : LentWorld) → LentWorld
lent_calls (Writing i k who c) w =
    record {
      publisher = (lent_call who c i k w.publisher).lent;
      follower = w.follower;
      given = λ j. pick (eqb j i) (given_as (kind_in w.publisher).profile who k c (node_of i (table_in w.publisher)) (w.given j)) (w.given j);
      exchange = w.exchange;
      sent = w.sent;
    }
lent_calls (Beating s i) w = on_lent s (λ l. (lent_beat i l).lent) w
lent_calls (Offering s i h) w = on_lent s (λ l. (lent_offer i h l).lent) w
lent_calls (Removing s removal) w = on_lent s (lent_removed_by removal) w
lent_calls (Digesting edition excluded place d) w = on_way (lent_digested edition excluded place d w.follower w.exchange) w.sent w
lent_calls (Computing edition excluded order mtu place d) w =
    on_way (lent_computed edition excluded order mtu place d w.publisher w.exchange) (lent_sent_on edition excluded order mtu place d w.publisher w.exchange w.sent) w
lent_calls (Applying now answers) w = on_lent Followers (lent_applied now answers w.exchange) w
lent_calls (Receiving cuts now answers) w = on_lent Followers (lent_applied now answers (cut_by cuts w.exchange)) w
lent_calls (Sending edition digest excluded order mtu place d) w = on_way w.exchange (lent_sent_for edition digest excluded order mtu place d w.publisher w.sent) w
lent_calls (Arriving k now answers) w = on_lent Followers (lent_applied now answers (arrives k w.sent)) w

-- the world after an event; one that is not possible changes nothing
unfoldable pub lent_happen : (event : Event) (world : LentWorld) → LentWorld
lent_happen e w = pick (possible (ways_in (kind_in w.follower)) e) (lent_calls e w) w

-- the world after a run
unfoldable pub lent_after : (events : List Event) (world : LentWorld) → LentWorld
lent_after [] w = w
lent_after (e ∷ es) w = lent_after es (lent_happen e w)
