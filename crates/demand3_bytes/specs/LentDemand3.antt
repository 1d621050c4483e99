-- Demand 3 of the calls on lent bytes. Every call is what an entry point promises of its lent memory, so this speaks of the code: the bytes of
-- the two tables at every moment of every run, and how many whole exchanges end it once it is quiet. A table is read in its bytes by `table_in`. The
-- theorem is in proofs/LentDemand3.
use Rattle.std.specs.Prelude.{ℕ, ◌+◌, ◌≤◌, ◌≡◌, Bool, true, false, ◌&&◌, List, [], ◌∷◌}
use Rattle.std.proofs.Math.Option.{some}
use Rattle.fields.specs.Numbers.{Bytes}
use Rattle.fields.specs.Choice.{pick}
use Rattle.rules.specs.Apply.{Ways, ways_in}
use Rattle.rules.specs.Delta.{read_delta}
use Rattle.rules.specs.Node.{Node}
use Rattle.rules.specs.Profile.{Kind}
use Rattle.rules.specs.Table.{node_of, numbers_of}
use Rattle.rules.specs.Whole.{valid_whole}
use Rattle.rules.specs.Lent.{lent_digest, lent_apply, lent_apply_as}
use Rattle.std.specs.Prelude.{Err}
use Rattle.rules.specs.declared.Refusal.{Refusal}
use Rattle.rules.specs.declared.Refusal.TheVariants.{NoPlace}
use Rattle.demand3.specs.Forms.{Order, lent_compute_by}
use Rattle.demand3.specs.World.{Exchange, Idle, DigestSent, DeltaSent, Event, Writing, Beating, Offering, Removing, Digesting, Computing, Applying, Receiving, Sending, Arriving, Which, arrives, possible}
use Rattle.demand3.specs.Demand3.{Claims, AllRise, Stage, NotBegun, all_quiet, unlimited, onward, ending, wrote_digest, wrote_delta, no_room, holdings, SameMax}
use Rattle.exchange_ask.specs.declared.Step.TheVariants as step
use Rattle.exchange.specs.Exchanging.{Lending, lent_exchange}
use Rattle.demand3_bytes.specs.LentWorld.{LentWorld, table_in, kind_in, lent_start, lent_happen, lent_after}

-- ---- the claims at a moment

-- Both byte strings are valid tables (no call is answered 14) with the nodes that they began with, and each node is as claimed.
pub record LentSound (is : List ℕ) (w : LentWorld) : Type 0 where
  pub publisher_valid : valid_whole w.publisher ≡ true
  pub follower_valid : valid_whole w.follower ≡ true
  pub publisher_nodes : numbers_of (table_in w.publisher) ≡ is
  pub follower_nodes : numbers_of (table_in w.follower) ≡ is
  pub claims : (i : ℕ) (p f : Node) → node_of i (table_in w.publisher) ≡ some p → node_of i (table_in w.follower) ≡ some f → Claims (w.given i) p f

-- ---- nothing refused, read off the answers of the calls on lent bytes

abbrev pub lent_is_computed : (edition : ℕ) (excluded : List ℕ) (order : Order) (mtu place : ℕ) (datagram table : Bytes) (way : Exchange) → Bool
lent_is_computed edition excluded order mtu place d l Idle = false
lent_is_computed edition excluded order mtu place d l (DigestSent b) = wrote_delta (lent_compute_by edition excluded order mtu place b d l).answer
lent_is_computed edition excluded order mtu place d l (DeltaSent b) = false

abbrev pub lent_is_applied : (now : ℕ) (answers table : Bytes) (way : Exchange) → Bool
lent_is_applied now answers l Idle = false
lent_is_applied now answers l (DigestSent b) = false
lent_is_applied now answers l (DeltaSent b) = no_room (lent_apply b now answers l).answer (lent_apply b now answers l).lent.list

-- whether a call of an exchange is made and not refused
abbrev pub lent_granted : (event : Event) (world : LentWorld) → Bool
lent_granted (Writing i k who c) w = true
lent_granted (Beating s i) w = true
lent_granted (Offering s i h) w = true
lent_granted (Removing s removal) w = true
lent_granted (Digesting edition excluded place d) w = wrote_digest (lent_digest edition excluded place d w.follower).answer
lent_granted (Computing edition excluded order mtu place d) w = lent_is_computed edition excluded order mtu place d w.publisher w.exchange
lent_granted (Applying now answers) w = possible (ways_in (kind_in w.follower)) (Applying now answers) && lent_is_applied now answers w.follower w.exchange
lent_granted (Receiving cuts now answers) w = true
lent_granted (Sending edition digest excluded order mtu place d) w = true
lent_granted (Arriving k now answers) w = true

-- the whole exchanges of a run (Demand3 of `demand3`), by the answers of these calls
unfoldable pub lent_wholes : (stage : Stage) (events : List Event) (world : LentWorld) → ℕ
lent_wholes st [] w = 0
lent_wholes st (e ∷ es) w =
    pick (unlimited e && lent_granted e w)
    (ending e st + lent_wholes (onward e st) es (lent_happen e w))
    (lent_wholes NotBegun es (lent_happen e w))

-- ---- the whole demand

-- Of the bytes of a publisher's table and a follower's that begin fresh with the nodes `is`, of the kinds p and f. At every moment of every run
-- of calls the claims hold; between any two moments no node's pair falls in either table; and when writes, deletes and removals cease after any
-- run, as many whole exchanges as the publisher then holds records and nodes make every max equal, whatever else happens. Where f's mode is fenced or guarded, every delta
-- that was ever computed may arrive at any moment and any number of times, within the counted exchanges too. The first two claims hold with the digest's
-- editions confused too: any bytes are a digest there, and may be read in either. A counted exchange uses one edition at both ends (Demand3 of `demand3`).
pub record LentDemand3 (p f : Kind) (is : List ℕ) : Type 0 where
  pub at_every_moment : (es : List Event) → LentSound is (lent_after es (lent_start p f is))
  pub between_moments : (es fs : List Event)
      → AllRise (table_in (lent_after es (lent_start p f is)).publisher) (table_in (lent_after fs (lent_after es (lent_start p f is))).publisher)
      × AllRise (table_in (lent_after es (lent_start p f is)).follower) (table_in (lent_after fs (lent_after es (lent_start p f is))).follower)
  pub closing_count : (es fs : List Event)
      → all_quiet fs ≡ true
      → holdings (table_in (lent_after es (lent_start p f is)).publisher) ≤ lent_wholes NotBegun fs (lent_after es (lent_start p f is))
      → SameMax (table_in (lent_after fs (lent_after es (lent_start p f is))).publisher) (table_in (lent_after fs (lent_after es (lent_start p f is))).follower)

-- ---- tables of one profile

-- the ways of a kind, but that every delta of document 01 is read
abbrev pub reading_all : (kind : Kind) → Ways
reading_all k = record { reads = read_delta; roomy = (ways_in k).roomy; fence = (ways_in k).fence; late = (ways_in k).late }

-- Where publisher and follower have the same profile, no delta that was ever computed, in document 01's order or by a plan, and no part of one that gateways cut, is refused with 17 or 19,
-- whenever it is applied: answer places (8) are all that it may lack, and applying it is what applying is where every record is in form. So whether an exchange counts does not hang
-- on forms. An exchange in one call is refused at its applying for answer places alone. A meter or shared follower of a free publisher is promised no such thing: there the count asks
-- that nothing be refused.
pub record LentOneProfile (p f : Kind) (is : List ℕ) : Type 0 where
  pub only-places : p.profile ≡ f.profile
      → (es : List Event) (k : Which) (b : Bytes)
      → arrives k (lent_after es (lent_start p f is)).sent ≡ DeltaSent b
      → (now : ℕ) (answers : Bytes) (why : Refusal) (at : ℕ)
      → (lent_apply b now answers (lent_after es (lent_start p f is)).follower).answer ≡ (Err (record { why = why; at = at }))
      → why ≡ NoPlace
  pub as-free : p.profile ≡ f.profile
      → (es : List Event) (k : Which) (b : Bytes)
      → arrives k (lent_after es (lent_start p f is)).sent ≡ DeltaSent b
      → (now : ℕ) (answers : Bytes)
      → lent_apply b now answers (lent_after es (lent_start p f is)).follower ≡ lent_apply_as (reading_all f) b now answers (lent_after es (lent_start p f is)).follower
  pub exchange_places : p.profile ≡ f.profile
      → (es : List Event) (g : Lending) (why : Refusal)
      → (lent_exchange g (lent_after es (lent_start p f is)).publisher (lent_after es (lent_start p f is)).follower).answer ≡ (Err (record { step = step.Applying; why = why }))
      → why ≡ NoPlace
