-- A call of `exchange::exchange` as a run of the world of lent bytes, and many of them one after the other, among beats and offers. So demand 3 (LentDemand3) speaks of that
-- function; the theorems are in proofs/Runs and proofs/Closing.
use Rattle.std.specs.Prelude.{ℕ, suc, ◌≡◌, Bool, true, false, ◌&&◌, List, [], ◌∷◌, leb, ltb}
use Rattle.fields.specs.Numbers.{Bytes}
use Rattle.fields.specs.Choice.{pick}
use Rattle.rules.specs.Sizes.{numbers}
use Rattle.rules.specs.Given.{Given}
use Rattle.rules.specs.Lent.{lent_beat, lent_offer}
use Rattle.std.specs.Prelude.{Err, Ok, Result}
use Rattle.exchange.specs.declared.Exchanged.{Exchanged}
use Rattle.exchange_ask.specs.declared.Stopped.{Stopped}
use Rattle.rules.specs.declared.Heartbeat.{Heartbeat}
use Rattle.demand3.specs.Forms.{InLine}
use Rattle.demand3.specs.World.{Exchange, Event, Digesting, Computing, Applying, Side, Publishers, Followers}
use Rattle.demand3.specs.Demand3.{no_room, least_width, is_none}
use Rattle.exchange.specs.Exchanging.{Lending, ExchangeLent, lent_exchange}
use Rattle.demand3_bytes.specs.LentWorld.{LentWorld, lent_after}

-- ---- one call

-- its one edition is the digest's at both ends
abbrev pub events_of : (lending : Lending) → List Event
events_of g =
    Digesting g.edition g.unasked 0 g.digest
    ∷ Computing g.edition g.unsent (InLine g.ties) g.mtu 0 g.delta
    ∷ Applying g.clock g.answers
    ∷ []

-- where it is refused, nothing has happened
abbrev pub run_of : (lending : Lending) (answer : (Result Exchanged Stopped)) → List Event
run_of g (Ok x) = events_of g
run_of g (Err s) = []

-- the world after a call: only the follower's bytes, what is on its way and what was ever computed may be others
abbrev pub exchanged_to : (follower : Bytes) (exchange : Exchange) (sent : List Bytes) (world : LentWorld) → LentWorld
exchanged_to f x ss w = record { publisher = w.publisher; follower = f; given = w.given; exchange = x; sent = ss }

-- a call is a run
abbrev pub IsRun : (lending : Lending) (world : LentWorld) (outcome : Given (Result Exchanged Stopped) ExchangeLent) → Type 0
IsRun g w o = (x : Exchange) × (ss : List Bytes) × (lent_after (run_of g o.answer) w ≡ exchanged_to o.lent.follower x ss w)

-- nothing refused, read off the answer: no number, and no node answers Room
abbrev pub granted_as : (answer : (Result Exchanged Stopped)) (answers : Bytes) → Bool
granted_as (Ok x) l = no_room (Ok x.nodes) l
granted_as (Err s) l = false

abbrev pub is_granted : (outcome : Given (Result Exchanged Stopped) ExchangeLent) → Bool
is_granted o = granted_as o.answer o.lent.answers

-- ---- one after the other, among beats and offers

-- What goes on once writes, deletes and removals cease: calls of the exchange, and beats and offers on either side
pub data Act : Type 0 where
  Exchanges : Lending → Act
  Beats : Side → ℕ → Act
  Offers : Side → ℕ → Heartbeat → Act

-- the bytes of the two tables
pub record Hubs : Type 0 where
  pub publisher : Bytes
  pub follower : Bytes

abbrev pub hubs : (publisher follower : Bytes) → Hubs
hubs p f = record { publisher = p; follower = f }

abbrev pub on_hub : (side : Side) (f : Bytes → Bytes) (hubs : Hubs) → Hubs
on_hub Publishers f h = hubs (f h.publisher) h.follower
on_hub Followers f h = hubs h.publisher (f h.follower)

abbrev pub after_act : (act : Act) (hubs : Hubs) → Hubs
after_act (Exchanges g) h = hubs h.publisher (lent_exchange g h.publisher h.follower).lent.follower
after_act (Beats s i) h = on_hub s (λ l. (lent_beat i l).lent) h
after_act (Offers s i b) h = on_hub s (λ l. (lent_offer i b l).lent) h

unfoldable pub after_acts : (acts : List Act) (hubs : Hubs) → Hubs
after_acts [] h = h
after_acts (a ∷ acts) h = after_acts acts (after_act a h)

-- clocks and heartbeats are numbers of eight bytes, as they are in code
abbrev pub fits : (act : Act) → Bool
fits (Exchanges g) = ltb g.clock numbers
fits (Beats s i) = true
fits (Offers s i b) = ltb b.0 numbers

unfoldable pub all_fit : (acts : List Act) → Bool
all_fit [] = true
all_fit (a ∷ acts) = fits a && all_fit acts

-- a call of the exchange with no node excluded, an MTU of 135 or more, and nothing refused
abbrev pub is_whole : (act : Act) (hubs : Hubs) → Bool
is_whole (Exchanges g) h =
    (is_none g.unasked && (is_none g.unsent && leb least_width g.mtu)) && is_granted (lent_exchange g h.publisher h.follower)
is_whole (Beats s i) h = false
is_whole (Offers s i b) h = false

-- how many there are
unfoldable pub whole_calls : (acts : List Act) (hubs : Hubs) → ℕ
whole_calls [] h = 0
whole_calls (a ∷ acts) h = pick (is_whole a h) (suc (whole_calls acts (after_act a h))) (whole_calls acts (after_act a h))
