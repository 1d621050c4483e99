-- A net in lent bytes: the bytes of every hub's table, and whatever the hubs' calls do to them. What happens is given by the definitions that the entry points
-- promise (Lent of `rules`) and by nothing else. The events are those of a net of tables (Net). Each table has a kind, a mode and a profile, chosen when it was made and
-- kept in its bytes; a delta that arrives is applied in the ways of that kind, and a write goes by its profile. The theorem is in proofs/LentNet.
use Rattle.std.specs.Prelude.{ℕ, ◌≡◌, true, List, [], ◌∷◌, eqb}
use Rattle.std.proofs.Math.Option.{Option, none, some}
use Rattle.fields.specs.Numbers.{Bytes}
use Rattle.fields.specs.Choice.{pick}
use Rattle.rules.specs.Node.{KeyValue}
use Rattle.rules.specs.Table.{Table, node_of}
use Rattle.rules.specs.Apply.{ways_in}
use Rattle.rules.specs.Whole.{decode_whole, valid_whole}
use Rattle.rules.specs.Lent.{lent_add, lent_remove_node, lent_call, lent_offer, lent_beat, lent_apply, lent_new}
use Rattle.rules.specs.Profile.{Kind}
use Rattle.std.specs.Prelude.{Err}
use Rattle.rules.specs.declared.Profile.{Profile}
use Rattle.rules.specs.declared.Refusal.{Refusal}
use Rattle.rules.specs.declared.Refusal.TheVariants.{NoPlace}
use Rattle.demand3.specs.Forms.{lent_compute_by, lent_removed_by}
use Rattle.demand3.specs.World.{Exchange, Idle, DigestSent, DeltaSent, Which, given_as, sent_after, arrives}
use Rattle.demand3.specs.Demand3.{AllRise}
use Rattle.net.specs.Net.{Plan, Net, NetSound, Event, Writing, Beating, Offering, Removing, Adding, Dropping, Computing, Arriving, Saving, Restoring, placed, possible, all_go_on}

-- The bytes of each hub's table; what the owner of each node gave to it so far, the newest first; the bytes of every delta that a hub ever computed; the
-- bytes of the tables that each hub saved, the newest first. No call looks at what was given.
pub record LentNet : Type 0 where
  pub hubs : ℕ → Bytes
  pub given : ℕ → List KeyValue
  pub sent : List Bytes
  pub saved : ℕ → List Bytes

-- new tables, each of its kind
abbrev pub lent_begin : (kinds : ℕ → Kind) → LentNet
lent_begin kinds = record { hubs = λ x. lent_new (kinds x); given = λ i. []; sent = []; saved = λ x. [] }

-- ---- the tables that stand in the bytes

unfoldable pub tables_of : List Bytes → List Table
tables_of [] = []
tables_of (l ∷ ls) = (decode_whole l).table ∷ tables_of ls

abbrev pub tables_in : (net : LentNet) → Net
tables_in w = record { hubs = λ x. (decode_whole (w.hubs x)).table; given = w.given; sent = w.sent; saved = λ x. tables_of (w.saved x) }

-- ---- what happens

-- the bytes of one hub's table are others
abbrev pub with_bytes : (hub : ℕ) (table : Bytes) (net : LentNet) → LentNet
with_bytes x l w = record { hubs = λ y. pick (eqb y x) l (w.hubs y); given = w.given; sent = w.sent; saved = w.saved }

-- only a delta
abbrev pub lent_taken : (now : ℕ) (answers : Bytes) (way : Exchange) (table : Bytes) → Bytes
lent_taken now answers Idle l = l
lent_taken now answers (DigestSent d) l = l
lent_taken now answers (DeltaSent b) l = (lent_apply b now answers l).lent.table

abbrev pub lent_restored : (old : Option Bytes) (table : Bytes) → Bytes
lent_restored none l = l
lent_restored (some old) l = old

-- what a write gives is told by the bytes that it finds
abbrev pub lent_calls : (event : Event) (net : LentNet) → LentNet
lent_calls (Writing x i k who c) w =
    record {
      hubs = λ y. pick (eqb y x) (lent_call who c i k (w.hubs x)).lent (w.hubs y);
      given = λ j. pick (eqb j i) (given_as (decode_whole (w.hubs x)).kind.profile who k c (node_of i (decode_whole (w.hubs x)).table) (w.given j)) (w.given j);
      sent = w.sent;
      saved = w.saved;
    }
lent_calls (Beating x i) w = with_bytes x (lent_beat i (w.hubs x)).lent w
lent_calls (Offering x i h) w = with_bytes x (lent_offer i h (w.hubs x)).lent w
lent_calls (Removing x removal) w = with_bytes x (lent_removed_by removal (w.hubs x)) w
lent_calls (Adding x i) w = with_bytes x (lent_add i (w.hubs x)).lent w
lent_calls (Dropping x i) w = with_bytes x (lent_remove_node i (w.hubs x)).lent w
lent_calls (Computing x edition digest excluded order mtu place d) w =
    record {
      hubs = w.hubs;
      given = w.given;
      sent = sent_after place (lent_compute_by edition excluded order mtu place digest d (w.hubs x)).lent (lent_compute_by edition excluded order mtu place digest d (w.hubs x)).answer w.sent;
      saved = w.saved;
    }
lent_calls (Arriving x k now answers) w = with_bytes x (lent_taken now answers (arrives k w.sent) (w.hubs x)) w
lent_calls (Saving x) w = record { hubs = w.hubs; given = w.given; sent = w.sent; saved = λ y. pick (eqb y x) (w.hubs x ∷ w.saved x) (w.saved y) }
lent_calls (Restoring x k) w = with_bytes x (lent_restored (placed k (w.saved x)) (w.hubs x)) w

-- an event that is not possible changes nothing
unfoldable pub lent_happen : (owner : ℕ → ℕ) (event : Event) (net : LentNet) → LentNet
lent_happen owner e w = pick (possible owner e (tables_in w)) (lent_calls e w) w

unfoldable pub lent_after : (owner : ℕ → ℕ) (events : List Event) (net : LentNet) → LentNet
lent_after owner [] w = w
lent_after owner (e ∷ es) w = lent_after owner es (lent_happen owner e w)

-- ---- what is claimed

-- whoever owns which node, and the ways and the profile of each hub's kind
abbrev pub plan_in : (owner : ℕ → ℕ) (kinds : ℕ → Kind) → Plan
plan_in owner kinds = record { owner = owner; ways = λ x. ways_in (kinds x); profiles = λ x. (kinds x).profile }

-- Where all hubs have one profile, no delta that was ever computed, in document 01's order or by a plan, and no part of one, is refused by any of them with 17: answer places (8) are all
-- that it may lack.
abbrev pub OneProfile : (kinds : ℕ → Kind) (net : LentNet) → Type 0
OneProfile kinds w = (p : Profile)
    → ((x : ℕ) → (kinds x).profile ≡ p)
    → (k : Which) (b : Bytes)
    → arrives k w.sent ≡ DeltaSent b
    → (x now : ℕ) (answers : Bytes) (why : Refusal) (at : ℕ)
    → (lent_apply b now answers (w.hubs x)).answer ≡ (Err (record { why = why; at = at }))
    → why ≡ NoPlace

-- every hub's bytes are a valid table (no call is answered 14) of the kind that it began with, and the tables are as claimed of a net
pub record LentSound (owner : ℕ → ℕ) (kinds : ℕ → Kind) (w : LentNet) : Type 0 where
  pub valid : (x : ℕ) → valid_whole (w.hubs x) ≡ true
  pub kind_stays : (x : ℕ) → (decode_whole (w.hubs x)).kind ≡ kinds x
  pub sound : NetSound (plan_in owner kinds) (tables_in w)
  pub one_profile : OneProfile kinds w

pub record LentSafe (owner : ℕ → ℕ) (kinds : ℕ → Kind) : Type 0 where
  pub at_every_moment : (es : List Event) → LentSound owner kinds (lent_after owner es (lent_begin kinds))
  pub between_moments : (es fs : List Event)
      → all_go_on fs ≡ true
      → (x : ℕ)
      → AllRise (decode_whole ((lent_after owner es (lent_begin kinds)).hubs x)).table (decode_whole ((lent_after owner fs (lent_after owner es (lent_begin kinds))).hubs x)).table
