-- What one party sees of the other (ticket 9): two runs from one shared table that agree on its own calls, on all removals, node and heartbeat changes and
-- clocks, and differ in the other's local writes and deletes, give its writes, deletes and reads the same answers, keys, values and statuses. No delta is
-- applied in a run. The calls are the rules' own, in the profile of the table. The theorem is in proofs/Runs.
use Rattle.std.specs.Prelude.{ℕ, ◌≡◌, Bool, true, false, List, [], ◌∷◌}
use Rattle.fields.specs.Numbers.{Bytes}
use Rattle.fields.specs.Choice.{pick, keep}
use Rattle.rules.specs.Answers.{Told, answer_told, offered_told, remembered_told}
use Rattle.rules.specs.Node.{Rec, Node, Call}
use Rattle.rules.specs.Table.{Table}
use Rattle.rules.specs.Party.{own, alone}
use Rattle.rules.specs.Memory.{heartbeat_of}
use Rattle.rules.specs.Whole.{Whole, with_table}
use Rattle.rules.specs.Local.{call_as, write_as, gc, offer, local_beat}
use Rattle.rules.specs.Lent.{add_whole, remove_whole, remembered_as}
use Rattle.rules.specs.declared.Heartbeat.{Heartbeat}
use Rattle.rules.specs.declared.Party.{Party}
use Rattle.rules.specs.declared.Party.TheVariants.{Metering, Building, Nobody}
use Rattle.rules.specs.declared.Profile.{Profile}
use Rattle.rules.specs.declared.Profile.TheVariants.{Shared}
use Rattle.rules.specs.Results.{done}

-- ---- what may happen between two deltas

-- `Ask` are the readings that a party may make
pub data Event (Ask : Type 0) : Type 0 where
  -- a party's write, by the number of the wanted status: wanted, value, clock, node, key
  Writing : Party → ℕ → List ℕ → ℕ → ℕ → List ℕ → Event Ask
  -- a party's set, set with TTL, delete or delete after TTL: node, key, the call with its value and clock
  Calling : Party → ℕ → List ℕ → Call → Event Ask
  -- a party's reading
  Asking : Party → Ask → Event Ask
  -- what is common: removal by the clock (now, grace), nodes that come and go, the memory of removed nodes, heartbeats
  Removing : ℕ → ℕ → Event Ask
  Adding : ℕ → Event Ask
  Dropping : ℕ → Event Ask
  Remembering : ℕ → Event Ask
  Offering : ℕ → Heartbeat → Event Ask
  Beating : ℕ → Event Ask

-- the table after it, in a profile
abbrev pub happen_as : {Ask : Type 0} (profile : Profile) (event : Event Ask) (whole : Whole) → Whole
happen_as f (Writing p wanted v now i k) w = with_table (write_as f p wanted v now i k w.table).table w
happen_as f (Calling p i k c) w = with_table (call_as f p c i k w.table).table w
happen_as f (Asking p q) w = w
happen_as f (Removing now grace) w = with_table (gc now grace w.table).table w
happen_as f (Adding i) w = (add_whole i w).lent
happen_as f (Dropping i) w = (remove_whole i w).lent
happen_as f (Remembering i) w = w
happen_as f (Offering i h) w = with_table (offer i h w.table).table w
happen_as f (Beating i) w = with_table (local_beat i w.table).table w

-- in the table's own
abbrev pub happen : {Ask : Type 0} (event : Event Ask) (whole : Whole) → Whole
happen e w = happen_as w.kind.profile e w

unfoldable pub after : {Ask : Type 0} (events : List (Event Ask)) (whole : Whole) → Whole
after [] w = w
after (e ∷ es) w = after es (happen e w)

-- ---- what is said to the caller: number and values, and the bytes that it gets to see. No version is among them, and no place in the table's bytes

pub record Said : Type 0 where
  pub told : Told
  pub texts : List Bytes

abbrev pub says : (told : Told) (texts : List Bytes) → Said
says t xs = record { told = t; texts = xs }

-- what is said of a table to a reading by a party
abbrev pub Telling : (Ask : Type 0) → Type 0
Telling Ask = (profile : Profile) (party : Party) (ask : Ask) (table : Table) → Said

abbrev pub said_as : {Ask : Type 0} (tells : Telling Ask) (profile : Profile) (event : Event Ask) (whole : Whole) → Said
said_as tells f (Writing p wanted v now i k) w = says (answer_told (write_as f p wanted v now i k w.table).answer) []
said_as tells f (Calling p i k c) w = says (answer_told (call_as f p c i k w.table).answer) []
said_as tells f (Asking p q) w = tells f p q w.table
said_as tells f (Removing now grace) w = says (answer_told done) []
said_as tells f (Adding i) w = says (answer_told (add_whole i w).answer) []
said_as tells f (Dropping i) w = says (answer_told (remove_whole i w).answer) []
said_as tells f (Remembering i) w = says (remembered_told (remembered_as (heartbeat_of i w.memory))) []
said_as tells f (Offering i h) w = says (offered_told (offer i h w.table).answer) []
said_as tells f (Beating i) w = says (answer_told (local_beat i w.table).answer) []

abbrev pub said : {Ask : Type 0} (tells : Telling Ask) (event : Event Ask) (whole : Whole) → Said
said tells e w = said_as tells w.kind.profile e w

-- ---- what concerns a party: its own calls and what is common

abbrev pub same_party : (p q : Party) → Bool
same_party Metering Metering = true
same_party Metering Building = false
same_party Metering Nobody = false
same_party Building Metering = false
same_party Building Building = true
same_party Building Nobody = false
same_party Nobody Metering = false
same_party Nobody Building = false
same_party Nobody Nobody = true

abbrev pub concerns : {Ask : Type 0} (party : Party) (event : Event Ask) → Bool
concerns p (Writing q wanted v now i k) = same_party p q
concerns p (Calling q i k c) = same_party p q
concerns p (Asking q x) = same_party p q
concerns p (Removing now grace) = true
concerns p (Adding i) = true
concerns p (Dropping i) = true
concerns p (Remembering i) = true
concerns p (Offering i h) = true
concerns p (Beating i) = true

-- a run without the other's calls
abbrev pub stripped : {Ask : Type 0} (party : Party) (events : List (Event Ask)) → List (Event Ask)
stripped p es = keep (concerns p) es

-- all that is said in a run to what concerns the party
unfoldable pub heard : {Ask : Type 0} (tells : Telling Ask) (party : Party) (events : List (Event Ask)) (whole : Whole) → List Said
heard tells p [] w = []
heard tells p (e ∷ es) w = pick (concerns p e) (said tells e w ∷ heard tells p es (happen e w)) (heard tells p es (happen e w))

-- None of the party's own writes and deletes is answered 6. (The ticket's "no number 6 is given" asks more: a 6 of the other's, or of a heartbeat, does no
-- harm.)
abbrev pub changes : {Ask : Type 0} (event : Event Ask) → Bool
changes (Writing q wanted v now i k) = true
changes (Calling q i k c) = true
changes (Asking q x) = false
changes (Removing now grace) = false
changes (Adding i) = false
changes (Dropping i) = false
changes (Remembering i) = false
changes (Offering i h) = false
changes (Beating i) = false

unfoldable pub Unspent : {Ask : Type 0} (tells : Telling Ask) (party : Party) (events : List (Event Ask)) (whole : Whole) → Type 0
Unspent tells p [] w = Unit {0}
Unspent tells p (e ∷ es) w = (concerns p e ≡ true → changes e ≡ true → (said tells e w).told.number ≡ 6 → ⊥) × Unspent tells p es (happen e w)

-- no call of a run is answered 6
unfoldable pub NoSix : {Ask : Type 0} (tells : Telling Ask) (events : List (Event Ask)) (whole : Whole) → Type 0
NoSix tells [] w = Unit {0}
NoSix tells (e ∷ es) w = ((said tells e w).told.number ≡ 6 → ⊥) × NoSix tells es (happen e w)

-- ---- what a party has

-- Its own records in key order, with key, value, status and start; and of each node the number and the heartbeat. Versions, max and last_gc are put to 0, and
-- no record of the other is there.

abbrev pub unversioned : (rec : Rec) → Rec
unversioned r = record { kv = record { key = r.kv.key; value = r.kv.value; version = 0; status = r.kv.status }; start = r.start }

unfoldable pub unversioned_each : (recs : List Rec) → List Rec
unversioned_each [] = []
unversioned_each (r ∷ l) = unversioned r ∷ unversioned_each l

abbrev pub versionless_node : (node : Node) → Node
versionless_node n = record { heartbeat = n.heartbeat; max = 0; last_gc = 0; recs = unversioned_each n.recs }

unfoldable pub versionless : (table : Table) → Table
versionless [] = []
versionless (e ∷ t) = record { number = e.number; node = versionless_node e.node } ∷ versionless t

-- with it the kind and the memory of removed nodes, which are common
abbrev pub view : (party : Party) (whole : Whole) → Whole
view p w = with_table (versionless (alone (own p) w.table)) w

-- A reading by a party says the same of a shared table and of what the party has of it. So it does where it is a reading of what the party sees (Party of
-- `rules`) that looks at no version, max or last_gc (proofs/Readings).
abbrev pub Blind : {Ask : Type 0} (tells : Telling Ask) → Type 0
Blind {Ask} tells = (p : Party) (q : Ask) (t : Table) → tells Shared p q (versionless (alone (own p) t)) ≡ tells Shared p q t

-- ---- a party alone: what its own and the common calls say, one after the other, on a table that has only what it has

unfoldable pub heard_alone : {Ask : Type 0} (tells : Telling Ask) (party : Party) (events : List (Event Ask)) (whole : Whole) → List Said
heard_alone tells p [] w = []
heard_alone tells p (e ∷ es) w = said tells e w ∷ heard_alone tells p es (view p (happen e w))

-- and what it has at the end
unfoldable pub after_alone : {Ask : Type 0} (party : Party) (events : List (Event Ask)) (whole : Whole) → Whole
after_alone p [] w = w
after_alone p (e ∷ es) w = after_alone p es (view p (happen e w))
