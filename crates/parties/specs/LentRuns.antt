-- The two runs of lent bytes: the calls are what the entry points promise (Lent of `rules`), one after the other on the bytes of a table, any bytes to begin
-- with. The events are those of tables (TwoRuns). The theorem is in proofs/LentRuns.
use Rattle.std.specs.Prelude.{◌≡◌, Bool, true, List, [], ◌∷◌, ltb}
use Rattle.fields.specs.Choice.{pick, all}
use Rattle.fields.specs.Numbers.{Bytes}
use Rattle.rules.specs.Sizes.{numbers}
use Rattle.rules.specs.Answers.{refused, answer_told, offered_told, remembered_told, listed_told}
use Rattle.rules.specs.Node.{Call, Setting, SettingTtl, Deleting, DeletingAfterTtl}
use Rattle.rules.specs.Whole.{Whole, decode_whole, encode_whole, obeys_whole, valid_whole}
use Rattle.rules.specs.Lent.{from_table, lent_add, lent_remove_node, lent_removed, lent_call, lent_write, lent_gc, lent_offer, lent_beat, lent_lookup, lent_prefixed}
use Rattle.rules.specs.declared.Party.{Party}
use Rattle.rules.specs.declared.Refusal.TheVariants.{BadTable}
use Rattle.parties.specs.Readings.{Reading, Lookup, Listing, Counting, RecordAt, RecordOf, found_said, reading_said}
use Rattle.parties.specs.TwoRuns.{Event, Writing, Calling, Asking, Removing, Adding, Dropping, Remembering, Offering, Beating, Said, says, Telling, concerns, changes, view}

-- the bytes after it
abbrev pub lent_happen : {Ask : Type 0} (event : Event Ask) (table : Bytes) → Bytes
lent_happen (Writing p wanted v now i k) l = (lent_write p wanted v now i k l).lent
lent_happen (Calling p i k c) l = (lent_call p c i k l).lent
lent_happen (Asking p q) l = l
lent_happen (Removing now grace) l = (lent_gc now grace l).lent
lent_happen (Adding i) l = (lent_add i l).lent
lent_happen (Dropping i) l = (lent_remove_node i l).lent
lent_happen (Remembering i) l = l
lent_happen (Offering i h) l = (lent_offer i h l).lent
lent_happen (Beating i) l = (lent_beat i l).lent

unfoldable pub lent_after : {Ask : Type 0} (events : List (Event Ask)) (table : Bytes) → Bytes
lent_after [] l = l
lent_after (e ∷ es) l = lent_after es (lent_happen e l)

-- what is said of lent bytes to a reading by a party
abbrev pub LentTelling : (Ask : Type 0) → Type 0
LentTelling Ask = (party : Party) (ask : Ask) (table : Bytes) → Said

-- it is what is said of the table that the bytes are, where they are one
abbrev pub Lends : {Ask : Type 0} (lent_tells : LentTelling Ask) (tells : Telling Ask) → Type 0
Lends {Ask} lent_tells tells = (p : Party) (q : Ask) (w : Whole) → obeys_whole w ≡ true → lent_tells p q (encode_whole w) ≡ tells w.kind.profile p q w.table

-- what is said to the caller
abbrev pub lent_said : {Ask : Type 0} (tells : LentTelling Ask) (event : Event Ask) (table : Bytes) → Said
lent_said tells (Writing p wanted v now i k) l = says (answer_told (lent_write p wanted v now i k l).answer) []
lent_said tells (Calling p i k c) l = says (answer_told (lent_call p c i k l).answer) []
lent_said tells (Asking p q) l = tells p q l
lent_said tells (Removing now grace) l = says (answer_told (lent_gc now grace l).answer) []
lent_said tells (Adding i) l = says (answer_told (lent_add i l).answer) []
lent_said tells (Dropping i) l = says (answer_told (lent_remove_node i l).answer) []
lent_said tells (Remembering i) l = says (remembered_told (lent_removed i l)) []
lent_said tells (Offering i h) l = says (offered_told (lent_offer i h l).answer) []
lent_said tells (Beating i) l = says (answer_told (lent_beat i l).answer) []

unfoldable pub lent_heard : {Ask : Type 0} (tells : LentTelling Ask) (party : Party) (events : List (Event Ask)) (table : Bytes) → List Said
lent_heard tells p [] l = []
lent_heard tells p (e ∷ es) l = pick (concerns p e) (lent_said tells e l ∷ lent_heard tells p es (lent_happen e l)) (lent_heard tells p es (lent_happen e l))

-- none of the party's own writes and deletes is answered 6
unfoldable pub LentUnspent : {Ask : Type 0} (tells : LentTelling Ask) (party : Party) (events : List (Event Ask)) (table : Bytes) → Type 0
LentUnspent tells p [] l = Unit {0}
LentUnspent tells p (e ∷ es) l = (concerns p e ≡ true → changes e ≡ true → (lent_said tells e l).told.number ≡ 6 → ⊥) × LentUnspent tells p es (lent_happen e l)

-- what the party has
abbrev pub lent_view : (party : Party) (table : Bytes) → Whole
lent_view p l = view p (decode_whole l)

-- what two runs from the same bytes have in common
pub record Alike {Ask : Type 0} (tells : LentTelling Ask) (p : Party) (es fs : List (Event Ask)) (l : Bytes) : Type 0 where
  pub hear : lent_heard tells p es l ≡ lent_heard tells p fs l
  pub have : lent_view p (lent_after es l) ≡ lent_view p (lent_after fs l)
  -- 14 is for both or for neither
  pub stand : valid_whole (lent_after es l) ≡ valid_whole (lent_after fs l)

-- times, new nodes and heartbeats are numbers of eight bytes, as code passes them
abbrev pub clock_fits : (call : Call) → Bool
clock_fits (Setting v) = true
clock_fits (SettingTtl v now) = ltb now numbers
clock_fits (Deleting now) = ltb now numbers
clock_fits (DeletingAfterTtl now) = ltb now numbers

abbrev pub event_fits : {Ask : Type 0} (event : Event Ask) → Bool
event_fits (Writing p wanted v now i k) = ltb now numbers
event_fits (Calling p i k c) = clock_fits c
event_fits (Asking p q) = true
event_fits (Removing now grace) = true
event_fits (Adding i) = ltb i numbers
event_fits (Dropping i) = true
event_fits (Remembering i) = true
event_fits (Offering i h) = ltb h.0 numbers
event_fits (Beating i) = true

abbrev pub all_fit : {Ask : Type 0} (events : List (Event Ask)) → Bool
all_fit es = all event_fits es

-- ---- the readings in the rules' own terms

abbrev pub lent_reading_said : (party : Party) (reading : Reading) (table : Bytes) → Said
lent_reading_said p (Lookup i k) l = found_said (lent_lookup p i k l)
lent_reading_said p (Listing i k list) l = says (listed_told (lent_prefixed p i k list l).answer) ((lent_prefixed p i k list l).lent ∷ [])
lent_reading_said p (Counting i) l = from_table (says (refused BadTable []) []) (reading_said (decode_whole l).kind.profile p (Counting i)) l
lent_reading_said p (RecordAt i j) l = from_table (says (refused BadTable []) []) (reading_said (decode_whole l).kind.profile p (RecordAt i j)) l
lent_reading_said p (RecordOf i k) l = from_table (says (refused BadTable []) []) (reading_said (decode_whole l).kind.profile p (RecordOf i k)) l
