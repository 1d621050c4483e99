-- The two runs of the calls as they are linked: each step of a run is a call of an entry point (`demand1: Calls`), lent the bytes that the step before it left.
-- `step_of` says what event of the two runs a call is; the calls of digests, deltas, exchanges, grids and overrides are none, nor is the call that tells the
-- front, which is an address. The theorem is in proofs/Calls.
use Rattle.std.specs.Prelude.{ℕ, ◌≡◌, true, List, [], ◌∷◌, set, take}
use Rattle.std.proofs.Math.Option.{Option, none, some}
use Rattle.fields.specs.Choice.{pick}
use Rattle.fields.specs.Numbers.{Bytes}
use Rattle.rules.specs.Answers.{Told}
use Rattle.rules.specs.Node.{Deleting, DeletingAfterTtl, beats}
use Rattle.rules.specs.declared.Party.{Party}
use Rattle.demand1.specs.Calls as calls
use Rattle.demand1.specs.Calls.{Call, Kind, leaves}
use Rattle.parties.specs.TwoRuns.{Event, Writing, Calling, Asking, Removing, Adding, Dropping, Remembering, Offering, Beating, concerns, changes}
use Rattle.parties.specs.LentRuns.{event_fits, lent_happen, lent_said}
use Rattle.parties_calls.specs.Linked.{Asked, lent_asked, Find, ListPrefix, RecordCount, RecordAt, RecordOf, RecordByKey, NodeRows, PrefixRows, FindText, FindOver, ListOver, NodeCount, NodeNumber, Heartbeat}

-- a call: the table that is lent to it, what it is in the two runs, what it tells, and the table afterwards
pub record Step : Type 0 where
  pub table : Bytes
  pub event : Event Asked
  pub told : Told
  pub after : Bytes

-- what is lent first
abbrev pub first_of : (lent : List Bytes) → Bytes
first_of [] = []
first_of (l ∷ ls) = l

-- some of what is told
abbrev pub told_by : (left : List ℕ → List ℕ) (told : Told) → Told
told_by left t = record { number = t.number; values = left t.values; need = t.need }

abbrev pub step_as : {k : Kind} (table : Bytes) (call : Call k) (event : Event Asked) (left : List ℕ → List ℕ) → Option Step
step_as t c e left = some (record { table = t; event = e; told = told_by left (leaves c).answer; after = first_of (leaves c).lent })

-- all that it tells
abbrev pub all_of : (values : List ℕ) → List ℕ
all_of vs = vs

-- a record's values but for its version, which stands behind two places and two lengths
abbrev pub but_version : (values : List ℕ) → List ℕ
but_version vs = set vs 4 0

-- of a header the heartbeat, which stands first
abbrev pub beat_of : (values : List ℕ) → List ℕ
beat_of vs = take 1 vs

-- what names no party is read by the given one
unfoldable pub step_of : (party : Party) {k : Kind} (call : Call k) → Option Step
step_of p (calls.new-table t m f) = none
step_of p (calls.add-node t i) = step_as t (calls.add-node t i) (Adding i.value) all_of
step_of p (calls.remove-node t i) = step_as t (calls.remove-node t i) (Dropping i.value) all_of
step_of p (calls.last-heartbeat t i) = step_as t (calls.last-heartbeat t i) (Remembering i.value) all_of
step_of p (calls.write t k v i wanted now q) = step_as t (calls.write t k v i wanted now q) (Writing q wanted.value v now.value i.value k) all_of
step_of p (calls.delete t k i now q) = step_as t (calls.delete t k i now q) (Calling q i.value k (Deleting now.value)) all_of
step_of p (calls.delete-after-ttl t k i now q) = step_as t (calls.delete-after-ttl t k i now q) (Calling q i.value k (DeletingAfterTtl now.value)) all_of
step_of p (calls.remove-scheduled t now grace) = step_as t (calls.remove-scheduled t now grace) (Removing now.value grace.value) all_of
step_of p (calls.offer-heartbeat t i h) = step_as t (calls.offer-heartbeat t i h) (Offering i.value (beats h.value)) all_of
step_of p (calls.local-beat t i) = step_as t (calls.local-beat t i) (Beating i.value) all_of
step_of p (calls.find t k i q) = step_as t (calls.find t k i q) (Asking q (Find i.value k)) all_of
step_of p (calls.list-prefix t k out i q) = step_as t (calls.list-prefix t k out i q) (Asking q (ListPrefix i.value k out)) all_of
step_of p (calls.new-overrides o i) = none
step_of p (calls.write-override o k v wanted now) = none
step_of p (calls.delete-override o k now) = none
step_of p (calls.delete-override-after-ttl o k now) = none
step_of p (calls.remove-overrides o now grace) = none
step_of p (calls.find-over t o k i q) = step_as t (calls.find-over t o k i q) (Asking q (FindOver i.value k o)) all_of
step_of p (calls.list-over t o k out i q) = step_as t (calls.list-over t o k out i q) (Asking q (ListOver i.value k out o)) all_of
step_of p (calls.new-grid t g) = none
step_of p (calls.grid_add_node t g i) = none
step_of p (calls.grid_remove_node t g i) = none
step_of p (calls.tell g digest x edition) = none
step_of p (calls.take-out g x) = none
step_of p (calls.least-max g i) = none
step_of p (calls.seen-by g x i) = none
step_of p (calls.remove-carefully t g now grace) = none
step_of p (calls.node-count t) = step_as t (calls.node-count t) (Asking p NodeCount) all_of
step_of p (calls.node-number t i) = step_as t (calls.node-number t i) (Asking p (NodeNumber i)) all_of
step_of p (calls.node-header t i) = step_as t (calls.node-header t i) (Asking p (Heartbeat i.value)) beat_of
step_of p (calls.record-count t i q) = step_as t (calls.record-count t i q) (Asking q (RecordCount i.value)) all_of
step_of p (calls.record-at t i j q) = step_as t (calls.record-at t i j q) (Asking q (RecordAt i.value j)) but_version
step_of p (calls.record-of t i j q) = step_as t (calls.record-of t i j q) (Asking q (RecordOf i j)) but_version
step_of p (calls.record-by-key t k i q) = step_as t (calls.record-by-key t k i q) (Asking q (RecordByKey i.value k)) but_version
step_of p (calls.node-rows t i q) = step_as t (calls.node-rows t i q) (Asking q (NodeRows i.value)) all_of
step_of p (calls.front t i q) = none
step_of p (calls.prefix-rows t k i q) = step_as t (calls.prefix-rows t k i q) (Asking q (PrefixRows i.value k)) all_of
step_of p (calls.find-text t i j x q) = step_as t (calls.find-text t i j x q) (Asking q (FindText i.value j x)) all_of
step_of p (calls.write-digest t edition excluded datagram place) = none
step_of p (calls.read-digest edition digest) = none
step_of p (calls.digest_entry digest edition i) = none
step_of p (calls.compute t edition digest excluded ties datagram mtu place) = none
step_of p (calls.compute-plan t edition digest excluded nodes counts datagram mtu place) = none
step_of p (calls.plan-fault t edition digest excluded nodes counts mtu) = none
step_of p (calls.read-delta delta) = none
step_of p (calls.apply t delta answers now) = none
step_of p (calls.list-delta delta out) = none
step_of p (calls.make-delta text out) = none
step_of p (calls.exchange publisher follower edition unasked unsent ties digest delta answers mtu now) = none

-- the call is the event: it tells and leaves what the event says and leaves
pub record Does (s : Step) : Type 0 where
  pub tells : s.told ≡ (lent_said lent_asked s.event s.table).told
  pub leaves_so : s.after ≡ lent_happen s.event s.table
  pub fits : event_fits s.event ≡ true

abbrev pub DoesIf : (step : Option Step) → Type 0
DoesIf none = Unit {0}
DoesIf (some s) = Does s

-- ---- a run

-- a step is one of the calls
pub record IsCall (p : Party) (s : Step) : Type 0 where
  pub kind : Kind
  pub call : Call kind
  pub is : step_of p call ≡ some s

-- each call is lent what the one before it left
unfoldable pub Run : (party : Party) (steps : List Step) (table : Bytes) → Type 0
Run p [] l = Unit {0}
Run p (s ∷ ss) l = (s.table ≡ l) × IsCall p s × Run p ss s.after

unfoldable pub events_of : (steps : List Step) → List (Event Asked)
events_of [] = []
events_of (s ∷ ss) = s.event ∷ events_of ss

-- what is told to the party
unfoldable pub told_to : (party : Party) (steps : List Step) → List Told
told_to p [] = []
told_to p (s ∷ ss) = pick (concerns p s.event) (s.told ∷ told_to p ss) (told_to p ss)

-- none of its own writes and deletes is answered 6
unfoldable pub OwnUnspent : (party : Party) (steps : List Step) → Type 0
OwnUnspent p [] = Unit {0}
OwnUnspent p (s ∷ ss) = (concerns p s.event ≡ true → changes s.event ≡ true → s.told.number ≡ 6 → ⊥) × OwnUnspent p ss
