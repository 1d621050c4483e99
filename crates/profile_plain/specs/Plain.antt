-- Ticket 8's demand 2: equal to the plain table on every call not refused by it. `freed` is the same table in the free profile: the same bytes with 0 where the
-- profile stands. Of every call of `demand1` but the making of a table, whose tables are valid and not shared and which is answered neither 17 nor 18: on the freed
-- tables it tells the same and leaves the same lists, and the tables that it leaves are those freed. So other refusals are the same too. What else is lent may be
-- anything. Three stronger readings are false (proofs/Differs): without "valid", that a call which is 17 here is accepted there, and of a shared table too, since
-- freed it shows everyone all of it.
use Rattle.std.specs.Prelude.{ℕ, zero, suc, ◌+◌, ◌≡◌, Bool, true, false, ◌&&◌, List, [], ◌∷◌, take}
use Rattle.fields.specs.Choice.{all}
use Rattle.fields.specs.Numbers.{Bytes}
use Rattle.fields.specs.Parts.{put}
use Rattle.rules.specs.Given.{given}
use Rattle.rules.specs.Layout.{table_width}
use Rattle.rules.specs.Whole.{decode_whole, valid_whole}
use Rattle.rules.specs.declared.Profile.{Profile}
use Rattle.rules.specs.declared.Profile.TheVariants.{Free, Meter, Shared}
use Rattle.demand1.specs.Calls as calls
use Rattle.demand1.specs.Calls.{Call, Kind, leaves, lent_to, tables}

unfoldable pub freed : (table : Bytes) → Bytes
freed l = put (table_width + 1) (0 ∷ []) l

-- the first n of what is lent
unfoldable pub freed_first : (n : ℕ) (lent : List Bytes) → List Bytes
freed_first zero ls = ls
freed_first (suc n) [] = []
freed_first (suc n) (l ∷ ls) = freed l ∷ freed_first n ls

-- the call on the freed tables
unfoldable pub freed_call : {k : Kind} (call : Call k) → Call k
freed_call (calls.new-table t m p) = calls.new-table t m p
freed_call (calls.add-node t i) = calls.add-node (freed t) i
freed_call (calls.remove-node t i) = calls.remove-node (freed t) i
freed_call (calls.last-heartbeat t i) = calls.last-heartbeat (freed t) i
freed_call (calls.write t k v i wanted now who) = calls.write (freed t) k v i wanted now who
freed_call (calls.delete t k i now who) = calls.delete (freed t) k i now who
freed_call (calls.delete-after-ttl t k i now who) = calls.delete-after-ttl (freed t) k i now who
freed_call (calls.remove-scheduled t now grace) = calls.remove-scheduled (freed t) now grace
freed_call (calls.offer-heartbeat t i h) = calls.offer-heartbeat (freed t) i h
freed_call (calls.local-beat t i) = calls.local-beat (freed t) i
freed_call (calls.find t k i who) = calls.find (freed t) k i who
freed_call (calls.list-prefix t k out i who) = calls.list-prefix (freed t) k out i who
freed_call (calls.new-overrides o i) = calls.new-overrides o i
freed_call (calls.write-override o k v wanted now) = calls.write-override o k v wanted now
freed_call (calls.delete-override o k now) = calls.delete-override o k now
freed_call (calls.delete-override-after-ttl o k now) = calls.delete-override-after-ttl o k now
freed_call (calls.remove-overrides o now grace) = calls.remove-overrides o now grace
freed_call (calls.find-over t o k i who) = calls.find-over (freed t) o k i who
freed_call (calls.list-over t o k out i who) = calls.list-over (freed t) o k out i who
freed_call (calls.new-grid t g) = calls.new-grid (freed t) g
freed_call (calls.grid_add_node t g i) = calls.grid_add_node (freed t) g i
freed_call (calls.grid_remove_node t g i) = calls.grid_remove_node (freed t) g i
freed_call (calls.tell g digest p edition) = calls.tell g digest p edition
freed_call (calls.take-out g p) = calls.take-out g p
freed_call (calls.least-max g i) = calls.least-max g i
freed_call (calls.seen-by g p i) = calls.seen-by g p i
freed_call (calls.remove-carefully t g now grace) = calls.remove-carefully (freed t) g now grace
freed_call (calls.node-count t) = calls.node-count (freed t)
freed_call (calls.node-number t i) = calls.node-number (freed t) i
freed_call (calls.node-header t i) = calls.node-header (freed t) i
freed_call (calls.record-count t i who) = calls.record-count (freed t) i who
freed_call (calls.record-at t i j who) = calls.record-at (freed t) i j who
freed_call (calls.record-of t i j who) = calls.record-of (freed t) i j who
freed_call (calls.record-by-key t k i who) = calls.record-by-key (freed t) k i who
freed_call (calls.node-rows t i who) = calls.node-rows (freed t) i who
freed_call (calls.front t i who) = calls.front (freed t) i who
freed_call (calls.prefix-rows t k i who) = calls.prefix-rows (freed t) k i who
freed_call (calls.find-text t i j x who) = calls.find-text (freed t) i j x who
freed_call (calls.write-digest t edition excluded datagram place) = calls.write-digest (freed t) edition excluded datagram place
freed_call (calls.read-digest edition digest) = calls.read-digest edition digest
freed_call (calls.digest_entry digest edition i) = calls.digest_entry digest edition i
freed_call (calls.compute t edition digest excluded ties datagram mtu place) = calls.compute (freed t) edition digest excluded ties datagram mtu place
freed_call (calls.compute-plan t edition digest excluded nodes counts datagram mtu place) = calls.compute-plan (freed t) edition digest excluded nodes counts datagram mtu place
freed_call (calls.plan-fault t edition digest excluded nodes counts mtu) = calls.plan-fault (freed t) edition digest excluded nodes counts mtu
freed_call (calls.read-delta delta) = calls.read-delta delta
freed_call (calls.apply t delta answers now) = calls.apply (freed t) delta answers now
freed_call (calls.list-delta delta out) = calls.list-delta delta out
freed_call (calls.make-delta text out) = calls.make-delta text out
freed_call (calls.exchange publisher follower edition unasked unsent ties digest delta answers mtu now) =
    calls.exchange (freed publisher) (freed follower) edition unasked unsent ties digest delta answers mtu now

-- a profile that asks for no party, and a valid table of one
abbrev pub unshared : (profile : Profile) → Bool
unshared Free = true
unshared Meter = true
unshared Shared = false

abbrev pub valid_unshared : (table : Bytes) → Bool
valid_unshared l = valid_whole l && unshared (decode_whole l).kind.profile

-- what is claimed of a call
abbrev pub AsPlain : {k : Kind} (call : Call k) → Type 0
AsPlain {k} c = leaves (freed_call c) ≡ given (leaves c).answer (freed_first (tables k) (leaves c).lent)

-- and of all of them
abbrev pub Demand2 : Type 0
Demand2 = (k : Kind) (c : Call k) → (k ≡ calls.NewTable → ⊥) → all valid_unshared (take (tables k) (lent_to c)) ≡ true
    → ((leaves c).answer.number ≡ 17 → ⊥) → ((leaves c).answer.number ≡ 18 → ⊥) → AsPlain c
