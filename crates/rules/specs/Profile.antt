-- Profiles: which records a table may have, by the record alone. In the meter profile (ticket 8) keys are 1 to 32 of `a` to `z`, `0` to `9` and `.`, and values are
-- 1 to 10 decimal digits, or empty under Delete or TTL. These forms are table rules of 14. A local write out of form is refused with 17, and a write to `total`
-- that states a smaller number than the unhidden record there with 18; a delta with one record out of form is refused whole, with 17. In the shared profile
-- (ticket 9, Party) every key is of one of two parties, and each has at most 16 records a node. A local call at another's key is refused with 19, a party's 17th
-- key with 5, and a delta with a key of neither with 19. A mode and a profile together are the kind of a table.
use Rattle.std.specs.Prelude.{ℕ, zero, suc, ◌+◌, ◌*◌, ◌-◌, Bool, true, false, not, ◌&&◌, List, [], ◌∷◌, length, leb, ltb, eqb}
use Rattle.std.proofs.Math.Option.{Option, none, some}
use Rattle.fields.specs.Numbers.{Bytes}
use Rattle.fields.specs.Choice.{pick, all}
use Rattle.fields.specs.Order.{same_bytes}
use Rattle.rules.specs.Sizes.{max_records, max_each, max_key, max_value, max_delta}
use Rattle.rules.specs.Node.{KeyValue, Rec, Node, Call, Setting, SettingTtl, Deleting, DeletingAfterTtl, brought, scheduled, hidden, find}
use Rattle.rules.specs.Table.{Entry, Table}
use Rattle.rules.specs.Party.{own, someones, of_keys, roomy_each}
use Rattle.rules.specs.Delta.{Op, NodeOp, KeyValueOp, SetMaxVersionOp, OpRead, Got, Bad, Reading, nothing_read, Followed, Next, Fault, follow, Ops, Good, Faulty, on_followed, unless_end, read_op}
use Rattle.rules.specs.declared.Status.{Status}
use Rattle.rules.specs.declared.Status.TheVariants.{Set, Ttl}
use Rattle.rules.specs.declared.Mode.{Mode}
use Rattle.rules.specs.declared.Profile.{Profile}
use Rattle.rules.specs.declared.Profile.TheVariants.{Free, Meter, Shared}
use Rattle.rules.specs.declared.Party.{Party}
use Rattle.rules.specs.declared.Refusal.{Refusal}
use Rattle.rules.specs.declared.Refusal.TheVariants.{NodeFull, TooMany, BadForm, SmallerTotal, OtherParty}

-- the kind of a table: how it takes deltas that may come late, and which records it may have
pub record Kind : Type 0 where
  pub mode : Mode
  pub profile : Profile

abbrev pub kind : (mode : Mode) (profile : Profile) → Kind
kind m p = record { mode = m; profile = p }

-- ---- forms

abbrev pub is_digit : (byte : ℕ) → Bool
is_digit b = leb 48 b && leb b 57

-- `a` to `z`, `0` to `9`, `.`
abbrev pub is_key_byte : (byte : ℕ) → Bool
is_key_byte b = pick (leb 97 b && leb b 122) true (pick (is_digit b) true (eqb b 46))

-- at least one of them; that they are at most 32 is document 01's rule
unfoldable pub meter_key : (key : Bytes) → Bool
meter_key k = leb 1 (length k) && all is_key_byte k

-- the most digits
abbrev pub max_digits : ℕ
max_digits = 10

-- 1 to 10 digits, or empty under Delete or TTL
unfoldable pub meter_value : (status : Status) (value : Bytes) → Bool
meter_value st v = pick (eqb (length v) 0) (scheduled st) (leb (length v) max_digits && all is_digit v)

-- whether a record is in form
abbrev pub in_form : (profile : Profile) (kv : KeyValue) → Bool
in_form Free r = true
in_form Meter r = meter_key r.key && meter_value r.status r.value
in_form Shared r = someones r.key

-- and the number of one that is not
abbrev pub odd_number : (profile : Profile) → Refusal
odd_number Free = BadForm
odd_number Meter = BadForm
odd_number Shared = OtherParty

abbrev pub recs_formed : (profile : Profile) (recs : List Rec) → Bool
recs_formed p l = all (λ (r : Rec). in_form p r.kv) l

-- what a profile asks of how many records there are, beside document 01's 32
abbrev pub recs_fit : (profile : Profile) (recs : List Rec) → Bool
recs_fit Free l = true
recs_fit Meter l = true
recs_fit Shared l = roomy_each l

-- what has room in a node
abbrev pub roomy_in : (profile : Profile) (recs : List Rec) → Bool
roomy_in p l = recs_fit p l && leb (length l) max_records

-- the rules of 14 that a profile adds
abbrev pub recs_obey : (profile : Profile) (recs : List Rec) → Bool
recs_obey p l = recs_fit p l && recs_formed p l

unfoldable pub profile_obeys : (profile : Profile) (table : Table) → Bool
profile_obeys p t = all (λ (e : Entry). recs_obey p e.node.recs) t

-- the forms alone
unfoldable pub table_formed : (profile : Profile) (table : Table) → Bool
table_formed p t = all (λ (e : Entry). recs_formed p e.node.recs) t

-- ---- local calls: what a profile refuses, behind 2 and 1

-- the record that a write would make, but for its version; the deletes bring none
abbrev pub brings : (call : Call) (key : Bytes) → Option KeyValue
brings (Setting v) k = some (record { key = k; value = v; version = 0; status = Set })
brings (SettingTtl v now) k = some (record { key = k; value = v; version = 0; status = Ttl })
brings (Deleting now) k = none
brings (DeletingAfterTtl now) k = none

-- the number that digits state; none state 0
unfoldable pub numeral : (so_far : ℕ) (digits : Bytes) → ℕ
numeral n [] = n
numeral n (b ∷ l) = numeral (n * 10 + (b - 48)) l

-- the key `total`
abbrev pub total_key : Bytes
total_key = 116 ∷ 111 ∷ 116 ∷ 97 ∷ 108 ∷ []

-- a smaller number than that of the unhidden record there, at the key `total`
unfoldable pub smaller : (kv : KeyValue) (found : Option Rec) → Bool
smaller r none = false
smaller r (some x) = same_bytes r.key total_key && (not (hidden x.kv.status) && ltb (numeral 0 r.value) (numeral 0 x.kv.value))

-- 17, then 18: of a write alone
abbrev pub meter_guard : (brings : Option KeyValue) (found : Option Rec) → Option Refusal
meter_guard none o = none
meter_guard (some r) o = pick (in_form Meter r) (pick (smaller r o) (some SmallerTotal) none) (some BadForm)

-- a party's 17th key: of a write alone, where the key is not there
abbrev pub full_guard : (mine : Bytes → Bool) (brings : Option KeyValue) (found : Option Rec) (recs : List Rec) → Option Refusal
full_guard mine none o l = none
full_guard mine (some r) none l = pick (leb max_each (length (of_keys mine l))) (some NodeFull) none
full_guard mine (some r) (some x) l = none

-- 19, then 5
abbrev pub party_guard : (mine : Bytes → Bool) (key : Bytes) (brings : Option KeyValue) (found : Option Rec) (recs : List Rec) → Option Refusal
party_guard mine k b o l = pick (mine k) (full_guard mine b o l) (some OtherParty)

-- of the node's records
abbrev pub guard_of : (profile : Profile) (party : Party) (call : Call) (key : Bytes) (recs : List Rec) → Option Refusal
guard_of Free q c k l = none
guard_of Meter q c k l = meter_guard (brings c k) (find k l)
guard_of Shared q c k l = party_guard (own q) k (brings c k) (find k l) l

-- 1 comes before
abbrev pub sizes_fit : (call : Call) (key : Bytes) → Bool
sizes_fit c k = leb (length k) max_key && leb (length (brought c)) max_value

abbrev pub guard_at : (profile : Profile) (party : Party) (call : Call) (key : Bytes) (recs : List Rec) → Option Refusal
guard_at p q c k l = pick (sizes_fit c k) (guard_of p q c k l) none

-- and 2
abbrev pub guard_in : (profile : Profile) (party : Party) (call : Call) (key : Bytes) (held : Option Node) → Option Refusal
guard_in Free q c k o = none
guard_in Meter q c k none = none
guard_in Meter q c k (some n) = guard_at Meter q c k n.recs
guard_in Shared q c k none = none
guard_in Shared q c k (some n) = guard_at Shared q c k n.recs

-- ---- reading a delta

abbrev pub op_in_form : (profile : Profile) (op : Op) → Bool
op_in_form p (NodeOp n g f) = true
op_in_form p (KeyValueOp r) = in_form p r
op_in_form p (SetMaxVersionOp m) = true

-- its form is asked where it may follow
abbrev pub and_form : (profile : Profile) (in-form : Bool) (followed : Followed) → Followed
and_form p b (Fault r) = Fault r
and_form p b (Next s) = pick b (Next s) (Fault (odd_number p))

abbrev pub follow_as : (profile : Profile) (reading : Reading) (op : Op) → Followed
follow_as p s o = and_form p (op_in_form p o) (follow s o)

abbrev pub on_read_as : (profile : Profile) (at : ℕ) (reading : Reading) (next : Reading → List ℕ → Ops) (read : OpRead) → Ops
on_read_as p at s next (Got o rest) = on_followed at o (λ s'. next s' rest) (follow_as p s o)
on_read_as p at s next (Bad r) = Faulty r at

unfoldable pub read_ops_as : (profile : Profile) (bound at : ℕ) (reading : Reading) (bytes : Bytes) → Ops
read_ops_as p zero at s l = Good []
read_ops_as p (suc n) at s l = unless_end l (on_read_as p at s (λ s' rest. read_ops_as p n (at + (length l - length rest)) s' rest) (read_op l))

-- 13 for its length, then the first operation at fault, the form of a record straight after its own 11
unfoldable pub read_delta_as : (profile : Profile) (bytes : Bytes) → Ops
read_delta_as p l = pick (leb (length l) max_delta) (read_ops_as p (length l) 0 nothing_read l) (Faulty TooMany 0)
