-- One node and document 01's rules for it: records and statuses, what a local call makes of the record at its key, removal, heartbeats.
-- Nothing here knows of bytes.
use Rattle.std.specs.Prelude.{ℕ, suc, ◌+◌, max, Bool, true, false, not, ◌&&◌, List, [], ◌∷◌, length, leb, ltb, eqb}
use Rattle.std.proofs.Math.Option.{Option, none, some}
use Rattle.fields.specs.Numbers.{Bytes}
use Rattle.fields.specs.Choice.{pick, keep}
use Rattle.fields.specs.Order.{same_bytes, less_bytes, starts_with}
use Rattle.rules.specs.Sizes.{max_records, max_key, max_value, top}
use Rattle.rules.specs.declared.Status.{Status}
use Rattle.rules.specs.declared.Status.TheVariants.{Set, Delete, Ttl}
use Rattle.rules.specs.declared.Heartbeat.{Heartbeat}
use Rattle.rules.specs.declared.Header.{Header}
use Rattle.rules.specs.declared.Beat.{Beat}
use Rattle.rules.specs.declared.Refusal.{Refusal}
use Rattle.rules.specs.declared.Refusal.TheVariants.{TooLong, NoKey, NodeFull, Exhausted}

-- Delete or TTL
abbrev pub scheduled : Status → Bool
scheduled Set = false
scheduled Delete = true
scheduled Ttl = true

-- only Delete hides a record from reading
abbrev pub hidden : Status → Bool
hidden Set = false
hidden Delete = true
hidden Ttl = false

abbrev pub same_status : (first second : Status) → Bool
same_status Set Set = true
same_status Set Delete = false
same_status Set Ttl = false
same_status Delete Set = false
same_status Delete Delete = true
same_status Delete Ttl = false
same_status Ttl Set = false
same_status Ttl Delete = false
same_status Ttl Ttl = true

-- what a version gives to a key; a record as a delta carries it
pub record KeyValue : Type 0 where
  pub key : Bytes
  pub value : Bytes
  pub version : ℕ
  pub status : Status

-- a record of a node: with the time from which it is scheduled, 0 under Set
pub record Rec : Type 0 where
  pub kv : KeyValue
  pub start : ℕ

-- the records stand in the order of their keys
pub record Node : Type 0 where
  pub heartbeat : Heartbeat
  pub max : ℕ
  pub last_gc : ℕ
  pub recs : List Rec

abbrev pub beats : (n : ℕ) → Heartbeat
beats n = record { 0 = n }

-- a fresh node: heartbeat 0, max 0, last_gc 0, no records
abbrev pub fresh : Node
fresh = record { heartbeat = beats 0; max = 0; last_gc = 0; recs = [] }

abbrev pub fresh_header : Header
fresh_header = record { heartbeat = beats 0; max = 0; last_gc = 0 }

-- the record of a key
unfoldable pub find : (key : Bytes) (recs : List Rec) → Option Rec
find k [] = none
find k (a ∷ l) = pick (same_bytes k a.kv.key) (some a) (find k l)

-- the record takes the place of its key's, or its own in the order of the keys
unfoldable pub store : (rec : Rec) (recs : List Rec) → List Rec
store r [] = r ∷ []
store r (a ∷ l) =
    pick (same_bytes r.kv.key a.kv.key) (r ∷ l) (pick (less_bytes r.kv.key a.kv.key) (r ∷ a ∷ l) (a ∷ store r l))

-- ---- local calls

-- what the record at the key becomes, but for its version
pub record Change : Type 0 where
  pub value : Bytes
  pub status : Status
  pub start : ℕ

-- max rises by one, and the key's record takes that version
unfoldable pub write : (key : Bytes) (change : Change) (node : Node) → Node
write k c n =
    record {
      heartbeat = n.heartbeat;
      max = n.max + 1;
      last_gc = n.last_gc;
      recs = store (record { kv = record { key = k; value = c.value; version = n.max + 1; status = c.status }; start = c.start }) n.recs;
    }

-- the four calls that give a version; the times are the caller's now
pub data Call : Type 0 where
  Setting : List ℕ → Call
  SettingTtl : List ℕ → ℕ → Call
  Deleting : ℕ → Call
  DeletingAfterTtl : ℕ → Call

-- the value that the call brings
abbrev pub brought : Call → List ℕ
brought (Setting v) = v
brought (SettingTtl v now) = v
brought (Deleting now) = []
brought (DeletingAfterTtl now) = []

-- what a local call comes to: a refusal, nothing to change, or a change of the key's record
pub data Decision : Type 0 where
  Refuse : Refusal → Decision
  Leave : Decision
  Give : Change → Decision

-- same value and status already there: nothing changes
abbrev pub unless_same : (found : Option Rec) (change : Change) → Decision
unless_same none c = Give c
unless_same (some r) c = pick (same_status r.kv.status c.status && same_bytes r.kv.value c.value) Leave (Give c)

-- no such key, for the two deletes
abbrev pub if_there : (found : Option Rec) (f : Rec → Change) → Decision
if_there none f = Refuse NoKey
if_there (some r) f = Give (f r)

-- what document 01 wants, given the key's record: a set changes what differs, a delete empties the value, a delete after TTL keeps it
unfoldable pub wish : (call : Call) (found : Option Rec) → Decision
wish (Setting v) o = unless_same o (record { value = v; status = Set; start = 0 })
wish (SettingTtl v now) o = unless_same o (record { value = v; status = Ttl; start = now })
wish (Deleting now) o = if_there o (λ r. record { value = []; status = Delete; start = now })
wish (DeletingAfterTtl now) o = if_there o (λ r. record { value = r.kv.value; status = Ttl; start = now })

-- the key would be the 33rd
abbrev pub full_for : (found : Option Rec) (node : Node) → Bool
full_for none n = leb max_records (length n.recs)
full_for (some r) n = false

-- a change wants room for its key (5) and a version that can rise (6)
abbrev pub allowed : (key : Bytes) (node : Node) (decision : Decision) → Decision
allowed k n (Refuse r) = Refuse r
allowed k n Leave = Leave
allowed k n (Give c) = pick (full_for (find k n.recs) n) (Refuse NodeFull) (pick (ltb n.max top) (Give c) (Refuse Exhausted))

-- in document 01's order: 1, 3, nothing to change, 5, 6
unfoldable pub decide : (call : Call) (key : Bytes) (node : Node) → Decision
decide c k n =
    pick (leb (length k) max_key && leb (length (brought c)) max_value) (allowed k n (wish c (find k n.recs))) (Refuse TooLong)

-- the node afterwards
unfoldable pub act : (key : Bytes) (decision : Decision) (node : Node) → Node
act k (Refuse r) n = n
act k Leave n = n
act k (Give c) n = write k c n

-- ---- removal

-- a removal takes those scheduled records that are due
abbrev pub goes : (due : Rec → Bool) (rec : Rec) → Bool
goes due r = scheduled r.kv.status && due r

-- last_gc becomes the larger of itself and the removed versions
unfoldable pub last_gc_of : (due : Rec → Bool) (g : ℕ) (recs : List Rec) → ℕ
last_gc_of due g [] = g
last_gc_of due g (a ∷ l) = last_gc_of due (pick (goes due a) (max g a.kv.version) g) l

unfoldable pub remove : (due : Rec → Bool) (node : Node) → Node
remove due n =
    record { heartbeat = n.heartbeat; max = n.max; last_gc = last_gc_of due n.last_gc n.recs; recs = keep (λ r. not (goes due r)) n.recs }

-- document 01's clock: a scheduled record stays while now < start + grace
abbrev pub due : (now grace : ℕ) (rec : Rec) → Bool
due now grace r = not (ltb now (r.start + grace))

-- ---- heartbeats

abbrev pub beat : (heartbeat : Heartbeat) (b : Bool) → Beat
beat h b = record { heartbeat = h; news = b }

-- if 0 is held, store and say no; if greater, store and say yes; else no
unfoldable pub offer_of : (held got : Heartbeat) → Beat
offer_of held got = pick (eqb held.0 0) (beat got false) (pick (ltb held.0 got.0) (beat got true) (beat held false))

abbrev pub with_heartbeat : (heartbeat : Heartbeat) (node : Node) → Node
with_heartbeat h n = record { heartbeat = h; max = n.max; last_gc = n.last_gc; recs = n.recs }

-- ---- reading

-- the value of an unhidden record
abbrev pub shown : Option Rec → Option (List ℕ)
shown none = none
shown (some r) = pick (hidden r.kv.status) none (some r.kv.value)

-- a listing's hit: the key begins with the prefix, and the record is not hidden
abbrev pub hits : (prefix : Bytes) (rec : Rec) → Bool
hits prefix r = starts_with prefix r.kv.key && not (hidden r.kv.status)

-- the places of the hits in key order, the first record's place being i
unfoldable pub hits_from : (prefix : Bytes) (i : ℕ) (recs : List Rec) → Bytes
hits_from prefix i [] = []
hits_from prefix i (r ∷ l) = pick (hits prefix r) (i ∷ hits_from prefix (suc i) l) (hits_from prefix (suc i) l)
