-- Applying a delta: what a node does with a node delta, and what a table does with a stream of them. What may differ from table to table is a
-- parameter, `Ways`; document 01's value is `plain_ways`.
use Rattle.std.specs.Prelude.{ℕ, ◌≤◌, max, ◌≡◌, Bool, true, false, not, ◌&&◌, List, [], ◌∷◌, length, leb, ltb, eqb}
use Rattle.std.proofs.Math.Option.{Option, none, some}
use Rattle.fields.specs.Numbers.{Bytes}
use Rattle.fields.specs.Choice.{pick}
use Rattle.fields.specs.Parts.{put}
use Rattle.rules.specs.Sizes.{max_records}
use Rattle.rules.specs.Answers.{code_of}
use Rattle.rules.specs.Node.{KeyValue, Rec, Node, scheduled, store, beats}
use Rattle.rules.specs.Table.{Table, node_of, set_node}
use Rattle.rules.specs.Delta.{NodeDelta, Part, Op, Ops, Good, Faulty, parts_of, read_delta}
use Rattle.rules.specs.Profile.{Kind, read_delta_as, roomy_in}
use Rattle.rules.specs.declared.DeltaStatus.{DeltaStatus}
use Rattle.rules.specs.declared.DeltaStatus.TheVariants.{Reject, Apply, ApplyAfterReset, Fenced}
use Rattle.rules.specs.declared.Mode.{Mode}
use Rattle.rules.specs.declared.Mode.TheVariants as mode
use Rattle.rules.specs.declared.NodeAnswer.{NodeAnswer}
use Rattle.rules.specs.declared.NodeAnswer.TheVariants as node
use Rattle.rules.specs.declared.Refusal.TheVariants.{NoPlace}
use Rattle.std.specs.Prelude.{Err, Ok, Result}
use Rattle.rules.specs.declared.DeltaFault.{DeltaFault}

-- ---- what may differ from table to table

-- where a node answers Fenced, by its own last_gc and max and those of the delta
abbrev pub Fence : Type 0
Fence = (own-last-gc own-max last_gc max : ℕ) → Bool

-- How bytes are read as a delta, whether these records have room in a node, where a node answers Fenced; and whether the deltas of demand 3's world
-- may come late to this table (World).
pub record Ways : Type 0 where
  pub reads : Bytes → Ops
  pub roomy : List Rec → Bool
  pub fence : Fence
  pub late : Bool

-- document 01: at most 32 records, and no node is ever fenced
abbrev pub plain_ways : Ways
plain_ways = record { reads = read_delta; roomy = λ l. leb (length l) max_records; fence = λ own_gc own_max gc max. false; late = false }

-- ticket 3: a node whose own last_gc exceeds its own max is fenced against a delta with a smaller last_gc
abbrev pub fenced_ways : Ways
fenced_ways = record { reads = read_delta; roomy = λ l. leb (length l) max_records; fence = λ own_gc own_max gc max. ltb own_max own_gc && ltb gc own_gc; late = true }

-- in a net: such a node lets through a delta that knows everything up to the node's own last_gc, though its sender has not removed as much
abbrev pub guarded_ways : Ways
guarded_ways =
    record {
      reads = read_delta;
      roomy = λ l. leb (length l) max_records;
      fence = λ own_gc own_max gc max. ltb own_max own_gc && (ltb gc own_gc && ltb max own_gc);
      late = true;
    }

abbrev pub ways_of : Mode → Ways
ways_of mode.Plain = plain_ways
ways_of mode.Fenced = fenced_ways
ways_of mode.Guarded = guarded_ways

-- of a table: the mode's, and the profile says how bytes are read as a delta, and what has room
abbrev pub ways_in : (kind : Kind) → Ways
ways_in k = record { reads = read_delta_as k.profile; roomy = roomy_in k.profile; fence = (ways_of k.mode).fence; late = (ways_of k.mode).late }

-- What any ways keep to. A delta is refused, or read as document 01 reads it; and what has room has room by document 01. So a table keeps the
-- rules that it obeys (number 14). No delta is fenced off whose last_gc, or the node's own max, is as high as the node's own last_gc; so the closing count
-- holds. And where deltas may come late, what is not fenced off reaches the node's own last_gc; so demand 3 holds of them too.
pub record Lawful (ways : Ways) : Type 0 where
  pub reads_so : (bytes : List ℕ) (ops : List Op) → ways.reads bytes ≡ Good ops → read_delta bytes ≡ Good ops
  pub few : (recs : List Rec) → ways.roomy recs ≡ true → length recs ≤ max_records
  pub lets : (own_gc own_max gc m : ℕ) → own_gc ≤ max own_max gc → ways.fence own_gc own_max gc m ≡ false
  pub safe : ways.late ≡ true → (own_gc own_max gc m : ℕ) → ways.fence own_gc own_max gc m ≡ false → own_gc ≤ max own_max (max gc m)

-- ---- one node

-- step 3, where no reset is due: Apply if own max < delta max, else Reject
unfoldable pub newer_of : (own-max max : ℕ) → DeltaStatus
newer_of own_max max = pick (ltb own_max max) Apply Reject

-- by the numbers alone: 1. from > own max: Reject. Then Fenced, where the ways have it. 2. delta last_gc above both own last_gc and own max: Reject
-- if from is not 0, else ApplyAfterReset. 3. as above.
unfoldable pub status_of : (fence : Fence) (own-last-gc own-max from last_gc max : ℕ) → DeltaStatus
status_of fence own_gc own_max from gc max =
    pick (ltb own_max from) Reject
    (pick (fence own_gc own_max gc max) Fenced
    (pick (ltb own_gc gc && ltb own_max gc) (pick (eqb from 0) ApplyAfterReset Reject)
    (newer_of own_max max)))

unfoldable pub delta_status : (fence : Fence) (node : Node) (delta : NodeDelta) → DeltaStatus
delta_status fence n d = status_of fence n.last_gc n.max d.from d.last_gc d.max

-- a record is taken if its version is above the max held before the first of them and, where it is scheduled, above last_gc
unfoldable pub takes : (held last_gc : ℕ) (kv : KeyValue) → Bool
takes held gc r = ltb held r.version && not (scheduled r.status && leb r.version gc)

-- a taken scheduled record starts at the receiver's now
abbrev pub start_at : (is-scheduled : Bool) (now : ℕ) → ℕ
start_at true now = now
start_at false now = 0

abbrev pub stamp : (now : ℕ) (kv : KeyValue) → Rec
stamp now r = record { kv = r; start = start_at (scheduled r.status) now }

-- records are taken in order
unfoldable pub take_all : (held last_gc now : ℕ) (kvs : List KeyValue) (recs : List Rec) → List Rec
take_all held gc now [] l = l
take_all held gc now (r ∷ rs) l = take_all held gc now rs (pick (takes held gc r) (store (stamp now r) l) l)

-- Reject and Fenced change nothing. A reset gives a fresh node with the delta's last_gc; then records are taken. At the end max is the delta's max.
unfoldable pub outcome : (status : DeltaStatus) (now : ℕ) (delta : NodeDelta) (node : Node) → Node
outcome Reject now d n = n
outcome Fenced now d n = n
outcome ApplyAfterReset now d n =
    record { heartbeat = beats 0; max = d.max; last_gc = d.last_gc; recs = take_all 0 d.last_gc now d.recs [] }
outcome Apply now d n =
    record { heartbeat = n.heartbeat; max = d.max; last_gc = n.last_gc; recs = take_all n.max n.last_gc now d.recs n.recs }

-- what a node answers to a node delta, and the node afterwards
pub record Taken : Type 0 where
  pub answer : NodeAnswer
  pub node : Node

abbrev pub taken_as : (answer : NodeAnswer) (node : Node) → Taken
taken_as a n = record { answer = a; node = n }

-- Room, where the outcome's records have none (document 01: over 32 keys): the node stays
abbrev pub with_room : (ways : Ways) (answer : NodeAnswer) (outcome node : Node) → Taken
with_room ways a o n = pick (ways.roomy o.recs) (taken_as a o) (taken_as node.Room n)

abbrev pub answered : (ways : Ways) (status : DeltaStatus) (outcome node : Node) → Taken
answered ways Reject o n = taken_as node.Reject n
answered ways Fenced o n = taken_as node.Fenced n
answered ways Apply o n = with_room ways node.Apply o n
answered ways ApplyAfterReset o n = with_room ways node.ApplyAfterReset o n

unfoldable pub apply_node : (ways : Ways) (now : ℕ) (delta : NodeDelta) (node : Node) → Taken
apply_node ways now d n = answered ways (delta_status ways.fence n d) (outcome (delta_status ways.fence n d) now d n) n

-- ---- a table

-- the answers in stream order, and the table afterwards
pub record Stream : Type 0 where
  pub answers : List NodeAnswer
  pub table : Table

abbrev pub answering : (answer : NodeAnswer) (stream : Stream) → Stream
answering a s = record { answers = a ∷ s.answers; table = s.table }

-- how a node takes a node delta: document 01's way is `apply_node plain_ways now`
abbrev pub Taking : Type 0
Taking = NodeDelta → Node → Taken

-- a node missing in the table answers Unknown and is never made
abbrev pub on_node : (take : Taking) (part : Part) (held : Option Node) (table : Table) (next : Table → Stream) → Stream
on_node take x none t next = answering node.Unknown (next t)
on_node take x (some n) t next = answering (take x.delta n).answer (next (set_node x.number (take x.delta n).node t))

unfoldable pub apply_each : (take : Taking) (parts : List Part) (table : Table) → Stream
apply_each take [] t = record { answers = []; table = t }
apply_each take (x ∷ xs) t = on_node take x (node_of x.number t) t (apply_each take xs)

-- ---- applying as a call

unfoldable pub codes : List NodeAnswer → List ℕ
codes [] = []
codes (a ∷ l) = code_of a ∷ codes l

-- an answer, the table and the lent list of answers after the call
pub record ApplyOutcome : Type 0 where
  pub answer : (Result ℕ DeltaFault)
  pub table : Table
  pub list : Bytes

-- 8 where the list has too few places
abbrev pub apply_parts : (take : Taking) (parts : List Part) (table : Table) (list : Bytes) → ApplyOutcome
apply_parts take xs t l =
    pick (leb (length xs) (length l))
    (record { answer = Ok (length xs); table = (apply_each take xs t).table; list = put 0 (codes (apply_each take xs t).answers) l })
    (record { answer = (Err (record { why = NoPlace; at = 0 })); table = t; list = l })

abbrev pub apply_ops : (take : Taking) (read : Ops) (table : Table) (list : Bytes) → ApplyOutcome
apply_ops take (Good ops) t l = apply_parts take (parts_of ops) t l
apply_ops take (Faulty r at) t l = record { answer = (Err (record { why = r; at = at })); table = t; list = l }

-- read, then node by node
unfoldable pub apply : (ways : Ways) (delta : Bytes) (now : ℕ) (table : Table) (list : Bytes) → ApplyOutcome
apply ways bytes now t l = apply_ops (apply_node ways now) (ways.reads bytes) t l
