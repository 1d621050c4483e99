-- A delta is a list of operations. Their bytes, how one is read, how a whole delta is read, and the node deltas that it brings.
use Rattle.std.specs.Prelude.{ℕ, zero, suc, ◌+◌, ◌-◌, ◌%◌, List, [], ◌∷◌, ◌++◌, length, take, drop, leb, ltb}
use Rattle.fields.specs.Choice.{pick}
use Rattle.fields.specs.Numbers.{Bytes, nat_of, bytes_of}
use Rattle.fields.specs.Blocks.{flat}
use Rattle.fields.specs.Widths.{total}
use Rattle.rules.specs.Sizes.{max_nodes, max_key, max_value, max_delta}
use Rattle.rules.specs.Node.{KeyValue}
use Rattle.rules.specs.Table.{among}
use Rattle.rules.specs.declared.Status.{Status}
use Rattle.rules.specs.declared.Status.TheVariants.{Set, Delete, Ttl}
use Rattle.rules.specs.declared.Refusal.{Refusal}
use Rattle.rules.specs.declared.Refusal.TheVariants.{TooLong, Cut, BadTag, OutOfOrder, NodeTwice, TooMany}
use Rattle.std.specs.Prelude.{Err, Ok, Result}
use Rattle.rules.specs.declared.DeltaFault.{DeltaFault}
use Rattle.rules.specs.declared.DeltaRead.{DeltaRead}

pub data Op : Type 0 where
  -- number, last_gc, from
  NodeOp : ℕ → ℕ → ℕ → Op
  KeyValueOp : KeyValue → Op
  SetMaxVersionOp : ℕ → Op

-- ---- widths

-- a tag or a status, the length of a text, a number
abbrev pub byte_width : ℕ
byte_width = 1

abbrev pub length_width : ℕ
length_width = 2

abbrev pub number_width : ℕ
number_width = 8

-- numbers one behind the other, of which n bytes are there: what the number in which they end still lacks
abbrev pub number_lacks : (n : ℕ) → ℕ
number_lacks n = number_width - n % number_width

-- a Node: tag, number, last_gc, from
abbrev pub node_op_widths : List ℕ
node_op_widths = byte_width ∷ number_width ∷ number_width ∷ number_width ∷ []

abbrev pub node_op_width : ℕ
node_op_width = total node_op_widths

-- a record behind its texts: version, status
abbrev pub version_widths : List ℕ
version_widths = number_width ∷ byte_width ∷ []

-- a record beside its texts: tag, two lengths, version, status
abbrev pub beside_texts : ℕ
beside_texts = byte_width + length_width + length_width + total version_widths

-- a SetMaxVersion: tag, max
abbrev pub max_op_widths : List ℕ
max_op_widths = byte_width ∷ number_width ∷ []

abbrev pub max_op_width : ℕ
max_op_width = total max_op_widths

-- ---- bytes: a tag, then the fields in this order

abbrev pub status_byte : Status → ℕ
status_byte Set = 0
status_byte Delete = 1
status_byte Ttl = 2

-- the length of a text, then the text
unfoldable pub text_bytes : (s : Bytes) → Bytes
text_bytes s = bytes_of length_width (length s) ++ s

unfoldable pub op_bytes : (op : Op) → Bytes
op_bytes (NodeOp n g f) = 0 ∷ (bytes_of number_width n ++ (bytes_of number_width g ++ bytes_of number_width f))
op_bytes (KeyValueOp r) =
    1 ∷ (text_bytes r.key ++ (text_bytes r.value ++ (bytes_of number_width r.version ++ (status_byte r.status ∷ []))))
op_bytes (SetMaxVersionOp m) = 2 ∷ bytes_of number_width m

-- the widths of an operation's fields, in their order
abbrev pub field_widths : (op : Op) → List ℕ
field_widths (NodeOp n g f) = node_op_widths
field_widths (KeyValueOp r) = byte_width ∷ length_width ∷ length r.key ∷ length_width ∷ length r.value ∷ version_widths
field_widths (SetMaxVersionOp m) = max_op_widths

-- of fields with these widths, one behind the other and cut off behind n bytes: what the field lacks in which they end
unfoldable pub lacking : (n : ℕ) (widths : List ℕ) → ℕ
lacking n [] = 0
lacking n (w ∷ ws) = pick (leb w n) (lacking (n - w) ws) (w - n)

unfoldable pub size_of : (op : Op) → ℕ
size_of o = length (op_bytes o)

unfoldable pub delta_bytes : (ops : List Op) → Bytes
delta_bytes ops = flat op_bytes ops

-- ---- reading one operation: fields from left to right

-- the operation and what stands behind it, or why there is none
pub data OpRead : Type 0 where
  Got : Op → List ℕ → OpRead
  Bad : Refusal → OpRead

-- a field of w bytes, else 9 with the bytes that it lacks
abbrev pub field : (width : ℕ) (next : List ℕ → List ℕ → OpRead) (bytes : Bytes) → OpRead
field w next l = pick (leb w (length l)) (next (take w l) (drop w l)) (Bad (Cut (w - length l)))

abbrev pub number : (width : ℕ) (next : ℕ → List ℕ → OpRead) (bytes : Bytes) → OpRead
number w next l = field w (λ b. next (nat_of b)) l

-- a length, then so many bytes; an overlong length is 1 before its bytes are looked at
abbrev pub text : (most : ℕ) (next : List ℕ → List ℕ → OpRead) (bytes : Bytes) → OpRead
text most next l = number length_width (λ n rest. pick (leb n most) (field n next rest) (Bad TooLong)) l

-- a status above 2 is 10
abbrev pub status_or : (next : Status → OpRead) (byte : ℕ) → OpRead
status_or next zero = next Set
status_or next (suc zero) = next Delete
status_or next (suc (suc zero)) = next Ttl
status_or next (suc (suc (suc n))) = Bad BadTag

unfoldable pub read_node : (bytes : Bytes) → OpRead
read_node l = number number_width (λ n. number number_width (λ g. number number_width (λ f rest. Got (NodeOp n g f) rest))) l

unfoldable pub read_key_value : (bytes : Bytes) → OpRead
read_key_value l =
    text max_key
    (λ k.
    text max_value
    (λ v.
    number number_width
    (λ ver. number byte_width (λ st rest. status_or (λ s. Got (KeyValueOp (record { key = k; value = v; version = ver; status = s })) rest) st))))
    l

unfoldable pub read_set_max_version : (bytes : Bytes) → OpRead
read_set_max_version l = number number_width (λ m rest. Got (SetMaxVersionOp m) rest) l

-- a tag above 2 is 10
abbrev pub read_tagged : (tag : ℕ) (bytes : Bytes) → OpRead
read_tagged zero l = read_node l
read_tagged (suc zero) l = read_key_value l
read_tagged (suc (suc zero)) l = read_set_max_version l
read_tagged (suc (suc (suc n))) l = Bad BadTag

unfoldable pub read_op : (bytes : Bytes) → OpRead
read_op l = number byte_width read_tagged l

-- ---- reading a whole delta

-- the nodes seen so far, newest first, and the running max
pub record Reading : Type 0 where
  pub seen : List ℕ
  pub running : ℕ

abbrev pub nothing_read : Reading
nothing_read = record { seen = []; running = 0 }

-- whether an operation may follow: it becomes the next reading, or is refused
pub data Followed : Type 0 where
  Next : Reading → Followed
  Fault : Refusal → Followed

-- before any Node: 11
abbrev pub under_node : (seen : List ℕ) (followed : Followed) → Followed
under_node [] f = Fault OutOfOrder
under_node (n ∷ ns) f = f

-- 11, 12, 13. Max starts at 0 with each Node; a record's version must exceed it and becomes it; a SetMaxVersion not below it becomes it.
unfoldable pub follow : (reading : Reading) (op : Op) → Followed
follow s (NodeOp n g f) =
    pick (among n s.seen) (Fault NodeTwice)
    (pick (ltb (length s.seen) max_nodes) (Next (record { seen = n ∷ s.seen; running = 0 })) (Fault TooMany))
follow s (KeyValueOp r) =
    under_node s.seen (pick (ltb s.running r.version) (Next (record { seen = s.seen; running = r.version })) (Fault OutOfOrder))
follow s (SetMaxVersionOp m) =
    under_node s.seen (pick (leb s.running m) (Next (record { seen = s.seen; running = m })) (Fault OutOfOrder))

-- the operations, or the refusal with the place of the faulty operation's tag
pub data Ops : Type 0 where
  Good : List Op → Ops
  Faulty : Refusal → ℕ → Ops

abbrev pub and_then : (op : Op) (read : Ops) → Ops
and_then o (Good ops) = Good (o ∷ ops)
and_then o (Faulty r at) = Faulty r at

abbrev pub on_followed : (at : ℕ) (op : Op) (next : Reading → Ops) (followed : Followed) → Ops
on_followed at o next (Next s) = and_then o (next s)
on_followed at o next (Fault r) = Faulty r at

abbrev pub on_read : (at : ℕ) (reading : Reading) (next : Reading → List ℕ → Ops) (read : OpRead) → Ops
on_read at s next (Got o rest) = on_followed at o (λ s'. next s' rest) (follow s o)
on_read at s next (Bad r) = Faulty r at

abbrev pub unless_end : (bytes : Bytes) (read : Ops) → Ops
unless_end [] o = Good []
unless_end (b ∷ l) o = o

-- One operation after the other to the end; `at` is the place in the delta. The first number only bounds the operations: each takes a byte
-- at least, so that the length of the bytes is enough.
unfoldable pub read_ops : (bound at : ℕ) (reading : Reading) (bytes : Bytes) → Ops
read_ops zero at s l = Good []
read_ops (suc n) at s l = unless_end l (on_read at s (λ s' rest. read_ops n (at + (length l - length rest)) s' rest) (read_op l))

-- 13 for its length, then the first operation at fault
unfoldable pub read_delta : (bytes : Bytes) → Ops
read_delta l = pick (leb (length l) max_delta) (read_ops (length l) 0 nothing_read l) (Faulty TooMany 0)

-- ---- the node deltas of a list of operations

pub record NodeDelta : Type 0 where
  pub from : ℕ
  pub last_gc : ℕ
  pub recs : List KeyValue
  pub max : ℕ

pub record Part : Type 0 where
  pub number : ℕ
  pub delta : NodeDelta

-- the records up to the next Node, and the running max there
unfoldable pub recs_of : List Op → List KeyValue
recs_of [] = []
recs_of (NodeOp n g f ∷ ops) = []
recs_of (KeyValueOp r ∷ ops) = r ∷ recs_of ops
recs_of (SetMaxVersionOp m ∷ ops) = recs_of ops

unfoldable pub max_of : (m : ℕ) (ops : List Op) → ℕ
max_of m [] = m
max_of m (NodeOp n g f ∷ ops) = m
max_of m (KeyValueOp r ∷ ops) = max_of r.version ops
max_of m (SetMaxVersionOp x ∷ ops) = max_of x ops

-- one for each Node, in stream order
unfoldable pub parts_of : List Op → List Part
parts_of [] = []
parts_of (NodeOp n g f ∷ ops) =
    record { number = n; delta = record { from = f; last_gc = g; recs = recs_of ops; max = max_of 0 ops } } ∷ parts_of ops
parts_of (KeyValueOp r ∷ ops) = parts_of ops
parts_of (SetMaxVersionOp x ∷ ops) = parts_of ops

-- ---- delta reading as a call

abbrev pub read_answer : Ops → (Result DeltaRead DeltaFault)
read_answer (Good ops) = (Ok (record { ops = (length ops); nodes = (length (parts_of ops)) }))
read_answer (Faulty r at) = (Err (record { why = r; at = at }))

unfoldable pub delta_read : (bytes : Bytes) → (Result DeltaRead DeltaFault)
delta_read l = read_answer (read_delta l)
