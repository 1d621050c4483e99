-- What taking the records of a node delta leaves in a node, operation by operation.
use Rattle.std.specs.Prelude.{ℕ, ◌≡◌, Bool, true, not, ◌&&◌, List, length, leb, ltb}
use Rattle.fields.specs.Choice.{pick}
use Rattle.fields.specs.Numbers.{Bytes}
use Rattle.fields.specs.Parts.{part}
use Rattle.rules.specs.Sizes.{max_records}
use Rattle.rules.specs.Node.{KeyValue, Rec, scheduled, store}
use Rattle.rules.specs.Apply.{takes, stamp}
use Rattle.rules.specs.Table.{keys_rise}
use Rattle.rules.specs.Layout.{decode_node}
use Rattle.rules.specs.Delta as rule
use Rattle.rules.specs.declared.Status.{Status}
use Rattle.table.specs.Changes.{with_recs}
use Rattle.table.specs.Tests.{recs_in}
use Rattle.table.specs.Fits.{LaidNode}
use Rattle.apply_node.specs.declared.Step.{Step}
use Rattle.apply_node.specs.declared.Step.TheVariants.{Taken, Full, Over}

-- ---- one record

-- whether it is taken, by its version and status alone
unfoldable pub takes_as : (held gc version : ℕ) (status : Status) → Bool
takes_as held gc version status = ltb held version && not (scheduled status && leb version gc)

-- the record whose key and value stand at these places
abbrev pub carried : (delta : Bytes) (keyat keylen valueat valuelen version : ℕ) (status : Status) → KeyValue
carried s k n v m version status = record { key = part k n s; value = part v m s; version = version; status = status }

-- a node's bytes are laid out, and its keys rise
pub record Rising (b : Bytes) : Type 0 where
  pub laid : LaidNode b
  pub keys : keys_rise (recs_in b) ≡ true

-- no more than 32 keys
abbrev pub has_room : (recs : List Rec) → Bool
has_room l = leb (length l) max_records

-- a node's bytes were b, and its records are to become l: whether there is room, and the bytes then. Without room they are of no further use.
pub record Tried (l : List Rec) (b : Bytes) (r : Bool) (b' : Bytes) : Type 0 where
  pub room : r ≡ has_room l
  pub rising : Rising b'
  pub node : r ≡ true → decode_node b' ≡ with_recs l (decode_node b)

unfoldable pub take_one : (held gc clock : ℕ) (came : KeyValue) (recs : List Rec) → List Rec
take_one held gc clock r l = pick (takes held gc r) (store (stamp clock r) l) l

-- ---- one operation

abbrev pub after_op : (held gc clock : ℕ) (op : rule.Op) (recs : List Rec) → List Rec
after_op held gc clock (rule.NodeOp n g f) l = l
after_op held gc clock (rule.KeyValueOp r) l = take_one held gc clock r l
after_op held gc clock (rule.SetMaxVersionOp m) l = l

abbrev pub step_of : (held gc clock : ℕ) (op : rule.Op) (recs : List Rec) → Step
step_of held gc clock (rule.NodeOp n g f) l = Over
step_of held gc clock (rule.KeyValueOp r) l = pick (has_room (take_one held gc clock r l)) Taken Full
step_of held gc clock (rule.SetMaxVersionOp m) l = Taken

pub record Stepped (held gc clock : ℕ) (o : rule.Op) (b : Bytes) (r : Step) (b' : Bytes) : Type 0 where
  pub step : r ≡ step_of held gc clock o (recs_in b)
  pub rising : Rising b'
  pub node : (r ≡ Full → ⊥) → decode_node b' ≡ with_recs (after_op held gc clock o (recs_in b)) (decode_node b)
