-- What is granted to a call that wants a change at a key's place, and what a node's bytes are afterwards.
use Rattle.std.specs.Prelude.{ℕ, Bool, false, length, leb, ltb}
use Rattle.fields.specs.Choice.{pick}
use Rattle.fields.specs.Numbers.{Bytes}
use Rattle.rules.specs.Given.{Given, given}
use Rattle.rules.specs.Sizes.{max_records, top}
use Rattle.rules.specs.Node.{Rec, Node, Change, Decision, Refuse, Give, store, act}
use Rattle.rules.specs.Local.{answer_of}
use Rattle.rules.specs.Table.{Entry}
use Rattle.rules.specs.Layout.{encode_node, decode_node}
use Rattle.rules.specs.declared.Status.{Status}
use Rattle.std.specs.Prelude.{Result}
use Rattle.rules.specs.declared.Refusal.{Refusal}
use Rattle.rules.specs.declared.Refusal.TheVariants.{NodeFull, Exhausted}
use Rattle.table.specs.Changes.{with_node, with_recs}
use Rattle.table_read.specs.declared.Place.{Place}
use Rattle.table_read.specs.declared.Place.TheVariants.{At, Free}

-- a change of the key's record
abbrev pub change_of : (value : Bytes) (status : Status) (start : ℕ) → Change
change_of v s start = record { value = v; status = s; start = start }

-- a key that belongs at this place would be the 33rd
abbrev pub full_at : (place : Place) (node : Node) → Bool
full_at (At j) n = false
full_at (Free j) n = leb max_records (length n.recs)

-- a change of the key's record, or a new one at this place: 5, 6
unfoldable pub allowed_at : (place : Place) (change : Change) (node : Node) → Decision
allowed_at p c n = pick (full_at p n) (Refuse NodeFull) (pick (ltb n.max top) (Give c) (Refuse Exhausted))

-- the node in a node's bytes
abbrev pub node_in : (node : Bytes) → Node
node_in b = (decode_node b).node

-- the record takes its place among the others
abbrev pub with_stored : (rec : Rec) (entry : Entry) → Entry
with_stored r e = with_recs (store r e.node.recs) e

-- what a decision answers, and the node's bytes after it
abbrev pub decided : (key : Bytes) (decision : Decision) (node : Bytes) → Given (Result (Unit {0}) Refusal) Bytes
decided k d b = given (answer_of d) (encode_node (with_node (act k d (node_in b)) (decode_node b)))

abbrev pub node_granted : (place : Place) (key : Bytes) (change : Change) (node : Bytes) → Given (Result (Unit {0}) Refusal) Bytes
node_granted p k c b = decided k (allowed_at p c (node_in b)) b
