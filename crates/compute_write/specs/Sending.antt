-- Writing the operations of a line of nodes while they fit. What is still to be written and what has been are told apart, so that each step of the
-- loops leaves the whole outcome as it was.
use Rattle.std.specs.Prelude.{ℕ, zero, suc, ◌+◌, ◌-◌, List, [], ◌∷◌, ◌++◌, length, get_or, leb}
use Rattle.fields.specs.Numbers.{Bytes}
use Rattle.fields.specs.Choice.{pick}
use Rattle.fields.specs.Parts.{put}
use Rattle.rules.specs.Given.{Given, given}
use Rattle.rules.specs.Node.{KeyValue}
use Rattle.rules.specs.Table.{Table}
use Rattle.rules.specs.Delta.{Op, NodeOp, SetMaxVersionOp, op_bytes, size_of, delta_bytes}
use Rattle.rules.specs.Compute.{stale, body_ops, cut}
use Rattle.rules.specs.Layout.{decode_rec}
use Rattle.table_read.specs.Find.{entry_at}
use Rattle.rules.specs.declared.Sent.{Sent}

-- ---- the operations of the nodes at some places, whose froms stand in a list by place

abbrev pub node_op_at : (table : Table) (p from : ℕ) → Op
node_op_at t p from = NodeOp (entry_at t p).number (entry_at t p).node.last_gc from

-- record q of the node at p
abbrev pub record_at : (table : Table) (p q : ℕ) → KeyValue
record_at t p q = (get_or (entry_at t p).node.recs q (decode_rec [])).kv

-- what follows the Node operation of the node at p
abbrev pub body_at : (table : Table) (p from : ℕ) → List Op
body_at t p from = body_ops (entry_at t p).node.max (stale from (entry_at t p).node.recs)

abbrev pub ops_of_node : (table : Table) (p from : ℕ) → List Op
ops_of_node t p from = node_op_at t p from ∷ body_at t p from

unfoldable pub ops_at : (table : Table) (froms places : List ℕ) → List Op
ops_at t froms [] = []
ops_at t froms (p ∷ ps) = ops_of_node t p (get_or froms p 0) ++ ops_at t froms ps

-- ---- the outcome

abbrev pub counts : (ops bytes : ℕ) → Sent
counts ops bytes = record { ops = ops; bytes = bytes }

-- behind so many operations in the first used bytes these are written
abbrev pub behind : (ops used : ℕ) (written : List Op) (datagram : Bytes) → Given Sent Bytes
behind ops used os l = given (counts (ops + length os) (used + length (delta_bytes os))) (put used (delta_bytes os) l)

-- these are to be written behind, while they fit
unfoldable pub sending : (ops used : ℕ) (left : List Op) (datagram : Bytes) → Given Sent Bytes
sending ops used left l = behind ops used (cut (length l - used) left) l

-- what is written for a node with so many stale records: where there are none SetMaxVersion, dropped where it does not fit; else nothing
abbrev pub closed : (stale max : ℕ) (datagram : Bytes) → Given Sent Bytes
closed zero max l =
    pick (leb (size_of (SetMaxVersionOp max)) (length l))
    (given (counts 1 (size_of (SetMaxVersionOp max))) (put 0 (op_bytes (SetMaxVersionOp max)) l))
    (given (counts 0 0) l)
closed (suc n) max l = given (counts 0 0) l
