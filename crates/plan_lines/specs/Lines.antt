-- A line of a plan by the place of its node in the table, and what the first pass says of it. That the operations are those of `plan` is proved (proofs/Placed).
use Rattle.std.specs.Prelude.{ℕ, List, ◌∷◌, map, ltb, length, take}
use Rattle.std.proofs.Math.Option.{Option, none, some}
use Rattle.fields.specs.Choice.{pick}
use Rattle.rules.specs.Compute.{body_ops, key_value_ops, stale}
use Rattle.rules.specs.Delta.{Op, delta_bytes}
use Rattle.rules.specs.Node.{KeyValue}
use Rattle.rules.specs.Table.{Table}
use Rattle.table_read.specs.Find.{entry_at}
use Rattle.compute_write.specs.Sending.{node_op_at, record_at}
use Rattle.plan.specs.declared.Fault.{Fault}
use Rattle.plan_lines.specs.declared.Above.{Above}
use Rattle.std.specs.Prelude.{Err, Ok, Result}

abbrev pub as_line : (fault : Option Fault) (size : ℕ) → (Result ℕ Fault)
as_line none size = Ok size
as_line (some why) size = Err why

-- the records of the node at p at these places
abbrev pub records_at : (table : Table) (p : ℕ) (places : List ℕ) → List Op
records_at t p qs = key_value_ops (map (record_at t p) qs)

-- the Node operation of the node at p, then its records at these places, or SetMaxVersion where there are none
abbrev pub ops_at : (table : Table) (p from : ℕ) (places : List ℕ) → List Op
ops_at t p from qs = node_op_at t p from ∷ body_ops (entry_at t p).node.max (map (record_at t p) qs)

-- the line with this count: its lowest versions
abbrev pub line_at : (table : Table) (p from count : ℕ) → List Op
line_at t p from c = node_op_at t p from ∷ body_ops (entry_at t p).node.max (take c (stale from (entry_at t p).node.recs))

-- so many records, and their bytes as operations
abbrev pub above_of : (stale : List KeyValue) → Above
above_of kvs = record { count = length kvs; bytes = length (delta_bytes (key_value_ops kvs)) }

-- the smaller of the count and the stale records
abbrev pub taken : (count stale : ℕ) → ℕ
taken c n = pick (ltb c n) c n
