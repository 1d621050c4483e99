-- What fits into the layout, whether or not it obeys the rules: lengths within the sizes and numbers of eight bytes. A writer on a good table needs
-- no more than this of what it finds, and a chain of writers may break a rule between its first step and its last.
use Rattle.std.specs.Prelude.{◌≤◌, ◌<◌, true, ◌≡◌, length}
use Rattle.fields.specs.Choice.{◌∈◌}
use Rattle.fields.specs.Numbers.{Bytes}
use Rattle.rules.specs.Sizes.{max_nodes, max_records, max_key, max_value, max_removed, numbers}
use Rattle.rules.specs.Node.{Rec}
use Rattle.rules.specs.Table.{Entry, Table}
use Rattle.rules.specs.Layout.{node_width, table_width, encode_node, decode_node, encode, decode}
use Rattle.rules.specs.Memory.{Removed, removed_obeys}
use Rattle.rules.specs.Whole.{tail_width, encode_tail, decode_tail, decode_memory}
use Rattle.table.specs.Tests.{count_of, nodes_of, removed_in}

pub record FitsRec (r : Rec) : Type 0 where
  pub key_fits : length r.kv.key ≤ max_key
  pub value-fits : length r.kv.value ≤ max_value
  pub version_high : r.kv.version < numbers
  pub start_high : r.start < numbers

pub record FitsEntry (e : Entry) : Type 0 where
  pub number_high : e.number < numbers
  pub beat_high : e.node.heartbeat.0 < numbers
  pub max_high : e.node.max < numbers
  pub gc_high : e.node.last_gc < numbers
  pub few : length e.node.recs ≤ max_records
  pub each : (r : Rec) → r ∈ e.node.recs → FitsRec r

pub record FitsTable (t : Table) : Type 0 where
  pub few : length t ≤ max_nodes
  pub each : (e : Entry) → e ∈ t → FitsEntry e

-- the bytes are those of the node that is read in them, and it fits
pub record LaidNode (b : Bytes) : Type 0 where
  pub long : length b ≡ node_width
  pub few : count_of b ≤ max_records
  pub fits : FitsEntry (decode_node b)
  pub is : encode_node (decode_node b) ≡ b

-- the bytes are those of the table that is read in them, and it fits
pub record LaidTable (l : Bytes) : Type 0 where
  pub long : length l ≡ table_width
  pub few : nodes_of l ≤ max_nodes
  pub fits : FitsTable (decode l)
  pub is : encode (decode l) ≡ l

-- the bytes are those of the tail that is read in them, and its memory fits
pub record LaidTail (b : Bytes) : Type 0 where
  pub long : length b ≡ tail_width
  pub few : removed_in b ≤ max_removed
  pub fits : (r : Removed) → r ∈ decode_memory b → removed_obeys r ≡ true
  pub is : encode_tail (decode_tail b) (decode_memory b) ≡ b
