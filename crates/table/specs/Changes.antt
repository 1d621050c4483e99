-- A node under its number with one thing changed: what a writer on the bytes of a good table leaves.
use Rattle.std.specs.Prelude.{ℕ, List, set}
use Rattle.fields.specs.Numbers.{Bytes}
use Rattle.fields.specs.Blocks.{insert_at}
use Rattle.rules.specs.Node.{Rec, Node, fresh}
use Rattle.rules.specs.Table.{Entry}
use Rattle.rules.specs.declared.Heartbeat.{Heartbeat}
use Rattle.rules.specs.declared.Status.{Status}

abbrev pub with_node : (node : Node) (entry : Entry) → Entry
with_node n e = record { number = e.number; node = n }

abbrev pub with_beat : (heartbeat : Heartbeat) (entry : Entry) → Entry
with_beat h e = with_node (record { heartbeat = h; max = e.node.max; last_gc = e.node.last_gc; recs = e.node.recs }) e

abbrev pub with_max : (max : ℕ) (entry : Entry) → Entry
with_max m e = with_node (record { heartbeat = e.node.heartbeat; max = m; last_gc = e.node.last_gc; recs = e.node.recs }) e

abbrev pub with_gc : (gc : ℕ) (entry : Entry) → Entry
with_gc g e = with_node (record { heartbeat = e.node.heartbeat; max = e.node.max; last_gc = g; recs = e.node.recs }) e

abbrev pub with_recs : (recs : List Rec) (entry : Entry) → Entry
with_recs l e = with_node (record { heartbeat = e.node.heartbeat; max = e.node.max; last_gc = e.node.last_gc; recs = l }) e

-- record j becomes this one, this one comes before record j, record j goes
abbrev pub with_rec_at : (j : ℕ) (rec : Rec) (entry : Entry) → Entry
with_rec_at j r e = with_recs (set e.node.recs j r) e

abbrev pub with_new_rec : (j : ℕ) (rec : Rec) (entry : Entry) → Entry
with_new_rec j r e = with_recs (insert_at j r e.node.recs) e

-- a fresh node under this number
abbrev pub fresh_entry : (number : ℕ) → Entry
fresh_entry i = record { number = i; node = fresh }

-- a record by its parts
abbrev pub rec_of : (key value : Bytes) (version : ℕ) (status : Status) (start : ℕ) → Rec
rec_of k v n s start = record { kv = record { key = k; value = v; version = n; status = s }; start = start }
