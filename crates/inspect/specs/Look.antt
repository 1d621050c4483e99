-- The small readings: what a hub needs to print a table. Each is a reading of the table that the bytes are, or a refusal; in lent bytes 14 comes first.
-- A node is named by its number (2 where there is none) or its place, a record by its place among the node's records in key order, or by its key (1
-- where that is too long). A place past the end is 8, as document 01 has it for places. Hidden records are told too: their status says so. Of a record it
-- is also told where its key and its value stand in the table. All records of a node are told in one piece too: where the first begins, and how many.
-- Records are read by a party: each reading is the plain one of the table that the party sees (`seen`), with 19 behind 2 and 1 where a key is named that it may
-- not name. So the places are those of a table with its own records alone; in the lent bytes they stand further back by the front.
use Rattle.std.specs.Prelude.{ℕ, zero, suc, ◌+◌, Bool, true, false, List, [], ◌∷◌, length, leb}
use Rattle.std.proofs.Math.Option.{Option, none, some}
use Rattle.fields.specs.Choice.{pick}
use Rattle.fields.specs.Numbers.{Bytes}
use Rattle.fields.specs.Order.{same_bytes}
use Rattle.fields.specs.Widths.{offset}
use Rattle.rules.specs.Sizes.{max_key}
use Rattle.rules.specs.Node.{Rec, Node}
use Rattle.rules.specs.Table.{Entry, Table, node_of}
use Rattle.rules.specs.Party.{sees, seen}
use Rattle.rules.specs.Layout.{rec_widths, rec_place, node_place}
use Rattle.rules.specs.Whole.{decode_whole}
use Rattle.rules.specs.Lent.{from_table}
use Rattle.rules.specs.declared.Profile.{Profile}
use Rattle.rules.specs.declared.Party.{Party}
use Rattle.rules.specs.declared.Refusal.TheVariants.{TooLong, NoNode, NoPlace, BadTable, OtherParty}
use Rattle.table_read.specs.Find.{node_start, header_of, record_of}
use Rattle.own_rows.specs.Sight.{seen_held, front_on}
use Rattle.std.specs.Prelude.{Option as Optional}
use Rattle.std.specs.Prelude.{Err, None, Ok, Result, Some}
use Rattle.inspect.specs.declared.RecordRead.{RecordRead}
use Rattle.inspect.specs.declared.Rows.{Rows}
use Rattle.rules.specs.declared.Header.{Header}
use Rattle.rules.specs.declared.Refusal.{Refusal}

-- what stands in place i, if the list goes so far
unfoldable pub element_at : {A : Type 0} (i : ℕ) (list : List A) → Option A
element_at i [] = none
element_at zero (a ∷ l) = some a
element_at (suc i) (a ∷ l) = element_at i l

-- ---- nodes

-- how many nodes are held
abbrev pub node_count : (table : Table) → (Result ℕ Refusal)
node_count table = Ok (length table)

-- the number of the node in place i
abbrev pub number_on : (there : Option Entry) → (Result ℕ Refusal)
number_on none = Err NoPlace
number_on (some e) = Ok e.number

abbrev pub node_number : (i : ℕ) (table : Table) → (Result ℕ Refusal)
node_number i table = number_on (element_at i table)

-- heartbeat, max and last_gc of a node
abbrev pub header_on : (held : Option Node) → (Result Header Refusal)
header_on none = Err NoNode
header_on (some n) = Ok (header_of n)

abbrev pub node_header : (number : ℕ) (table : Table) → (Result Header Refusal)
node_header number table = header_on (node_of number table)

-- how many records a node has, tombstones counted
abbrev pub records_on : (held : Option Node) → (Result ℕ Refusal)
records_on none = Err NoNode
records_on (some n) = Ok (length n.recs)

abbrev pub record_count : (number : ℕ) (table : Table) → (Result ℕ Refusal)
record_count number table = records_on (node_of number table)

-- ---- records

-- record j of a node whose bytes begin at `start` in a table's: where its key and its value begin in them, and its numbers
abbrev pub key_place : (start j : ℕ) → ℕ
key_place start j = start + rec_place j + offset rec_widths 1

abbrev pub value_place : (start j : ℕ) → ℕ
value_place start j = start + rec_place j + offset rec_widths 3

abbrev pub read_rec : (start j : ℕ) (rec : Rec) → (Result (Optional RecordRead) Refusal)
read_rec start j r = (Ok (Some (record { key = (key_place start j); value = (value_place start j); «record» = (record_of r) })))

-- the record in place j: 2, 8
abbrev pub read_at : (start j : ℕ) (there : Option Rec) → (Result (Optional RecordRead) Refusal)
read_at start j none = Err NoPlace
read_at start j (some r) = read_rec start j r

abbrev pub record_on : (j start : ℕ) (held : Option Node) → (Result (Optional RecordRead) Refusal)
record_on j start none = Err NoNode
record_on j start (some n) = read_at start j (element_at j n.recs)

abbrev pub read_record : (number j : ℕ) (table : Table) → (Result (Optional RecordRead) Refusal)
read_record number j table = record_on j (node_start number table) (node_of number table)

-- the record in place j of the node in place i: 8
abbrev pub record_in : (j start : ℕ) (there : Option Entry) → (Result (Optional RecordRead) Refusal)
record_in j start none = Err NoPlace
record_in j start (some e) = read_at start j (element_at j e.node.recs)

abbrev pub record_of_places : (i j : ℕ) (table : Table) → (Result (Optional RecordRead) Refusal)
record_of_places i j table = record_in j (node_place i) (element_at i table)

-- the record of a key among the node's records, the first of them being record j
unfoldable pub read_key : (key : Bytes) (start j : ℕ) (recs : List Rec) → (Result (Optional RecordRead) Refusal)
read_key key start j [] = (Ok None)
read_key key start j (r ∷ l) = pick (same_bytes key r.kv.key) (read_rec start j r) (read_key key start (suc j) l)

-- the record of a key: 2, 1
abbrev pub record_by_key_on : (key : Bytes) (start : ℕ) (held : Option Node) → (Result (Optional RecordRead) Refusal)
record_by_key_on key start none = Err NoNode
record_by_key_on key start (some n) = pick (leb (length key) max_key) (read_key key start 0 n.recs) (Err TooLong)

abbrev pub record_by_key : (number : ℕ) (key : Bytes) (table : Table) → (Result (Optional RecordRead) Refusal)
record_by_key number key table = record_by_key_on key (node_start number table) (node_of number table)

-- ---- records in one piece

-- all records of a node whose bytes begin at `start` in a table's, tombstones too: 2
abbrev pub rows_on : (start : ℕ) (held : Option Node) → (Result Rows Refusal)
rows_on start none = Err NoNode
rows_on start (some n) = (Ok (record { at = (start + rec_place 0); count = (length n.recs) }))

abbrev pub node_rows : (number : ℕ) (table : Table) → (Result Rows Refusal)
node_rows number table = rows_on (node_start number table) (node_of number table)

-- ---- by a party: in what it sees

abbrev pub record_count_as : (profile : Profile) (party : Party) (number : ℕ) (table : Table) → (Result ℕ Refusal)
record_count_as p q number table = record_count number (seen p q table)

abbrev pub read_record_as : (profile : Profile) (party : Party) (number j : ℕ) (table : Table) → (Result (Optional RecordRead) Refusal)
read_record_as p q number j table = read_record number j (seen p q table)

abbrev pub record_of_as : (profile : Profile) (party : Party) (i j : ℕ) (table : Table) → (Result (Optional RecordRead) Refusal)
record_of_as p q i j table = record_of_places i j (seen p q table)

abbrev pub node_rows_as : (profile : Profile) (party : Party) (number : ℕ) (table : Table) → (Result Rows Refusal)
node_rows_as p q number table = node_rows number (seen p q table)

-- 19 behind the others
abbrev pub unless_other : (sees : Bool) (read : (Result (Optional RecordRead) Refusal)) → (Result (Optional RecordRead) Refusal)
unless_other true r = r
unless_other false (Ok (Some r)) = Err OtherParty
unless_other false (Ok None) = Err OtherParty
unless_other false (Err r) = Err r

abbrev pub record_by_key_on_as : (profile : Profile) (party : Party) (key : Bytes) (start : ℕ) (held : Option Node) → (Result (Optional RecordRead) Refusal)
record_by_key_on_as p q key start held = unless_other (sees p q key) (record_by_key_on key start (seen_held p q held))

abbrev pub record_by_key_as : (profile : Profile) (party : Party) (number : ℕ) (key : Bytes) (table : Table) → (Result (Optional RecordRead) Refusal)
record_by_key_as p q number key table = unless_other (sees p q key) (record_by_key number key (seen p q table))

-- the front: 2
abbrev pub front_told : (profile : Profile) (party : Party) (held : Option Node) → (Result ℕ Refusal)
front_told p q none = Err NoNode
front_told p q (some n) = Ok (front_on p q (some n))

abbrev pub front_as : (profile : Profile) (party : Party) (number : ℕ) (table : Table) → (Result ℕ Refusal)
front_as p q number table = front_told p q (node_of number table)

-- ---- in lent bytes: 14 first

abbrev pub lent_node_count : (table : Bytes) → (Result ℕ Refusal)
lent_node_count table = from_table (Err BadTable) node_count table

abbrev pub lent_node_number : (i : ℕ) (table : Bytes) → (Result ℕ Refusal)
lent_node_number i table = from_table (Err BadTable) (node_number i) table

abbrev pub lent_node_header : (number : ℕ) (table : Bytes) → (Result Header Refusal)
lent_node_header number table = from_table (Err BadTable) (node_header number) table

abbrev pub lent_record_count : (party : Party) (number : ℕ) (table : Bytes) → (Result ℕ Refusal)
lent_record_count q number table = from_table (Err BadTable) (record_count_as (decode_whole table).kind.profile q number) table

abbrev pub lent_read_record : (party : Party) (number j : ℕ) (table : Bytes) → (Result (Optional RecordRead) Refusal)
lent_read_record q number j table = from_table (Err BadTable) (read_record_as (decode_whole table).kind.profile q number j) table

abbrev pub lent_record_of : (party : Party) (i j : ℕ) (table : Bytes) → (Result (Optional RecordRead) Refusal)
lent_record_of q i j table = from_table (Err BadTable) (record_of_as (decode_whole table).kind.profile q i j) table

abbrev pub lent_record_by_key : (party : Party) (number : ℕ) (key table : Bytes) → (Result (Optional RecordRead) Refusal)
lent_record_by_key q number key table = from_table (Err BadTable) (record_by_key_as (decode_whole table).kind.profile q number key) table

abbrev pub lent_node_rows : (party : Party) (number : ℕ) (table : Bytes) → (Result Rows Refusal)
lent_node_rows q number table = from_table (Err BadTable) (node_rows_as (decode_whole table).kind.profile q number) table

abbrev pub lent_front : (party : Party) (number : ℕ) (table : Bytes) → (Result ℕ Refusal)
lent_front q number table = from_table (Err BadTable) (front_as (decode_whole table).kind.profile q number) table
