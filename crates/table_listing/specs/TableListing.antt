-- The listing that `showtable` prints of a stored table: a line for its kind, one for each node with its records behind it, one for each removed node, and one
-- for the end, each closed by a line feed. Bytes of key and value are shown as in the listing of a delta. Bytes that are no good table print one line, with the
-- first thing that is wrong where it has a name.
use Rattle.std.specs.Prelude.{ℕ, zero, suc, ◌+◌, ◌*◌, [], ◌∷◌, ◌++◌, length, take, drop, eqb, leb, ltb}
use Rattle.fields.specs.Choice.{pick}
use Rattle.fields.specs.Numbers.{Bytes}
use Rattle.fields.specs.Blocks.{flat}
use Rattle.rules.specs.Given.{Given}
use Rattle.rules.specs.Answers.{mode_of, profile_of}
use Rattle.rules.specs.Sizes.{max_nodes, max_records, max_removed}
use Rattle.rules.specs.Node.{Rec}
use Rattle.rules.specs.Table.{Entry, Table}
use Rattle.rules.specs.Memory.{Memory, Removed}
use Rattle.rules.specs.Profile.{Kind}
use Rattle.rules.specs.Layout.{node_place, node_width}
use Rattle.rules.specs.Whole.{Whole, mode_of_byte, profile_of_byte, area_of, tail_of, whole_width, decode_whole, valid_whole}
use Rattle.rules.specs.Digest.{write_bytes}
use Rattle.rules.specs.Listing.{ascii, line_feed}
use Rattle.rules.specs.declared.Mode.{Mode}
use Rattle.rules.specs.declared.Mode.TheVariants.{Plain, Fenced, Guarded}
use Rattle.rules.specs.declared.Profile.{Profile}
use Rattle.rules.specs.declared.Profile.TheVariants.{Free, Meter, Shared}
use Rattle.std.specs.Prelude.{Result}
use Rattle.rules.specs.declared.Refusal.{Refusal}
use Rattle.table.specs.Tests.{mode_in, profile_in, nodes_of, node_good}
use Rattle.listing_text.specs.Texts.{named, numbered}
use Rattle.listing_room.specs.Room.{last_number, last_two, status_word}

-- ---- a good table

abbrev pub mode_text : (mode : Mode) → Bytes
mode_text Plain = ascii "mode=plain"
mode_text Fenced = ascii "mode=fenced"
mode_text Guarded = ascii "mode=guarded"

abbrev pub profile_text : (profile : Profile) → Bytes
profile_text Free = ascii " profile=free"
profile_text Meter = ascii " profile=meter"
profile_text Shared = ascii " profile=shared"

unfoldable pub kind_line : (kind : Kind) → Bytes
kind_line k = mode_text k.mode ++ (profile_text k.profile ++ line_feed)

-- a node: number, heartbeat, max, last_gc
unfoldable pub node_line : (entry : Entry) → Bytes
node_line e =
    numbered (ascii "node=") e.number
    ++ (numbered (ascii " heartbeat=") e.node.heartbeat.0 ++ last_two (ascii " max=") e.node.max (ascii " gc=") e.node.last_gc)

-- a record: its key and value as they are shown, then version, status and start
abbrev pub texts_text : (rec : Rec) → Bytes
texts_text r = named (ascii "key=") r.kv.key ++ named (ascii " value=") r.kv.value

abbrev pub rest_text : (rec : Rec) → Bytes
rest_text r = numbered (ascii " version=") r.kv.version ++ (status_word r.kv.status ++ last_number (ascii " start=") r.start)

unfoldable pub record_line : (rec : Rec) → Bytes
record_line r = texts_text r ++ rest_text r

unfoldable pub entry_text : (entry : Entry) → Bytes
entry_text e = node_line e ++ flat record_line e.node.recs

-- a removed node: number, last heartbeat
unfoldable pub removed_line : (removed : Removed) → Bytes
removed_line r = last_two (ascii "removed=") r.number (ascii " heartbeat=") r.heartbeat.0

-- how many records the nodes have together
unfoldable pub records_of : (table : Table) → ℕ
records_of [] = 0
records_of (e ∷ t) = length e.node.recs + records_of t

unfoldable pub end_text : (nodes records removed : ℕ) → Bytes
end_text nodes records removed = numbered (ascii "end=ok nodes=") nodes ++ last_two (ascii " records=") records (ascii " removed=") removed

-- what stands behind the nodes: those that were removed, and the end
abbrev pub behind_nodes : (table : Table) (memory : Memory) → Bytes
behind_nodes t m = flat removed_line m ++ end_text (length t) (records_of t) (length m)

unfoldable pub whole_text : (whole : Whole) → Bytes
whole_text w = kind_line w.kind ++ (flat entry_text w.table ++ behind_nodes w.table w.memory)

-- ---- bytes that are none

-- the one line, with a name and a number; and where nothing is named
unfoldable pub wrong_line : (name : Bytes) (v : ℕ) → Bytes
wrong_line name v = ascii "end=refused code=14" ++ last_number name v

unfoldable pub refused_line : Bytes
refused_line = ascii "end=refused code=14" ++ line_feed

-- the place of the first of n nodes whose bytes are none of a node that obeys; n where there is none such
unfoldable pub first_bad : (n : ℕ) (nodes : Bytes) → ℕ
first_bad zero l = 0
first_bad (suc n) l = pick (node_good (take node_width l)) (suc (first_bad n (drop node_width l))) 0

abbrev pub bad_place : (bytes : Bytes) → ℕ
bad_place l = first_bad (nodes_of l) (drop (node_place 0) l)

-- a byte that stands for no mode, for no profile
abbrev pub wrong_tail : (tail : Bytes) → Bytes
wrong_tail b =
    pick (eqb (mode_of (mode_of_byte (mode_in b))) (mode_in b))
    (pick (eqb (profile_of (profile_of_byte (profile_in b))) (profile_in b)) refused_line (wrong_line (ascii " profile=") (profile_in b)))
    (wrong_line (ascii " mode=") (mode_in b))

-- more than eight nodes, the place of a node, then the tail
abbrev pub wrong_area : (area tail : Bytes) → Bytes
wrong_area l b =
    pick (leb (nodes_of l) max_nodes)
    (pick (ltb (bad_place l) (nodes_of l)) (wrong_line (ascii " place=") (bad_place l)) (wrong_tail b))
    (wrong_line (ascii " nodes=") (nodes_of l))

-- another length comes first
unfoldable pub wrong_text : (bytes : Bytes) → Bytes
wrong_text l = pick (eqb (length l) whole_width) (wrong_area (area_of l) (tail_of l)) (wrong_line (ascii " length=") (length l))

-- ---- any bytes

unfoldable pub table_listing : (bytes : Bytes) → Bytes
table_listing l = pick (valid_whole l) (whole_text (decode_whole l)) (wrong_text l)

-- the listing as a call: at the front of a lent buffer, and 8 with the buffer untouched where it is too short
abbrev pub list_table : (table out : Bytes) → Given (Result ℕ Refusal) Bytes
list_table table out = write_bytes (table_listing table) 0 out

-- how long it is at most: the kind, 8 nodes with 32 records each, 16 removed nodes, the end
abbrev pub longest_listing : ℕ
longest_listing = 28 + (max_nodes * (106 + max_records * 370) + (max_removed * 60 + 92))
