-- The bytes of a table in lent memory: its area, in which the nodes stand (Whole has what stands behind it). All places are fixed and all numbers
-- little-endian; every byte that is not in use is zero. So a table that obeys the rules and its bytes determine each other, and a removed reading leaves
-- no byte behind.
use Rattle.std.specs.Prelude.{ℕ, zero, suc, ◌+◌, ◌*◌, Bool, ◌&&◌, List, [], ◌∷◌, length, drop}
use Rattle.fields.specs.Numbers.{Bytes, nat_of, bytes_of}
use Rattle.fields.specs.Parts.{part}
use Rattle.fields.specs.Blocks.{fit, blocks, unblock}
use Rattle.fields.specs.Widths.{joined, offset, total}
use Rattle.fields.specs.Order.{same_bytes}
use Rattle.rules.specs.Sizes.{max_nodes, max_records, max_key, max_value}
use Rattle.rules.specs.Node.{Rec, beats}
use Rattle.rules.specs.Table.{Entry, Table, obeys}
use Rattle.rules.specs.Delta.{status_byte}
use Rattle.rules.specs.declared.Status.{Status}
use Rattle.rules.specs.declared.Status.TheVariants.{Set, Delete, Ttl}

-- ---- a record: key length, key, value length, value, version, status, start

abbrev pub rec_widths : List ℕ
rec_widths = 1 ∷ max_key ∷ 1 ∷ max_value ∷ 8 ∷ 1 ∷ 8 ∷ []

abbrev pub rec_width : ℕ
rec_width = total rec_widths

abbrev pub rec_fields : (rec : Rec) → List (List ℕ)
rec_fields r =
    bytes_of 1 (length r.kv.key)
    ∷ fit max_key r.kv.key
    ∷ bytes_of 1 (length r.kv.value)
    ∷ fit max_value r.kv.value
    ∷ bytes_of 8 r.kv.version
    ∷ bytes_of 1 (status_byte r.kv.status)
    ∷ bytes_of 8 r.start
    ∷ []

unfoldable pub encode_rec : (rec : Rec) → Bytes
encode_rec r = joined (rec_fields r)

abbrev pub status_of_byte : ℕ → Status
status_of_byte zero = Set
status_of_byte (suc zero) = Delete
status_of_byte (suc (suc n)) = Ttl

unfoldable pub decode_rec : (bytes : Bytes) → Rec
decode_rec b =
    record {
      kv =
          record {
            key = part (offset rec_widths 1) (nat_of (part (offset rec_widths 0) 1 b)) b;
            value = part (offset rec_widths 3) (nat_of (part (offset rec_widths 2) 1 b)) b;
            version = nat_of (part (offset rec_widths 4) 8 b);
            status = status_of_byte (nat_of (part (offset rec_widths 5) 1 b));
          };
      start = nat_of (part (offset rec_widths 6) 8 b);
    }

-- ---- a node: number, heartbeat, max, last_gc, count of records, room for 32 of them

abbrev pub node_widths : List ℕ
node_widths = 8 ∷ 8 ∷ 8 ∷ 8 ∷ 1 ∷ max_records * rec_width ∷ []

abbrev pub node_width : ℕ
node_width = total node_widths

-- where record j begins in a node's bytes
abbrev pub rec_place : (j : ℕ) → ℕ
rec_place j = offset node_widths 5 + j * rec_width

abbrev pub node_fields : (entry : Entry) → List (List ℕ)
node_fields e =
    bytes_of 8 e.number
    ∷ bytes_of 8 e.node.heartbeat.0
    ∷ bytes_of 8 e.node.max
    ∷ bytes_of 8 e.node.last_gc
    ∷ bytes_of 1 (length e.node.recs)
    ∷ blocks max_records rec_width encode_rec e.node.recs
    ∷ []

unfoldable pub encode_node : (entry : Entry) → Bytes
encode_node e = joined (node_fields e)

unfoldable pub decode_node : (bytes : Bytes) → Entry
decode_node b =
    record {
      number = nat_of (part (offset node_widths 0) 8 b);
      node =
          record {
            heartbeat = beats (nat_of (part (offset node_widths 1) 8 b));
            max = nat_of (part (offset node_widths 2) 8 b);
            last_gc = nat_of (part (offset node_widths 3) 8 b);
            recs = unblock rec_width decode_rec (nat_of (part (offset node_widths 4) 1 b)) (drop (offset node_widths 5) b);
          };
    }

-- ---- a table: count of nodes, room for 8 of them

abbrev pub table_widths : List ℕ
table_widths = 1 ∷ max_nodes * node_width ∷ []

-- how long the area is
abbrev pub table_width : ℕ
table_width = total table_widths

-- where node i begins in a table's bytes
abbrev pub node_place : (i : ℕ) → ℕ
node_place i = offset table_widths 1 + i * node_width

abbrev pub table_fields : (table : Table) → List (List ℕ)
table_fields t = bytes_of 1 (length t) ∷ blocks max_nodes node_width encode_node t ∷ []

unfoldable pub encode : (table : Table) → Bytes
encode t = joined (table_fields t)

unfoldable pub decode : (bytes : Bytes) → Table
decode l = unblock node_width decode_node (nat_of (part (offset table_widths 0) 1 l)) (drop (offset table_widths 1) l)

-- the bytes are those of a table that obeys the rules
unfoldable pub valid : (bytes : Bytes) → Bool
valid l = obeys (decode l) && same_bytes (encode (decode l)) l
