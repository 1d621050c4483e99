-- The check behind number 14 as plain tests of bytes, from left to right. `valid` says what a good area is, and `valid_whole` what a good table is: the
-- bytes of a table that obeys the rules. These tests say how one sees it on the bytes; that they come to the same is proved (proofs/Checked, Wholes).
use Rattle.std.specs.Prelude.{ℕ, ◌+◌, ◌*◌, ◌-◌, Bool, ◌&&◌, List, [], ◌∷◌, length, drop, leb, eqb}
use Rattle.fields.specs.Choice.{every}
use Rattle.fields.specs.Numbers.{Bytes, nat_of}
use Rattle.fields.specs.Parts.{part}
use Rattle.fields.specs.Blocks.{all_zero, all_blocks}
use Rattle.fields.specs.Widths.{offset}
use Rattle.rules.specs.Sizes.{max_nodes, max_records, max_key, max_value, max_removed}
use Rattle.rules.specs.Node.{Rec}
use Rattle.rules.specs.Table.{keys_rise, versions, differ, rising, numbers_of}
use Rattle.rules.specs.Layout.{rec_widths, rec_width, node_widths, node_width, table_widths, table_width, decode_node, decode, valid}
use Rattle.rules.specs.Memory.{removed_numbers, apart}
use Rattle.rules.specs.Profile.{profile_obeys}
use Rattle.rules.specs.Whole.{tail_widths, removed_width, removed_place, whole_width, area_of, tail_of, profile_of_byte, decode_memory}

-- ---- a record's bytes, in a node with this max

abbrev pub key_length : (rec : Bytes) → ℕ
key_length b = nat_of (part (offset rec_widths 0) 1 b)

abbrev pub value_length : (rec : Bytes) → ℕ
value_length b = nat_of (part (offset rec_widths 2) 1 b)

abbrev pub version_of : (rec : Bytes) → ℕ
version_of b = nat_of (part (offset rec_widths 4) 8 b)

-- zeros behind the text of k bytes that stands at `at` in room for n
abbrev pub clean : (at n k : ℕ) (rec : Bytes) → Bool
clean at n k b = all_zero (part (at + k) (n - k) b)

-- lengths within the sizes, a version from 1 on and not above max, a status of the three, zeros behind key and value
abbrev pub rec_tests : (max : ℕ) (rec : Bytes) → List Bool
rec_tests max b =
    leb (key_length b) max_key
    ∷ leb (value_length b) max_value
    ∷ leb 1 (version_of b)
    ∷ leb (version_of b) max
    ∷ leb (nat_of (part (offset rec_widths 5) 1 b)) 2
    ∷ clean (offset rec_widths 1) max_key (key_length b) b
    ∷ clean (offset rec_widths 3) max_value (value_length b) b
    ∷ []

unfoldable pub rec_good : (max : ℕ) (rec : Bytes) → Bool
rec_good max b = every (rec_tests max b)

-- ---- a node's bytes

abbrev pub max_in : (node : Bytes) → ℕ
max_in b = nat_of (part (offset node_widths 2) 8 b)

abbrev pub count_of : (node : Bytes) → ℕ
count_of b = nat_of (part (offset node_widths 4) 1 b)

-- the records that stand in a node's bytes
abbrev pub recs_in : (node : Bytes) → List Rec
recs_in b = (decode_node b).node.recs

-- at most 32 records, each good, their keys rising, their versions different, zeros behind them
abbrev pub node_tests : (node : Bytes) → List Bool
node_tests b =
    leb (count_of b) max_records
    ∷ all_blocks (rec_good (max_in b)) rec_width (count_of b) (drop (offset node_widths 5) b)
    ∷ keys_rise (recs_in b)
    ∷ differ (versions (recs_in b))
    ∷ all_zero (part (offset node_widths 5 + count_of b * rec_width) ((max_records - count_of b) * rec_width) b)
    ∷ []

unfoldable pub node_good : (node : Bytes) → Bool
node_good b = every (node_tests b)

-- ---- a table's bytes

abbrev pub nodes_of : (table : Bytes) → ℕ
nodes_of l = nat_of (part (offset table_widths 0) 1 l)

-- at most 8 nodes, each good, their numbers rising, zeros behind them
abbrev pub table_tests : (table : Bytes) → List Bool
table_tests l =
    leb (nodes_of l) max_nodes
    ∷ all_blocks node_good node_width (nodes_of l) (drop (offset table_widths 1) l)
    ∷ rising (numbers_of (decode l))
    ∷ all_zero (part (offset table_widths 1 + nodes_of l * node_width) ((max_nodes - nodes_of l) * node_width) l)
    ∷ []

unfoldable pub table_good : (table : Bytes) → Bool
table_good l = eqb (length l) table_width && every (table_tests l)

-- ---- the tail behind a table's area, and the whole

abbrev pub mode_in : (tail : Bytes) → ℕ
mode_in b = nat_of (part (offset tail_widths 0) 1 b)

abbrev pub profile_in : (tail : Bytes) → ℕ
profile_in b = nat_of (part (offset tail_widths 1) 1 b)

-- how many removed nodes the tail says that there are
abbrev pub removed_in : (tail : Bytes) → ℕ
removed_in b = nat_of (part (offset tail_widths 2) 1 b)

-- a mode of the three, a profile of the three, at most 16 removed nodes, zeros behind them, no node twice, none that is held
abbrev pub tail_tests : (held : List ℕ) (tail : Bytes) → List Bool
tail_tests held b =
    leb (mode_in b) 2
    ∷ leb (profile_in b) 2
    ∷ leb (removed_in b) max_removed
    ∷ all_zero (part (removed_place (removed_in b)) ((max_removed - removed_in b) * removed_width) b)
    ∷ differ (removed_numbers (decode_memory b))
    ∷ apart held (removed_numbers (decode_memory b))
    ∷ []

unfoldable pub tail_good : (held : List ℕ) (tail : Bytes) → Bool
tail_good held b = every (tail_tests held b)

unfoldable pub whole_good : (bytes : Bytes) → Bool
whole_good l =
    eqb (length l) whole_width
    && (valid (area_of l) && (tail_good (numbers_of (decode (area_of l))) (tail_of l) && profile_obeys (profile_of_byte (profile_in (tail_of l))) (decode (area_of l))))
