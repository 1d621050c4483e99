-- What is read at a place of the bytes: record i of a node and node i of a table, and their fields, for bytes of the right length with any
-- contents. Assumes nothing.
use Prim.Native.Nat.{ℕ, suc, ◌+◌, ◌*◌, ◌≤◌, ◌<◌}
use mathlib.Core.Path.{◌≡◌, ap, sym, ◌∙◌}
use mathlib.Core.Bool.{true}
use mathlib.Core.List.{List, ◌∷◌}
use native.Mathlib.Omega.{arith}
use native.Mathlib.Nat.{add-zero}
use lib.ListN.{length, drop, get_or}
use Rattle.fields.specs.Numbers.{Bytes, nat_of}
use Rattle.fields.specs.Parts.{part}
use Rattle.fields.specs.Blocks.{unblock, all_blocks}
use Rattle.fields.specs.Widths.{offset}
use Rattle.fields.proofs.Parts.{part-part, part-drop}
use Rattle.fields.proofs.Blocks.{unblock-drop, unblock-at, length-unblock, all-blocks-at}
use Rattle.rules.specs.Sizes.{max_nodes, max_records}
use Rattle.rules.specs.Node.{Rec}
use Rattle.rules.specs.Table.{Entry}
use Rattle.rules.specs.Layout.{node_place, rec_place, rec_widths, rec_width, node_widths, node_width, table_width, decode_rec, decode_node, decode}
use Rattle.table.specs.Tests.{count_of, nodes_of, recs_in, rec_good}
pub use Rattle.table.specs.Places.{rec_bytes, rec_at}

-- ---- in a node's bytes

pub length-recs : (b : List ℕ) → length (recs_in b) ≡ count_of b
unfolding decode_node
length-recs b = length-unblock rec_width decode_rec (count_of b) (drop (rec_place 0) b)

pub recs-drop : (i : ℕ) (b : List ℕ) → i < count_of b → drop i (recs_in b) ≡ rec_at i b ∷ drop (suc i) (recs_in b)
unfolding decode_node
recs-drop i b h =
    unblock-drop rec_width decode_rec i (count_of b) (drop (rec_place 0) b) h
    ∙ ap (λ (r : List ℕ). decode_rec r ∷ drop (suc i) (unblock rec_width decode_rec (count_of b) (drop (rec_place 0) b))) (part-drop (i * rec_width) rec_width (rec_place 0) b)

pub recs-at : (i : ℕ) (b : List ℕ) (d : Rec) → i < count_of b → get_or (recs_in b) i d ≡ rec_at i b
unfolding decode_node
recs-at i b d h = unblock-at rec_width decode_rec i (count_of b) (drop (rec_place 0) b) d h ∙ ap decode_rec (part-drop (i * rec_width) rec_width (rec_place 0) b)

-- a part of record i
pub in-rec : (i a n : ℕ) (b : List ℕ) → length b ≡ node_width → i < max_records → a + n ≤ rec_width → part a n (rec_bytes i b) ≡ part (rec_place i + a) n b
in-rec i a n b e h g = part-part a n (rec_place i) rec_width b g (omega arith)

-- it is good where all are
pub good-at : (max i n : ℕ) (b : List ℕ) → all_blocks (rec_good max) rec_width n (drop (offset node_widths 5) b) ≡ true → i < n → rec_good max (rec_bytes i b) ≡ true
good-at max i n b t h =
    ap (rec_good max) (sym (part-drop (i * rec_width) rec_width (offset node_widths 5) b)) ∙ all-blocks-at (rec_good max) rec_width n (drop (offset node_widths 5) b) t i h

-- ---- in a table's bytes

-- the bytes of node i, and what is read in them
abbrev pub node_bytes : (i : ℕ) (table : Bytes) → Bytes
node_bytes i table = part (node_place i) node_width table

abbrev pub node_at : (i : ℕ) (table : Bytes) → Entry
node_at i table = decode_node (node_bytes i table)

pub decode-drop : (i : ℕ) (l : List ℕ) → i < nodes_of l → drop i (decode l) ≡ node_at i l ∷ drop (suc i) (decode l)
unfolding decode
decode-drop i l h =
    unblock-drop node_width decode_node i (nodes_of l) (drop (node_place 0) l) h
    ∙ ap (λ (r : List ℕ). decode_node r ∷ drop (suc i) (unblock node_width decode_node (nodes_of l) (drop (node_place 0) l))) (part-drop (i * node_width) node_width (node_place 0) l)

pub decode-at : (i : ℕ) (l : List ℕ) (d : Entry) → i < nodes_of l → get_or (decode l) i d ≡ node_at i l
unfolding decode
decode-at i l d h = unblock-at node_width decode_node i (nodes_of l) (drop (node_place 0) l) d h ∙ ap decode_node (part-drop (i * node_width) node_width (node_place 0) l)

-- a part of node i
pub in-node : (i a n : ℕ) (l : List ℕ) → length l ≡ table_width → i < max_nodes → a + n ≤ node_width → part a n (node_bytes i l) ≡ part (node_place i + a) n l
in-node i a n l e h g = part-part a n (node_place i) node_width l g (omega arith)

pub number_at : (i : ℕ) (l : List ℕ) → length l ≡ table_width → i < max_nodes → (node_at i l).number ≡ nat_of (part (node_place i) 8 l)
unfolding decode_node
number_at i l e h = ap nat_of (in-node i 0 8 l e h (omega arith) ∙ ap (λ (k : ℕ). part k 8 l) (add-zero (node_place i)))

pub version-at : (i : ℕ) (b : List ℕ) → length b ≡ node_width → i < max_records → (rec_at i b).kv.version ≡ nat_of (part (rec_place i + offset rec_widths 4) 8 b)
unfolding decode_rec
version-at i b e h = ap nat_of (in-rec i (offset rec_widths 4) 8 b e h (omega arith))
