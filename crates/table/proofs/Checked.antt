-- The tests of a table's bytes come to the same as `valid`, for a slice of any length and contents. Assumes nothing.
use Prim.Native.Nat.{ℕ, ◌*◌, ◌-◌, ◌≤◌, ◌<◌}
use mathlib.Core.Path.{◌≡◌, refl, ap, sym, ◌∙◌}
use mathlib.Core.Bool.{Bool, true, false, ◌&&◌}
use mathlib.Core.List.{List, []}
use native.Mathlib.Omega.{arith}
use lib.ListN.{length, drop, get_or, length-drop}
use lib.Dec.{eqb}
use borrow.Author.Tests.{leb-true, le-leb, eqb-true, eq-eqb}
use Rattle.fields.specs.Choice.{every}
use Rattle.fields.specs.Numbers.{AreBytes}
use Rattle.fields.specs.Parts.{part}
use Rattle.fields.specs.Blocks.{blocks, unblock, all_zero, all_blocks}
use Rattle.fields.proofs.Choice.{every-at, same_test, and_left, and_right, and_last, all_in, at_in, in-at}
use Rattle.fields.proofs.Numbers.{part-back, bytes-part, bytes_drop}
use Rattle.fields.proofs.Parts.{length_part, part-drop}
use Rattle.fields.proofs.Blocks.{length-unblock, unblock-at, block, blocks-back, all-blocks-at, at-all-blocks}
use Rattle.fields.proofs.Widths.{joined-whole}
use Rattle.rules.specs.Sizes.{max_nodes}
use Rattle.rules.specs.Table.{Entry, Table, entry_obeys, rising, numbers_of, obeys}
use Rattle.rules.specs.Layout.{node_place, node_width, table_widths, table_width, encode_node, decode_node, encode, decode, valid}
use Rattle.table.specs.Tests.{node_good, nodes_of, table_tests, table_good}
use Rattle.table.proofs.Records.{every-no}
use Rattle.table.proofs.Nodes.{obeys-entry, length-node, encode-decode-node, obeys-decode-node, node-good}
use Rattle.table.proofs.Tables.{ObeysTable, table-obeys, obeys-table, node-obeys, length-table, nodes-room, nodes-count, room-zero, behind-count, decode-encode, encode-decode, valid-obeys, valid-long, valid-by}

-- the bytes of a table that obeys pass the tests
pub table-good : (t : Table) → obeys t ≡ true → table_good (encode t) ≡ true
unfolding table_good blocks
table-good t o =
    let p : ObeysTable t = table-obeys t o in
    let n : ℕ = length t in
    let d : Entry = decode_node [] in
    let one : (i : ℕ) → i < n → node_good (part (i * node_width) node_width (blocks max_nodes node_width encode_node t)) ≡ true =
    λ i h. ap node_good (block encode_node node_width length-node max_nodes t p.few i d h) ∙ node-good (get_or t i d) (node-obeys t p (get_or t i d) (in-at t i d h)) in
    let goods : all_blocks node_good node_width n (drop (node_place 0) (encode t)) ≡ true = ap (all_blocks node_good node_width n) (nodes-room t) ∙ at-all-blocks node_good node_width n _ one in
    let rise : rising (numbers_of (decode (encode t))) ≡ true = ap (λ (u : Table). rising (numbers_of u)) (decode-encode t o) ∙ p.rise in
    rw (table_good, eq-eqb (length (encode t)) table_width (length-table t), nodes-count t p.few, le-leb n max_nodes p.few, goods, rise, room-zero t p.few)

-- ---- bytes that pass the tests

module _ (l : List ℕ) (h : AreBytes l) (good : table_good l ≡ true) where
  long : length l ≡ table_width
  unfolding table_good
  long = eqb-true (length l) table_width (and_left _ (every (table_tests l)) good)

  at : (k : ℕ) → get_or (table_tests l) k true ≡ true
  unfolding table_good
  at k = every-at (table_tests l) (and_right (eqb (length l) table_width) (every (table_tests l)) good) k

  few-nodes : nodes_of l ≤ max_nodes
  few-nodes = leb-true _ _ (at 0)

  room-long : length (drop (node_place 0) l) ≡ max_nodes * node_width
  room-long = rw (length-drop, long) refl

  room-bytes : (i : ℕ) → AreBytes (part (i * node_width) node_width (drop (node_place 0) l))
  room-bytes i = bytes-part (i * node_width) node_width (drop (node_place 0) l) (bytes_drop (node_place 0) l h)

  block-long : (i : ℕ) → i < nodes_of l → length (part (i * node_width) node_width (drop (node_place 0) l)) ≡ node_width
  block-long i g = length_part (i * node_width) node_width (drop (node_place 0) l) (omega (arith, few-nodes, room-long))

  each-good : (i : ℕ) → i < nodes_of l → node_good (part (i * node_width) node_width (drop (node_place 0) l)) ≡ true
  each-good i g = all-blocks-at node_good node_width (nodes_of l) (drop (node_place 0) l) (at 1) i g

  good-back : encode (decode l) ≡ l
  unfolding encode decode
  good-back =
      let n : ℕ = nodes_of l in
      let rest : all_zero (part (n * node_width) ((max_nodes - n) * node_width) (drop (node_place 0) l)) ≡ true =
      ap all_zero (part-drop (n * node_width) ((max_nodes - n) * node_width) 1 l) ∙ at 3 in
      let room : blocks max_nodes node_width encode_node (unblock node_width decode_node n (drop (node_place 0) l)) ≡ part (node_place 0) (max_nodes * node_width) l =
      blocks-back encode_node decode_node node_width length-node max_nodes n (drop (node_place 0) l) room-long few-nodes
      (λ i g. encode-decode-node (part (i * node_width) node_width (drop (node_place 0) l)) (block-long i g) (room-bytes i) (each-good i g)) rest
      ∙ behind-count l long in
      rw (length-unblock node_width decode_node n (drop (node_place 0) l), room, part-back 0 1 l h (omega (arith, long))) (joined-whole table_widths l long)

  good-obeys : obeys (decode l) ≡ true
  unfolding decode
  good-obeys =
      let n : ℕ = nodes_of l in
      let t : Table = unblock node_width decode_node n (drop (node_place 0) l) in
      let d : Entry = decode_node [] in
      let tl : length t ≡ n = length-unblock node_width decode_node n (drop (node_place 0) l) in
      let one : (i : ℕ) → i < length t → entry_obeys (get_or t i d) ≡ true =
      λ i g. ap entry_obeys (unblock-at node_width decode_node i n (drop (node_place 0) l) d (omega arith))
      ∙ obeys-entry _ (obeys-decode-node (part (i * node_width) node_width (drop (node_place 0) l)) (block-long i (omega arith)) (room-bytes i) (each-good i (omega arith))) in
      obeys-table t (record { few = rw tl few-nodes; rise = at 2; each = all_in entry_obeys t (at_in (λ e. entry_obeys e ≡ true) t d one) })

-- the check of number 14 as plain tests
pub valid-is : (l : List ℕ) → AreBytes l → valid l ≡ table_good l
valid-is l h =
    same_test (valid l) (table_good l) (λ v. ap table_good (sym (encode-decode l v)) ∙ table-good (decode l) (valid-obeys l v))
    (λ g. valid-by l (good-obeys l h g) (good-back l h g))

-- ---- the same test by test

-- a slice of another length
pub length-stop : (l : List ℕ) → (length l ≡ table_width → ⊥) → false ≡ valid l
length-stop l h = go (valid l) refl
  where
    go : (t : Bool) → valid l ≡ t → false ≡ t
    go true e = absurd (h (valid-long l e))
    go false e = refl

-- no test may fail
pub table-stop : (l : List ℕ) → AreBytes l → (k : ℕ) → get_or (table_tests l) k true ≡ false → false ≡ valid l
unfolding table_good
table-stop l h k e = sym (valid-is l h ∙ ap (λ (t : Bool). eqb (length l) table_width && t) (every-no (table_tests l) k e) ∙ never (eqb (length l) table_width))
  where
    never : (s : Bool) → s && false ≡ false
    never true = refl
    never false = refl

-- where all others hold, the last decides
pub table-pass : (l : List ℕ) → AreBytes l → (t : Bool) → length l ≡ table_width → get_or (table_tests l) 0 true ≡ true → get_or (table_tests l) 1 true ≡ true
    → get_or (table_tests l) 2 true ≡ true → get_or (table_tests l) 3 true ≡ t → t ≡ valid l
unfolding table_good
table-pass l h t e h0 h1 h2 h3 = sym (valid-is l h ∙ rw (table_good, eq-eqb (length l) table_width e, h0, h1, h2, h3) (and_last t))
