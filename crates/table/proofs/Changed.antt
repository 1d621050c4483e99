-- How a change of bytes changes what is meant: a header number, a record replaced, put in or taken out, a node replaced, put in or taken out.
-- Each law starts from the bytes of a node or table and ends at the bytes of the changed one, so that a writer's outcome is one equation.
-- Assumes nothing.
use Prim.Native.Nat.{ℕ, suc, ◌+◌, ◌*◌, ◌-◌, ◌≤◌, ◌<◌}
use mathlib.Core.Path.{◌≡◌, refl, ap, sym, ◌∙◌}
use mathlib.Core.List.{List, [], append-nil}
use native.Mathlib.Omega.{arith}
use lib.ListN.{length, get_or, set, length-set}
use Rattle.fields.specs.Numbers.{bytes_of}
use Rattle.fields.specs.Parts.{part, put}
use Rattle.fields.specs.Blocks.{zeros, flat, blocks, insert_at, remove_at}
use Rattle.fields.specs.Widths.{joined, offset}
use Rattle.fields.proofs.Numbers.{length-bytes_of}
use Rattle.fields.proofs.Blocks.{zeros-add, bytes-zero, blocks_is, block, block-set}
use Rattle.fields.proofs.Widths.{field-set, field_put}
use Rattle.rules.specs.Sizes.{max_nodes, max_records}
use Rattle.rules.specs.Node.{Rec, beats}
use Rattle.rules.specs.Table.{Entry, Table}
use Rattle.rules.specs.Layout.{rec_place, node_place, rec_width, node_widths, node_width, table_widths, node_fields, table_fields, encode_rec, encode_node, encode}
use Rattle.table.specs.Changes.{with_beat, with_max, with_gc, with_recs, fresh_entry}
use Rattle.table.proofs.Records.{length-rec}
use Rattle.table.proofs.Nodes.{node-widths, length-node}
use Rattle.table.proofs.Tables.{table-widths}
use Rattle.table.proofs.Areas.{part_in}
use Rattle.table.proofs.Rows.{row-insert, row-remove}

-- ---- the numbers of a node's header

module _ (e : Entry) (v : ℕ) where
  pub put-beat : put (offset node_widths 1) (bytes_of 8 v) (encode_node e) ≡ encode_node (with_beat (beats v) e)
  unfolding encode_node
  put-beat = field-set node_widths (node_fields e) (node-widths e) 1 (bytes_of 8 v) (omega arith) (length-bytes_of 8 v)

  pub put-max : put (offset node_widths 2) (bytes_of 8 v) (encode_node e) ≡ encode_node (with_max v e)
  unfolding encode_node
  put-max = field-set node_widths (node_fields e) (node-widths e) 2 (bytes_of 8 v) (omega arith) (length-bytes_of 8 v)

  pub put-gc : put (offset node_widths 3) (bytes_of 8 v) (encode_node e) ≡ encode_node (with_gc v e)
  unfolding encode_node
  put-gc = field-set node_widths (node_fields e) (node-widths e) 3 (bytes_of 8 v) (omega arith) (length-bytes_of 8 v)

-- ---- the records of a node

module _ (e : Entry) (few : length e.node.recs ≤ max_records) where
  -- record j replaced
  pub node-rec-set : (j : ℕ) (r : Rec) → j < length e.node.recs
      → put (rec_place j) (encode_rec r) (encode_node e) ≡ encode_node (with_recs (set e.node.recs j r) e)
  unfolding encode_node
  node-rec-set j r h =
      field_put node_widths (node_fields e) (node-widths e) 5 (j * rec_width) (encode_rec r) (omega arith) (rw length-rec (omega arith))
      ∙ rw (block-set encode_rec rec_width length-rec max_records e.node.recs few j r h, length-set e.node.recs j r)

  -- a record put in at j: those from j on move up, and the count rises
  pub node-rec-insert : (j : ℕ) (r : Rec) → j ≤ length e.node.recs → length e.node.recs < max_records
      → let l : List ℕ = encode_node e in
      let n : ℕ = length e.node.recs in
      put (offset node_widths 4) (bytes_of 1 (n + 1)) (put (rec_place j) (encode_rec r) (put (rec_place j + rec_width) (part (rec_place j) ((n - j) * rec_width) l) l))
      ≡ encode_node (with_recs (insert_at j r e.node.recs) e)
  unfolding encode_node
  node-rec-insert = row-insert encode_rec rec_width length-rec max_records e.node.recs few node_widths (node_fields e) (node-widths e) 4 (omega arith) refl refl refl

-- a fresh node is its number, and zeros
no-records : blocks max_records rec_width encode_rec [] ≡ zeros (max_records * rec_width)
unfolding flat
no-records = blocks_is encode_rec rec_width length-rec max_records max_records [] refl

pub zero-node : encode_node (fresh_entry 0) ≡ zeros node_width
unfolding encode_node joined
zero-node = rw (encode_node, joined, no-records, bytes-zero 8, bytes-zero 1, append-nil) (simp zeros-add)

pub fresh-bytes : (i : ℕ) → put (offset node_widths 0) (bytes_of 8 i) (zeros node_width) ≡ encode_node (fresh_entry i)
unfolding encode_node
fresh-bytes i =
    ap (put (offset node_widths 0) (bytes_of 8 i)) (sym zero-node)
    ∙ field-set node_widths (node_fields (fresh_entry 0)) (node-widths (fresh_entry 0)) 0 (bytes_of 8 i) (omega arith) (length-bytes_of 8 i)

-- ---- the nodes of a table

module _ (t : Table) (few : length t ≤ max_nodes) where
  -- node i as it stands
  pub table-node : (i : ℕ) (d : Entry) → i < length t → part (node_place i) node_width (encode t) ≡ encode_node (get_or t i d)
  unfolding encode
  table-node i d h =
      part_in table_widths (table_fields t) (table-widths t) 1 (i * node_width) node_width (omega arith) (omega arith)
      ∙ block encode_node node_width length-node max_nodes t few i d h

  -- node i replaced
  pub table-set : (i : ℕ) (e : Entry) → i < length t → put (node_place i) (encode_node e) (encode t) ≡ encode (set t i e)
  unfolding encode
  table-set i e h =
      field_put table_widths (table_fields t) (table-widths t) 1 (i * node_width) (encode_node e) (omega arith) (rw length-node (omega arith))
      ∙ rw (block-set encode_node node_width length-node max_nodes t few i e h, length-set t i e)

  -- a node put in at i
  pub table-insert : (i : ℕ) (e : Entry) → i ≤ length t → length t < max_nodes
      → let l : List ℕ = encode t in
      let n : ℕ = length t in
      put (offset table_widths 0) (bytes_of 1 (n + 1)) (put (node_place i) (encode_node e) (put (node_place i + node_width) (part (node_place i) ((n - i) * node_width) l) l))
      ≡ encode (insert_at i e t)
  unfolding encode
  table-insert = row-insert encode_node node_width length-node max_nodes t few table_widths (table_fields t) (table-widths t) 0 (omega arith) refl refl refl

  -- node i taken out
  pub table-remove : (i : ℕ) (d : Entry) → i < length t
      → let l : List ℕ = encode t in
      let n : ℕ = length t in
      let m : ℕ = (n - suc i) * node_width in
      put (offset table_widths 0) (bytes_of 1 (n - 1)) (put (node_place i + m) (zeros node_width) (put (node_place i) (part (node_place i + node_width) m l) l))
      ≡ encode (remove_at i t)
  unfolding encode
  table-remove = row-remove encode_node node_width length-node max_nodes t few table_widths (table_fields t) (table-widths t) 0 (omega arith) refl refl refl
