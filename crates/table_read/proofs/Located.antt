-- A node and a record at their places in a table's bytes: how long their bytes are, and what they are read as. Assumes nothing.
use Prim.Native.Nat.{ℕ, ◌≤◌, ◌<◌}
use mathlib.Core.Path.{◌≡◌, sym, ap, ◌∙◌, subst}
use mathlib.Core.List.{List, []}
use native.Mathlib.Omega.{arith}
use lib.ListN.{length, get_or}
use Rattle.fields.specs.Numbers.{Bytes, nat_of}
use Rattle.fields.specs.Parts.{part}
use Rattle.fields.specs.Widths.{offset}
use Rattle.rules.specs.Sizes.{max_nodes, max_records, max_key, max_value}
use Rattle.rules.specs.Node.{Rec}
use Rattle.rules.specs.Table.{Entry}
use Rattle.rules.specs.Layout.{rec_width, node_widths, node_width, table_width, decode_rec, decode_node, decode}
use Rattle.table.specs.Changes.{fresh_entry}
use Rattle.table.specs.Fits.{LaidTable, LaidNode}
use Rattle.table.specs.Tests.{key_length, value_length, count_of, nodes_of, recs_in}
use Rattle.table.proofs.Places.{node_bytes, node_at, rec_bytes, decode-at, recs-at, length-recs}
use Rattle.table.proofs.Laid.{rec-long, laid-key, laid-value, laid-at}
use Rattle.table_read.specs.Find.{entry_at}

pub entry-at : (l : Bytes) (p : ℕ) → p < nodes_of l → entry_at (decode l) p ≡ node_at p l
entry-at l p h = decode-at p l (fresh_entry 0) h

-- ---- a node's numbers, where they were read in its bytes

module _ (l b : Bytes) (p v : ℕ) (h : p < nodes_of l) (e : b ≡ node_bytes p l) where
  entry-is : decode_node b ≡ entry_at (decode l) p
  entry-is = ap decode_node e ∙ sym (entry-at l p h)

  pub number_is : v ≡ nat_of (part (offset node_widths 0) 8 b) → v ≡ (entry_at (decode l) p).number
  unfolding decode_node
  number_is q = q ∙ ap (λ (x : Entry). x.number) entry-is

  pub max-is : v ≡ nat_of (part (offset node_widths 2) 8 b) → v ≡ (entry_at (decode l) p).node.max
  unfolding decode_node
  max-is q = q ∙ ap (λ (x : Entry). x.node.max) entry-is

  pub gc_is : v ≡ nat_of (part (offset node_widths 3) 8 b) → v ≡ (entry_at (decode l) p).node.last_gc
  unfolding decode_node
  gc_is q = q ∙ ap (λ (x : Entry). x.node.last_gc) entry-is

-- ---- in a table that is laid out

module _ (l : Bytes) (o : LaidTable l) (p : ℕ) (h : p < nodes_of l) where
  pub held : (length l ≡ table_width) × (nodes_of l ≤ max_nodes) × (p < nodes_of l)
  held = (o.long, o.few, h)

  pub lent-node : (length l ≡ table_width) × (p < max_nodes)
  lent-node = (o.long, omega arith)

  module _ (b : Bytes) (e : b ≡ node_bytes p l) where
    pub laid : LaidNode b
    laid = subst LaidNode (sym e) (laid-at l o p h)

    pub recs-are : recs_in b ≡ (entry_at (decode l) p).node.recs
    recs-are = ap (λ (x : Entry). x.node.recs) (ap decode_node e ∙ sym (entry-at l p h))

    pub node-long : length b ≡ node_width
    node-long = laid.long

    pub count_low : count_of b ≤ max_records
    count_low = laid.few

    module _ (q : ℕ) (g : q < length (entry_at (decode l) p).node.recs) where
      counted : q < count_of b
      counted = subst (λ (n : ℕ). q < n) (sym (ap length recs-are) ∙ length-recs b) g

      pub lent-record : (length b ≡ node_width) × (q < max_records)
      lent-record = (node-long, omega (arith, counted, count_low))

      module _ (x : Bytes) (f : x ≡ rec_bytes q b) where
        pub lent-text : (length x ≡ rec_width) × (key_length x ≤ max_key) × (value_length x ≤ max_value)
        lent-text = (
          ap length f ∙ rec-long b laid q counted,
          subst (λ (y : Bytes). key_length y ≤ max_key) (sym f) (laid-key b laid q counted),
          subst (λ (y : Bytes). value_length y ≤ max_value) (sym f) (laid-value b laid q counted),
        )

        pub record_is : decode_rec x ≡ get_or (entry_at (decode l) p).node.recs q (decode_rec [])
        record_is = ap decode_rec f ∙ sym (recs-at q b (decode_rec []) counted) ∙ ap (λ (rs : List Rec). get_or rs q (decode_rec [])) recs-are
