-- A table's bytes and back. A table that obeys and its bytes determine each other: it is read again from them (`decode-encode`), they are valid
-- (`valid-encode`, so that calls can be chained), and valid bytes are those of the table that is read in them (`encode-decode`), which obeys.
-- Assumes nothing.
use Prim.Native.Nat.{ℕ, ◌*◌, ◌-◌, ◌≤◌, ◌<◌}
use mathlib.Core.Path.{◌≡◌, ap, sym, ◌∙◌, subst}
use mathlib.Core.Bool.{Bool, true}
use mathlib.Core.List.{List, [], ◌∷◌}
use native.Mathlib.Omega.{arith}
use lib.ListN.{length, drop, get_or, length-drop}
use lib.Seq.{take_all}
use lib.Dec.{leb}
use borrow.Author.Tests.{leb-true, le-leb}
use Rattle.fields.specs.Choice.{all, ◌∈◌}
use Rattle.fields.specs.Numbers.{nat_of}
use Rattle.fields.specs.Parts.{part}
use Rattle.fields.specs.Blocks.{all_zero, flat, blocks, unblock}
use Rattle.fields.specs.Widths.{Widths, offset}
use Rattle.fields.specs.Order.{same_bytes}
use Rattle.fields.proofs.Choice.{every-at, and_left, and_right, and_intro, all_from}
use Rattle.fields.proofs.Numbers.{length-bytes_of, nat-bytes}
use Rattle.fields.proofs.Blocks.{length-flat, length-blocks, length-unblock, blocks-read, fit-zeros}
use Rattle.fields.proofs.Widths.{field, length-joined}
use Rattle.fields.proofs.Ordered.{same_true, same_self}
use Rattle.rules.specs.Sizes.{max_nodes}
use Rattle.rules.specs.Table.{Entry, Table, entry_obeys, rising, numbers_of, obeys}
use Rattle.rules.specs.Layout.{node_place, node_width, table_widths, table_width, table_fields, encode_node, decode_node, encode, decode, valid}
use Rattle.table.specs.Fits.{FitsTable, LaidTable}
use Rattle.table.specs.Tests.{nodes_of}
use Rattle.table.proofs.Nodes.{ObeysEntry, entry-obeys, length-node, fits-entry, decode-encode-node}

-- ---- the fields of a table's bytes

pub table-widths : (t : Table) → Widths table_widths (table_fields t)
table-widths t = (length-bytes_of 1 _, (length-blocks encode_node node_width length-node max_nodes t, tt))

pub length-table : (t : Table) → length (encode t) ≡ table_width
unfolding encode
length-table t = length-joined table_widths (table_fields t) (table-widths t)

pub table-field : (t : Table) (k : ℕ) → k < 2 → part (offset table_widths k) (get_or table_widths k 0) (encode t) ≡ get_or (table_fields t) k []
unfolding encode
table-field t k h = field table_widths (table_fields t) (table-widths t) k h

-- the room for nodes is what stands behind the count
pub behind-count : (l : List ℕ) → length l ≡ table_width → drop (offset table_widths 1) l ≡ part (offset table_widths 1) (max_nodes * node_width) l
unfolding part
behind-count l e = sym (take_all (max_nodes * node_width) (drop (offset table_widths 1) l) (rw length-drop (omega arith)))

pub nodes-room : (t : Table) → drop (offset table_widths 1) (encode t) ≡ blocks max_nodes node_width encode_node t
nodes-room t = behind-count (encode t) (length-table t) ∙ table-field t 1 (omega arith)

pub nodes-count : (t : Table) → length t ≤ max_nodes → nodes_of (encode t) ≡ length t
nodes-count t h = ap nat_of (table-field t 0 (omega arith)) ∙ nat-bytes 1 (length t) (omega arith)

-- zeros stand behind the nodes
pub room-zero : (t : Table) → length t ≤ max_nodes
    → let n : ℕ = length t in all_zero (part (node_place n) ((max_nodes - n) * node_width) (encode t)) ≡ true
unfolding blocks
room-zero t few =
    let n : ℕ = length t in
    let fl : length (flat encode_node t) ≡ n * node_width = length-flat encode_node node_width length-node t in
    let rest : max_nodes * node_width - n * node_width ≡ (max_nodes - n) * node_width = omega arith in
    rw (fl, rest) at
    (fit-zeros (max_nodes * node_width) (node_place 0) (flat encode_node t) (encode t) (rw fl (omega arith)) (table-field t 1 (omega arith)) (rw length-table (omega arith)))

pub length-decode : (l : List ℕ) → length (decode l) ≡ nodes_of l
unfolding decode
length-decode l = length-unblock node_width decode_node (nodes_of l) (drop (node_place 0) l)

-- ---- a table that obeys

pub record ObeysTable (t : Table) : Type 0 where
  pub few : length t ≤ max_nodes
  pub rise : rising (numbers_of t) ≡ true
  pub each : all entry_obeys t ≡ true

abbrev rules : Table → List Bool
rules t = leb (length t) max_nodes ∷ rising (numbers_of t) ∷ all entry_obeys t ∷ []

pub table-obeys : (t : Table) → obeys t ≡ true → ObeysTable t
unfolding obeys
table-obeys t h =
    let at : (k : ℕ) → get_or (rules t) k true ≡ true = every-at (rules t) h in
    record { few = leb-true _ _ (at 0); rise = at 1; each = at 2 }

pub obeys-table : (t : Table) → ObeysTable t → obeys t ≡ true
unfolding obeys
obeys-table t o = rw (obeys, le-leb _ max_nodes o.few, o.rise, o.each)

-- each of its nodes obeys
pub node-obeys : (t : Table) → ObeysTable t → (e : Entry) → e ∈ t → ObeysEntry e
node-obeys t o e m = entry-obeys e (all_from entry_obeys t o.each e m)

-- ---- a table that fits

-- one that obeys does
pub fits-table : (t : Table) → ObeysTable t → FitsTable t
fits-table t o = record { few = o.few; each = λ e m. fits-entry e (node-obeys t o e m) }

pub obeys-fits : (t : Table) → obeys t ≡ true → FitsTable t
obeys-fits t o = fits-table t (table-obeys t o)

module _ (t : Table) (o : FitsTable t) where
  -- it is read again from its bytes
  pub read_back : decode (encode t) ≡ t
  unfolding decode
  read_back =
      ap (λ (k : ℕ). unblock node_width decode_node k (drop (node_place 0) (encode t))) (nodes-count t o.few)
      ∙ ap (unblock node_width decode_node (length t)) (nodes-room t)
      ∙ blocks-read encode_node decode_node node_width length-node max_nodes t o.few (λ e m. decode-encode-node e (o.each e m))

  -- its bytes are laid out
  pub laid_table : LaidTable (encode t)
  laid_table =
      record { long = length-table t; few = subst (λ (n : ℕ). n ≤ max_nodes) (sym (nodes-count t o.few)) o.few; fits = subst FitsTable (sym read_back) o; is = ap encode read_back }

module _ (t : Table) (o : obeys t ≡ true) where
  -- a table that obeys is read again from its bytes
  pub decode-encode : decode (encode t) ≡ t
  decode-encode = read_back t (obeys-fits t o)

  -- and they are valid
  pub valid-encode : valid (encode t) ≡ true
  unfolding valid
  valid-encode =
      and_intro (obeys (decode (encode t))) (same_bytes (encode (decode (encode t))) (encode t)) (ap obeys decode-encode ∙ o)
      (ap (λ (u : Table). same_bytes (encode u) (encode t)) decode-encode ∙ same_self (encode t))

-- equal bytes are those of equal tables
pub encode_injective : (t u : Table) → obeys t ≡ true → obeys u ≡ true → encode t ≡ encode u → t ≡ u
encode_injective t u o p e = sym (decode-encode t o) ∙ ap decode e ∙ decode-encode u p

-- ---- valid bytes

module _ (l : List ℕ) (v : valid l ≡ true) where
  -- they are those of the table that is read in them
  pub encode-decode : encode (decode l) ≡ l
  unfolding valid
  encode-decode = same_true (encode (decode l)) l (and_right (obeys (decode l)) (same_bytes (encode (decode l)) l) v)

  pub valid-obeys : obeys (decode l) ≡ true
  unfolding valid
  valid-obeys = and_left (obeys (decode l)) (same_bytes (encode (decode l)) l) v

  pub valid-long : length l ≡ table_width
  valid-long = ap length (sym encode-decode) ∙ length-table (decode l)

  pub valid-few : nodes_of l ≤ max_nodes
  valid-few = subst (λ (n : ℕ). n ≤ max_nodes) (length-decode l) (table-obeys (decode l) valid-obeys).few

  pub valid-laid : LaidTable l
  valid-laid = record { long = valid-long; few = valid-few; fits = obeys-fits (decode l) valid-obeys; is = encode-decode }

-- bytes that are those of a table that obeys are valid
pub valid-by : (l : List ℕ) → obeys (decode l) ≡ true → encode (decode l) ≡ l → valid l ≡ true
valid-by l o e = ap valid (sym e) ∙ valid-encode (decode l) o
