-- What is known of bytes that are laid out: how long they are, how many records or nodes they hold, that each record's lengths are within the
-- sizes, and that each node of a table is laid out itself. Assumes nothing.
use Prim.Native.Nat.{ℕ, suc, ◌+◌, ◌*◌, ◌-◌, ◌≤◌, ◌<◌}
use mathlib.Core.Path.{◌≡◌, ap, ap₂, sym, ◌∙◌, subst}
use mathlib.Core.Bool.{true}
use mathlib.Core.List.{List, []}
use native.Mathlib.Decide.{dec_le}
use native.Mathlib.Omega.{arith}
use lib.ListN.{length, get_or, length-take, length-drop}
use Rattle.fields.specs.Choice.{◌∈◌}
use Rattle.fields.specs.Parts.{part}
use Rattle.fields.specs.Blocks.{zeros, all_zero}
use Rattle.fields.specs.Widths.{offset}
use Rattle.fields.proofs.Choice.{in-at, in-none}
use Rattle.fields.proofs.Parts.{length_part}
use Rattle.fields.proofs.Blocks.{zeros_within, zero-part}
use Rattle.rules.specs.Sizes.{max_nodes, max_records, max_key, max_value, numbers}
use Rattle.rules.specs.Node.{Rec}
use Rattle.rules.specs.Table.{Entry}
use Rattle.rules.specs.Layout.{rec_widths, rec_place, node_place, rec_width, node_width, decode_rec, decode_node, encode_node, decode}
use Rattle.table.specs.Changes.{fresh_entry}
use Rattle.table.specs.Fits.{FitsRec, FitsEntry, LaidNode, LaidTable}
use Rattle.table.specs.Tests.{key_length, value_length, count_of, nodes_of, recs_in}
use Rattle.table.proofs.Nodes.{laid-node, rest-zero}
use Rattle.table.proofs.Tables.{length-decode, room-zero}
use Rattle.table.proofs.Places.{rec_bytes, rec_at, recs-at, length-recs, node_bytes}
use Rattle.table.proofs.Changed.{table-node, zero-node}

-- a length of a text that was read within the sizes is within them itself
key-short : (x : List ℕ) → length x ≡ rec_width → length (decode_rec x).kv.key ≤ max_key → key_length x ≤ max_key
unfolding decode_rec part
key-short x e h =
    let p : length (part (offset rec_widths 1) (key_length x) x) ≤ max_key = h in
    omega (arith, simp (part, length-take, length-drop) at p)

value-short : (x : List ℕ) → length x ≡ rec_width → length (decode_rec x).kv.value ≤ max_value → value_length x ≤ max_value
unfolding decode_rec part
value-short x e h =
    let p : length (part (offset rec_widths 3) (value_length x) x) ≤ max_value = h in
    omega (arith, simp (part, length-take, length-drop) at p)

-- a fresh node fits
pub fits_fresh : (i : ℕ) → i < numbers → FitsEntry (fresh_entry i)
fits_fresh i h =
    record { number_high = h; beat_high = omega arith; max_high = omega arith; gc_high = omega arith; few = omega arith; each = λ r m. absurd (in-none m) }

module _ (b : List ℕ) (o : LaidNode b) where
  module _ (j : ℕ) (h : j < count_of b) where
    pub laid-rec : FitsRec (rec_at j b)
    laid-rec =
        let d : Rec = decode_rec [] in
        o.fits.each (rec_at j b) (subst (λ (r : Rec). r ∈ recs_in b) (recs-at j b d h) (in-at (recs_in b) j d (rw length-recs h)))

    pub rec-long : length (rec_bytes j b) ≡ rec_width
    rec-long = length_part (rec_place j) rec_width b (omega (arith, o.long, o.few))

    pub laid-key : key_length (rec_bytes j b) ≤ max_key
    laid-key = key-short (rec_bytes j b) rec-long laid-rec.key_fits

    pub laid-value : value_length (rec_bytes j b) ≤ max_value
    laid-value = value-short (rec_bytes j b) rec-long laid-rec.value-fits

  -- zeros stand behind its records
  pub laid-rest : part (rec_place (count_of b)) (node_width - rec_place (count_of b)) b ≡ zeros (node_width - rec_place (count_of b))
  laid-rest =
      let n : ℕ = count_of b in
      let e : (max_records - n) * rec_width ≡ node_width - rec_place n = omega (arith, o.few) in
      let z : all_zero (part (rec_place n) ((max_records - n) * rec_width) b) ≡ true =
      ap₂ (λ (k : ℕ) (x : List ℕ). all_zero (part (rec_place k) ((max_records - k) * rec_width) x)) (sym (length-recs b)) (sym o.is) ∙ rest-zero (decode_node b) o.fits.few in
      subst (λ (k : ℕ). part (rec_place n) k b ≡ zeros k) e (zero-part (rec_place n) ((max_records - n) * rec_width) b z (omega (arith, o.few, o.long)))

module _ (l : List ℕ) (o : LaidTable l) where
  -- node i is laid out, and is the table's
  module _ (i : ℕ) (h : i < nodes_of l) where
    d : Entry
    d = decode_node []

    node_is : node_bytes i l ≡ encode_node (get_or (decode l) i d)
    node_is = ap (part (node_place i) node_width) (sym o.is) ∙ table-node (decode l) o.fits.few i d (rw length-decode h)

    pub laid-at : LaidNode (node_bytes i l)
    laid-at =
        subst LaidNode (sym node_is) (laid-node (get_or (decode l) i d) (o.fits.each (get_or (decode l) i d) (in-at (decode l) i d (rw length-decode h))))

  -- a place behind the nodes has the bytes of a fresh node with number 0
  free-is : (i : ℕ) → nodes_of l ≤ i → i < max_nodes → node_bytes i l ≡ encode_node (fresh_entry 0)
  free-is i h g =
      let n : ℕ = nodes_of l in
      let z : all_zero (part (node_place n) ((max_nodes - n) * node_width) l) ≡ true =
      ap₂ (λ (k : ℕ) (x : List ℕ). all_zero (part (node_place k) ((max_nodes - k) * node_width) x)) (sym (length-decode l)) (sym o.is) ∙ room-zero (decode l) o.fits.few in
      let f : node_place n + (max_nodes - n) * node_width ≤ length l = omega (arith, o.few, o.long) in
      zeros_within (node_place i) node_width (node_place n) ((max_nodes - n) * node_width) l (zero-part (node_place n) ((max_nodes - n) * node_width) l z f) (omega arith) (omega arith) f
      ∙ sym zero-node

  -- so that all eight places are laid out
  pub place-laid : (i : ℕ) → i < max_nodes → LaidNode (node_bytes i l)
  place-laid i h = elim (dec_le (suc i) (nodes_of l)) [
    | yes held ↦ laid-at i held
    | no free ↦ subst LaidNode (sym (free-is i (omega arith) h)) (laid-node (fresh_entry 0) (fits_fresh 0 (omega arith)))
  ]
