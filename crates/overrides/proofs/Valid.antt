-- Bytes that are valid overrides: how long they are, what is read in them, and that they are written again from it. The check of a node's bytes, behind a look
-- at the length, says whether they are. Assumes nothing.
use Prim.Native.Nat.{ℕ}
use mathlib.Core.Path.{◌≡◌, refl, ap, sym, ◌∙◌, subst}
use mathlib.Core.Bool.{Bool, true, false}
use mathlib.Core.List.{List}
use native.Mathlib.Omega.{arith}
use lib.ListN.{length}
use Rattle.fields.specs.Numbers.{AreBytes}
use Rattle.fields.specs.Order.{same_bytes}
use Rattle.fields.proofs.Choice.{same_test, and_left, and_right, and_intro}
use Rattle.fields.proofs.Ordered.{same_true, eq-same}
use Rattle.rules.specs.Table.{Entry, entry_obeys, keys_rise}
use Rattle.rules.specs.Layout.{node_width, encode_node, decode_node}
use Rattle.rules.specs.Whole.{whole_width, valid_whole}
use Rattle.table.specs.Fits.{LaidNode}
use Rattle.table.specs.Tests.{node_good, recs_in}
use Rattle.table.proofs.Nodes.{ObeysEntry, entry-obeys, obeys-entry, fits-entry, length-node, laid-node, node-good, decode-encode-node, encode-decode-node, obeys-decode-node}
use Rattle.table.proofs.Wholes.{whole_long}
use Rattle.overrides.specs.Overrides.{valid_node}

module _ (b : List ℕ) (v : valid_node b ≡ true) where
  pub over-obeys : entry_obeys (decode_node b) ≡ true
  unfolding valid_node
  over-obeys = and_left (entry_obeys (decode_node b)) (same_bytes (encode_node (decode_node b)) b) v

  pub over-back : encode_node (decode_node b) ≡ b
  unfolding valid_node
  over-back = same_true (encode_node (decode_node b)) b (and_right (entry_obeys (decode_node b)) (same_bytes (encode_node (decode_node b)) b) v)

  obeys : ObeysEntry (decode_node b)
  obeys = entry-obeys (decode_node b) over-obeys

  pub over-long : length b ≡ node_width
  over-long = ap length (sym over-back) ∙ length-node (decode_node b)

  pub over-laid : LaidNode b
  over-laid = subst LaidNode over-back (laid-node (decode_node b) (fits-entry (decode_node b) obeys))

  pub over-rises : keys_rise (recs_in b) ≡ true
  over-rises = obeys.rise

-- the bytes of a node that obeys are valid overrides
pub valid-by-node : (e : Entry) → entry_obeys e ≡ true → valid_node (encode_node e) ≡ true
unfolding valid_node
valid-by-node e o =
    let back : decode_node (encode_node e) ≡ e = decode-encode-node e (fits-entry e (entry-obeys e o)) in
    and_intro (entry_obeys (decode_node (encode_node e))) (same_bytes (encode_node (decode_node (encode_node e))) (encode_node e)) (ap entry_obeys back ∙ o)
    (eq-same (encode_node (decode_node (encode_node e))) (encode_node e) (ap encode_node back))

-- ---- the check

-- a slice of another length
pub length-stops : (b : List ℕ) → (length b ≡ node_width → ⊥) → false ≡ valid_node b
length-stops b h = go (valid_node b) refl
  where
    go : (t : Bool) → valid_node b ≡ t → false ≡ t
    go true e = absurd (h (over-long b e))
    go false e = refl

-- in one of that length the tests of a node's bytes decide
pub node-decides : (b : List ℕ) → AreBytes b → length b ≡ node_width → valid_node b ≡ node_good b
node-decides b h long =
    same_test (valid_node b) (node_good b) (λ v. ap node_good (sym (over-back b v)) ∙ node-good (decode_node b) (entry-obeys (decode_node b) (over-obeys b v)))
    (λ g. subst (λ (x : List ℕ). valid_node x ≡ true) (encode-decode-node b long h g) (valid-by-node (decode_node b) (obeys-entry (decode_node b) (obeys-decode-node b long h g))))

-- ---- no table

-- overrides are never a table: they are shorter
pub never-table : (b : List ℕ) → valid_node b ≡ true → valid_whole b ≡ false
never-table b v = go (valid_whole b) refl
  where
    go : (t : Bool) → valid_whole b ≡ t → t ≡ false
    go true w = absurd (differ (sym (over-long b v) ∙ whole_long b w))
      where
        differ : node_width ≡ whole_width → ⊥
        differ e = omega arith
    go false w = refl
