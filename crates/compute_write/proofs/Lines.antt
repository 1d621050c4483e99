-- The operations that are left of a line of nodes and of a node's records, one place after the other. Assumes nothing.
use Prim.Native.Nat.{ℕ, ◌+◌, ◌-◌, ◌≤◌, ◌<◌}
use mathlib.Core.Path.{◌≡◌, sym, ap, ◌∙◌, subst}
use mathlib.Core.List.{List, [], ◌∷◌, ◌++◌, map}
use lib.ListN.{length, get_or, length-map}
use Rattle.fields.specs.Numbers.{Bytes}
use Rattle.fields.specs.Choice.{◌∈◌}
use Rattle.rules.specs.Given.{Gives}
use Rattle.rules.specs.Sizes.{max_records}
use Rattle.rules.specs.Node.{KeyValue, Rec}
use Rattle.rules.specs.Table.{Table, versions}
use Rattle.rules.specs.Delta.{Op, KeyValueOp}
use Rattle.rules.specs.Compute.{stale, key_value_ops, body_ops}
use Rattle.rules.specs.Layout.{decode_rec, decode}
use Rattle.table.specs.Fits.{LaidTable}
use Rattle.table.specs.Tests.{nodes_of, recs_in}
use Rattle.table.proofs.Places.{node_bytes, length-recs}
use Rattle.table_read.specs.Find.{entry_at}
use Rattle.table_read.proofs.Located.{recs-are, count_low}
use Rattle.compute_stale.specs.Arranged.{span, listed, AllBelow}
use Rattle.compute_stale.specs.Above.{versions_in, places_above, places_of}
use Rattle.compute_stale.specs.declared.Places.{Places}
use Rattle.compute_stale.proofs.Arranged.{listed-first, length-span}
use Rattle.compute_stale.proofs.Above.{length-versions, carried-above, above_in, places-few, places-long, places-listed}
use Rattle.compute_write.specs.Sending.{node_op_at, record_at, body_at, ops_at, closed}
use Rattle.rules.specs.declared.Sent.{Sent}
use Rattle.compute_write.proofs.Steps.{Writing, writing, Reached, left_is, max-written, lent, back}

-- ---- nodes

-- the operations of the next node, and of those behind it
pub next-node : (t : Table) (froms line : List ℕ) (j : ℕ) → 0 < j → let p : ℕ = get_or line (j - 1) 0 in
    let from : ℕ = get_or froms p 0 in ops_at t froms (listed j line) ≡ node_op_at t p from ∷ (body_at t p from ++ ops_at t froms (listed (j - 1) line))
unfolding ops_at
next-node t froms line j h = ap (ops_at t froms) (listed-first j line h)

pub no_node : (t : Table) (froms line : List ℕ) (j : ℕ) → j ≡ 0 → ops_at t froms (listed j line) ≡ []
unfolding ops_at span
no_node t froms line j e = ap (λ (n : ℕ). ops_at t froms (listed n line)) e

-- ---- records of the node at p

-- the operations of the records at some places
abbrev pub record_ops : (table : Table) (p : ℕ) (places : List ℕ) → List Op
record_ops t p qs = key_value_ops (map (record_at t p) qs)

pub next-record : (t : Table) (p k : ℕ) (at : List ℕ) (rest : List Op) → 0 < k
    → record_ops t p (listed k at) ++ rest ≡ KeyValueOp (record_at t p (get_or at (k - 1) 0)) ∷ (record_ops t p (listed (k - 1) at) ++ rest)
unfolding key_value_ops
next-record t p k at rest h = ap (λ (qs : List ℕ). record_ops t p qs ++ rest) (listed-first k at h)

pub no_record : (t : Table) (p k : ℕ) (at : List ℕ) (rest : List Op) → k ≡ 0 → record_ops t p (listed k at) ++ rest ≡ rest
unfolding key_value_ops span
no_record t p k at rest e = ap (λ (n : ℕ). record_ops t p (listed n at) ++ rest) e

-- ---- its stale records, whose places were found in its bytes

module _ (l : Bytes) (o : LaidTable l) (p : ℕ) (h : p < nodes_of l) (b : Bytes) (e : b ≡ node_bytes p l) (from : ℕ) (r : Places)
    (found : r ≡ places_of (places_above from (versions_in b))) where
  abbrev recs : List Rec
  recs = (entry_at (decode l) p).node.recs

  few : length (versions_in b) ≤ max_records
  few = rw (length-versions, length-recs) (count_low l o p h b e)

  are : recs_in b ≡ recs
  are = recs-are l o p h b e

  listed-are : listed r.count r.at ≡ places_above from (versions recs)
  listed-are =
      ap (λ (x : Places). listed x.count x.at) found
      ∙ places-listed from (versions_in b) few
      ∙ ap (λ (rs : List Rec). places_above from (versions rs)) are

  pub stale-few : r.count ≤ max_records
  stale-few = subst (λ (x : Places). x.count ≤ max_records) (sym found) (places-few from (versions_in b) few)

  pub stale-long : length r.at ≡ max_records
  stale-long = ap (λ (x : Places). length x.at) found ∙ places-long from (versions_in b) few

  pub stale-within : AllBelow (length recs) (listed r.count r.at)
  stale-within x m =
      subst (λ (n : ℕ). x < n) (length-versions recs) (above_in from (versions recs) (subst (λ (qs : List ℕ). x ∈ qs) listed-are m))

  stale-are : map (record_at (decode l) p) (listed r.count r.at) ≡ stale from recs
  stale-are = ap (map (record_at (decode l) p)) listed-are ∙ carried-above recs (decode_rec []) from

  stale-count : r.count ≡ length (map (record_at (decode l) p) (listed r.count r.at))
  stale-count = sym (length-span 0 r.count r.at) ∙ sym (length-map (listed r.count r.at) (record_at (decode l) p))

  -- its Node is written, and SetMaxVersion where it was due: they are left
  pub body-begun : {a : Writing} {ops used : ℕ} {d : Bytes} (rest : List Op) {s : Sent} {after : Bytes}
      → Gives (closed r.count (entry_at (decode l) p).node.max (lent used d)) s after
      → Reached a (writing ops used (body_at (decode l) p from ++ rest) d)
      → Reached a (writing (ops + s.ops) (used + s.bytes) (record_ops (decode l) p (listed r.count r.at) ++ rest) (back used d after))
  body-begun rest g w =
      let max : ℕ = (entry_at (decode l) p).node.max in
      max-written max (map (record_at (decode l) p) (listed r.count r.at)) r.count rest stale-count g
      (left_is (ap (λ (kvs : List KeyValue). body_ops max kvs ++ rest) (sym stale-are)) w)
