-- A node found by its number in a good table, or missing: the one law of every call that names a node. Where the node is held, its bytes stand within
-- the table's, they are laid out and their keys rise, the rules find that very node, and other bytes in their place are the table with the node changed.
-- Assumes nothing.
use Prim.Native.Nat.{ℕ, suc, ◌+◌, ◌-◌, ◌≤◌, ◌<◌}
use mathlib.Core.Path.{◌≡◌, refl, ap, sym, ◌∙◌}
use mathlib.Core.Bool.{true}
use mathlib.Core.List.{List, []}
use mathlib.Core.Option.{none, some}
use native.Mathlib.Omega.{arith}
use native.Mathlib.Nat.{zero-add}
use lib.ListN.{length, take, drop}
use lib.Dec.{eqb}
use Rattle.fields.specs.Choice.{pick}
use borrow.Rule.Slice.PartMut.{put_mid}
use Rattle.fields.specs.Parts.{part, put}
use Rattle.fields.proofs.Lent.{seen, lent}
use Rattle.rules.specs.Given.{Gives}
use Rattle.rules.proofs.Results.{some-is}
use Rattle.table_read.specs.declared.Span.{Span}
use Rattle.rules.specs.Node.{Node}
use Rattle.rules.specs.Table.{Entry, Table, node_of, set_node, keys_rise}
use Rattle.rules.specs.Local.{Outcome, gives}
use Rattle.rules.specs.Lent.{stored}
use Rattle.rules.specs.Layout.{node_place, node_width, encode_node, decode_node, encode, decode, valid}
use Rattle.table.specs.Changes.{with_node}
use Rattle.table.specs.Fits.{LaidNode}
use Rattle.table.specs.Tests.{nodes_of, recs_in}
use Rattle.table.proofs.Nodes.{length-node}
use Rattle.table.proofs.Tables.{valid-long, valid-few, encode-decode}
use Rattle.table_read.specs.Find.{to_node, find_node, span_of, span_in, start_from, node_start}
use Rattle.table_read.specs.declared.Place.{Place}
use Rattle.table_read.specs.declared.Place.TheVariants.{At, Free}
use Rattle.std.specs.Prelude.{None, Some}
use Rattle.table_read.proofs.Searched.{search-at, node-hit, node_in, node-found, node-missing, node-laid, node-rises}
use Rattle.table_read.proofs.Placed.{node-changed}

-- what a span says of the place that was found
pub record IsAt (p : Place) (start end : ℕ) : Type 0 where
  pub i : ℕ
  pub found : p ≡ At i
  pub starts : start ≡ node_place i
  pub ends : end ≡ node_place i + node_width

at_held : (p : Place) (start end : ℕ) → span_of p ≡ (Some (record { start = start; end = end })) → IsAt p start end
at_held (At i) start end e = let s = some-is _ _ e in record { i = i; found = refl; starts = sym (ap (λ (x : Span). x.start) s); ends = sym (ap (λ (x : Span). x.end) s) }
at_held (Free i) start end e = let z : ◌≡◌ {A = ℕ} 0 1 = cc in absurd (omega arith)

free-missing : (n : ℕ) (l : List ℕ) (v : valid l ≡ true) (p : Place) → find_node n (decode l) ≡ p → span_of p ≡ None → node_of n (decode l) ≡ none
free-missing n l v (At i) q e = let z : ◌≡◌ {A = ℕ} 0 1 = cc in absurd (omega arith)
free-missing n l v (Free i) q e = node-missing l v n i q

module _ (n : ℕ) (l : List ℕ) (v : valid l ≡ true) where
  -- ---- the node is held

  module _ {start end : ℕ} (e : span_in n l ≡ (Some (record { start = start; end = end }))) where
    at : IsAt (find_node n (decode l)) start end
    at = at_held (find_node n (decode l)) start end e

    few : at.i < nodes_of l
    few = node_in l v n at.i at.found

    -- the node's bytes
    abbrev bytes : List ℕ
    bytes = part start node_width l

    pub node_end : end ≡ start + node_width
    node_end = at.ends ∙ ap (λ (k : ℕ). k + node_width) (sym at.starts)

    pub node-fits : end ≤ length l
    node-fits = omega (arith, at.ends, few, valid-few l v, valid-long l v)

    -- what `&table[start..end]` is
    pub node_seen : take (end - start) (drop start l) ≡ bytes
    node_seen = rw node_end (seen start node_width l)

    pub held-laid : LaidNode bytes
    held-laid = rw at.starts (node-laid l v at.i few)

    pub held-rises : keys_rise (recs_in bytes) ≡ true
    held-rises = rw at.starts (node-rises l v at.i few)

    pub held-node : node_of n (decode l) ≡ some (decode_node bytes).node
    held-node = rw at.starts (node-found l v n at.i at.found)

    pub held_start : node_start n (decode l) ≡ start
    unfolding start_from
    held_start =
        search-at (to_node n) (λ (x : Entry). eqb n x.number) (node-hit n) (λ (i : ℕ) (x : Entry). node_place i) 0
        (λ (i : ℕ) (t : Table). start_from n (node_place i) t) (λ i. refl) (λ i a t. ap (λ (k : ℕ). pick (eqb n a.number) (node_place i) (start_from n k t)) (next i))
        (decode l) (decode_node []) 0 at.i at.found
        ∙ ap node_place (zero-add at.i)
        ∙ sym at.starts
      where
        next : (i : ℕ) → node_place i + node_width ≡ node_place (suc i)
        next i = omega arith

    -- other bytes of the node, put in their place
    pub held-changed : (m : Node) (s : List ℕ) → s ≡ put start (encode_node (with_node m (decode_node bytes))) l → s ≡ encode (set_node n m (decode l))
    held-changed m s q =
        node-changed l v n at.i at.found m s (q ∙ ap (λ (k : ℕ). put k (encode_node (with_node m (decode_node (part k node_width l)))) l) at.starts)

    -- what is lent as `&mut table[start..end]` comes back as the bytes of another node
    pub held-lent : (m : Node) (ys : List ℕ) → ys ≡ encode_node (with_node m (decode_node bytes)) → put_mid start (end - start) l ys ≡ encode (set_node n m (decode l))
    held-lent m ys q =
        held-changed m (put_mid start (end - start) l ys)
        (ap (λ (k : ℕ). put_mid start (k - start) l ys) node_end ∙ lent start node_width l ys _ q (ap length q ∙ length-node _))

    -- a rule that answers by the node alone and changes it alone: `rule` is what it does where the node is held
    pub held_gives : {A : Type 0} (o : Outcome A) (r : A) (m : Node) (ys : List ℕ) → o ≡ gives r (set_node n m (decode l))
        → ys ≡ encode_node (with_node m (decode_node bytes)) → Gives (stored o) r (put_mid start (end - start) l ys)
    held_gives o r m ys p q = (ap (λ (x : Outcome _). x.answer) (sym p), held-lent m ys q ∙ ap (λ (x : Outcome _). encode x.table) (sym p))

  -- ---- the node is missing

  pub missing-node : span_in n l ≡ None → node_of n (decode l) ≡ none
  missing-node e = free-missing n l v (find_node n (decode l)) refl e

  -- a rule that leaves the table
  pub stays-gives : {A : Type 0} (o : Outcome A) (r : A) → o ≡ gives r (decode l) → Gives (stored o) r l
  stays-gives o r p = (ap (λ (x : Outcome _). x.answer) (sym p), sym (encode-decode l v) ∙ ap (λ (x : Outcome _). encode x.table) (sym p))
