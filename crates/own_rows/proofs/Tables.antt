-- A node of the table that a party sees: it stands where it stands in the table, and its records are those that the party sees. Assumes nothing.
use Prim.Native.Nat.{ℕ, ◌+◌, ◌-◌}
use mathlib.Core.Path.{◌≡◌, refl, ap, ap₂, sym}
use mathlib.Core.Bool.{Bool, true, false}
use mathlib.Core.List.{List, [], ◌∷◌}
use mathlib.Core.Option.{Option, none, some}
use lib.Dec.{eqb}
use lib.ListN.{take, drop}
use Rattle.fields.specs.Choice.{pick}
use Rattle.rules.specs.Node.{Node}
use Rattle.rules.specs.Table.{Table, node_of}
use Rattle.rules.specs.Party.{own, of_keys, with_records, alone, seen_recs, seen}
use Rattle.rules.specs.Profile.{recs_formed, profile_obeys}
use Rattle.rules.specs.Layout.{node_width, node_place, decode_node, decode, valid}
use Rattle.rules.specs.declared.Profile.{Profile}
use Rattle.rules.specs.declared.Profile.TheVariants.{Free, Meter, Shared}
use Rattle.rules.specs.declared.Party.{Party}
use Rattle.rules.proofs.Formed.{node-formed}
use Rattle.table.specs.Tests.{recs_in}
use Rattle.table_read.specs.Find.{span_in, start_from, node_start}
use Rattle.std.specs.Prelude.{Option as Optional}
use Rattle.std.specs.Prelude.{Some}
use Rattle.table_read.specs.declared.Span.{Span}
use Rattle.table_read.proofs.Reading.{node-says}
use Rattle.own_rows.specs.Sight.{seen_node, seen_held}

-- the records of the node that is seen
pub seen-recs : (p : Profile) (q : Party) (n : Node) → (seen_node p q n).recs ≡ seen_recs p q n.recs
seen-recs Free q n = refl
seen-recs Meter q n = refl
seen-recs Shared q n = refl

-- all is seen
all_seen : (p : Profile) (q : Party) → ((n : Node) → n ≡ seen_node p q n) → (o : Option Node) → o ≡ seen_held p q o
all_seen p q h none = refl
all_seen p q h (some n) = ap (λ (x : Node). some x) (h n)

alone-node : (q : Party) (i : ℕ) (t : Table) → node_of i (alone (own q) t) ≡ seen_held Shared q (node_of i t)
unfolding node_of alone
alone-node q i [] = refl
alone-node q i (e ∷ t) = go (eqb i e.number) (alone-node q i t)
  where
    go : (b : Bool) → node_of i (alone (own q) t) ≡ seen_held Shared q (node_of i t)
        → pick b (some (with_records (of_keys (own q) e.node.recs) e.node)) (node_of i (alone (own q) t)) ≡ seen_held Shared q (pick b (some e.node) (node_of i t))
    go true ih = refl
    go false ih = ih

pub node_seen : (p : Profile) (q : Party) (i : ℕ) (t : Table) → node_of i (seen p q t) ≡ seen_held p q (node_of i t)
node_seen Free q i t = all_seen Free q (λ n. refl) (node_of i t)
node_seen Meter q i t = all_seen Meter q (λ n. refl) (node_of i t)
node_seen Shared q i t = alone-node q i t

alone-start : (q : Party) (i from : ℕ) (t : Table) → start_from i from (alone (own q) t) ≡ start_from i from t
unfolding start_from alone
alone-start q i from [] = refl
alone-start q i from (e ∷ t) = ap (pick (eqb i e.number) from) (alone-start q i (from + node_width) t)

pub start_seen : (p : Profile) (q : Party) (i : ℕ) (t : Table) → node_start i (seen p q t) ≡ node_start i t
start_seen Free q i t = refl
start_seen Meter q i t = refl
start_seen Shared q i t = alone-start q i (node_place 0) t

-- ---- a call that reads one node, by a party: what it says of the node that is seen it says of the table that is seen

module _ (n : ℕ) (l : List ℕ) (v : valid l ≡ true) {s : (Optional Span)} (f : s ≡ span_in n l) {start end : ℕ} (h : s ≡ (Some (record { start = start; end = end }))) where
  -- the records of the node are in form
  pub lent-formed : (p : Profile) → profile_obeys p (decode l) ≡ true → recs_formed p (recs_in (take (end - start) (drop start l))) ≡ true
  lent-formed p g =
      node-formed p n (decode l) g
      (sym (node-says (λ (o : Option Node). o) n l v f h (some (decode_node (take (end - start) (drop start l))).node) refl))

module _ {A X : Type 0} (rule : X → ℕ → Option Node → A) (x : X) (p : Profile) (q : Party) (n : ℕ) (t : Table) where
  pub seen-stands : rule x (node_start n t) (seen_held p q (node_of n t)) ≡ rule x (node_start n (seen p q t)) (node_of n (seen p q t))
  seen-stands = ap₂ (rule x) (sym (start_seen p q n t)) (sym (node_seen p q n t))
