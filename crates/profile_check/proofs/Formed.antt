-- Whether all pass, of which i are passed: the records of a node's bytes by their form, the nodes of a table's by a test of their records. Assumes nothing.
use Prim.Native.Nat.{ℕ, ◌+◌, ◌<◌, ◌≤◌}
use mathlib.Core.Bool.{Bool, true, false, ◌&&◌}
use mathlib.Core.List.{List}
use mathlib.Core.Path.{◌≡◌, ◌∙◌, ap, refl, sym}
use native.Mathlib.Numerals.{add-one}
use lib.ListN.{drop, drop_of_length-le}
use Rattle.fields.specs.Choice.{all}
use Rattle.fields.proofs.Choice.{and_no, and_yes}
use Rattle.rules.specs.Layout.{decode, decode_rec}
use Rattle.rules.specs.Node.{Rec}
use Rattle.rules.specs.Profile.{in_form, recs_formed}
use Rattle.rules.specs.Table.{Entry, Table}
use Rattle.rules.specs.declared.Profile.{Profile}
use Rattle.table.specs.Tests.{count_of, nodes_of, recs_in}
use Rattle.table.proofs.Places.{decode-drop, length-recs, node_bytes, rec_at, rec_bytes, recs-drop}
use Rattle.table.proofs.Tables.{length-decode}

module _ (p : Profile) (b : List ℕ) (i : ℕ) where
  pub no_record : count_of b ≤ i → recs_formed p (drop i (recs_in b)) ≡ true
  unfolding all
  no_record h = ap (recs_formed p) (drop_of_length-le (recs_in b) {i = i} (rw length-recs h))

  module _ (h : i < count_of b) where
    next : recs_formed p (drop i (recs_in b)) ≡ (in_form p (rec_at i b).kv && recs_formed p (drop (i + 1) (recs_in b)))
    unfolding all
    next = ap (recs_formed p) (recs-drop i b h) ∙ rw add-one refl

    pub record-on : (x : List ℕ) → x ≡ rec_bytes i b → {t : Bool} → t ≡ in_form p (decode_rec x).kv → t ≡ true → recs_formed p (drop (i + 1) (recs_in b)) ≡ recs_formed p (drop i (recs_in b))
    record-on x q e f = sym (next ∙ and_yes (in_form p (rec_at i b).kv) (recs_formed p (drop (i + 1) (recs_in b))) (sym (e ∙ ap (λ (y : List ℕ). in_form p (decode_rec y).kv) q) ∙ f))

    pub record-stop : (x : List ℕ) → x ≡ rec_bytes i b → {t : Bool} → t ≡ in_form p (decode_rec x).kv → t ≡ false → recs_formed p (drop i (recs_in b)) ≡ false
    record-stop x q e f = next ∙ and_no (in_form p (rec_at i b).kv) (recs_formed p (drop (i + 1) (recs_in b))) (sym (e ∙ ap (λ (y : List ℕ). in_form p (decode_rec y).kv) q) ∙ f)

-- the records of every node pass
abbrev pub each : (test : List Rec → Bool) (table : Table) → Bool
each test t = all (λ (e : Entry). test e.node.recs) t

module _ (test : List Rec → Bool) (l : List ℕ) (i : ℕ) where
  pub no_node : nodes_of l ≤ i → each test (drop i (decode l)) ≡ true
  unfolding all
  no_node h = ap (each test) (drop_of_length-le (decode l) {i = i} (rw length-decode h))

  module _ (h : i < nodes_of l) where
    next-node : each test (drop i (decode l)) ≡ (test (recs_in (node_bytes i l)) && each test (drop (i + 1) (decode l)))
    unfolding all
    next-node = ap (each test) (decode-drop i l h) ∙ rw add-one refl

    pub node-on : (x : List ℕ) → x ≡ node_bytes i l → {t : Bool} → t ≡ test (recs_in x) → t ≡ true → each test (drop (i + 1) (decode l)) ≡ each test (drop i (decode l))
    node-on x q e f = sym (next-node ∙ and_yes (test (recs_in (node_bytes i l))) (each test (drop (i + 1) (decode l))) (sym (e ∙ ap (λ (y : List ℕ). test (recs_in y)) q) ∙ f))

    pub node-stop : (x : List ℕ) → x ≡ node_bytes i l → {t : Bool} → t ≡ test (recs_in x) → t ≡ false → each test (drop i (decode l)) ≡ false
    node-stop x q e f = next-node ∙ and_no (test (recs_in (node_bytes i l))) (each test (drop (i + 1) (decode l))) (sym (e ∙ ap (λ (y : List ℕ). test (recs_in y)) q) ∙ f)
