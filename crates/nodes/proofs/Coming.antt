-- Making a table, and nodes that come and go, in terms of the bytes that the code leaves and the place that it found. Assumes nothing.
use Prim.Native.Nat.{ℕ, ◌+◌, ◌≤◌, ◌<◌, ◌*◌}
use mathlib.Core.Path.{◌≡◌, refl, ap, sym, ◌∙◌}
use mathlib.Core.Bool.{Bool, true, false}
use mathlib.Core.List.{List, [], append-nil}
use native.Mathlib.Omega.{arith}
use lib.ListN.{length}
use lib.Dec.{eqb, ltb}
use borrow.Author.Tests.{eq-eqb, ne_eqb, lt-ltb, le-ltb}
use Rattle.fields.specs.Choice.{pick}
use Rattle.fields.specs.Numbers.{bytes_of}
use Rattle.fields.specs.Parts.{put}
use Rattle.fields.specs.Blocks.{zeros, flat, blocks, insert_at, remove_at}
use Rattle.fields.specs.Widths.{joined}
use Rattle.fields.proofs.Choice.{pick_true, pick-false}
use Rattle.fields.proofs.Parts.{put-at}
use Rattle.fields.proofs.Blocks.{length-zeros, zeros-add, bytes-zero, blocks_is}
use Rattle.rules.specs.Answers.{mode_of, profile_of}
use Rattle.rules.specs.Profile.{kind}
use Rattle.rules.specs.Given.{Given, given, Gives}
use Rattle.rules.specs.Sizes.{max_nodes}
use Rattle.rules.specs.Table.{Table, add_node, drop_node, numbers_of, among}
use Rattle.rules.specs.Local.{Outcome, gives, add, remove_node}
use Rattle.rules.specs.Lent.{stored, lent_new}
use Rattle.rules.specs.Layout.{node_width, table_width, encode_node, encode, decode, valid}
use Rattle.rules.specs.Whole.{whole_width, encode_whole}
use Rattle.rules.specs.declared.Mode.{Mode}
use Rattle.rules.specs.declared.Mode.TheVariants.{Plain}
use Rattle.rules.specs.declared.Profile.{Profile}
use Rattle.rules.specs.declared.Profile.TheVariants.{Free}
use Rattle.std.specs.Prelude.{Err, Result}
use Rattle.rules.specs.declared.Refusal.{Refusal}
use Rattle.rules.specs.Results.{done}
use Rattle.rules.specs.declared.Refusal.TheVariants.{BadTable, NinthNode, NoNode}
use Rattle.table.specs.Changes.{fresh_entry}
use Rattle.table.specs.Tests.{nodes_of}
use Rattle.table.proofs.Nodes.{length-node}
use Rattle.table.proofs.Tables.{encode-decode, length-decode}
use Rattle.table.proofs.Wholes.{mode-put, plain-tail, profile-put}
use Rattle.table_read.specs.Find.{find_node}
use Rattle.table_read.specs.declared.Place.TheVariants.{At, Free}
use Rattle.table_read.proofs.Searched.{nodes-ordered}
use Rattle.table_read.proofs.Placed.{add_free, drop_at, held, not-held}
use Rattle.nodes.specs.New.{lent_made}

-- ---- an empty table is zeros

no-nodes : blocks max_nodes node_width encode_node [] ≡ zeros (max_nodes * node_width)
unfolding flat
no-nodes = blocks_is encode_node node_width length-node max_nodes max_nodes [] refl

zero-table : encode [] ≡ zeros table_width
unfolding encode joined
zero-table = rw (encode, joined, no-nodes, bytes-zero 1, append-nil) (simp zeros-add)

zero-whole : encode_whole (record { kind = kind Plain Free; memory = []; table = [] }) ≡ zeros whole_width
unfolding encode_whole joined
zero-whole = rw (encode_whole, joined, zero-table, plain-tail, append-nil) (simp zeros-add)

put_whole : (vs l : List ℕ) → length vs ≡ length l → put 0 vs l ≡ vs
put_whole vs l e = ap (put 0 vs) (sym (append-nil l)) ∙ put-at 0 vs [] l [] refl e ∙ append-nil vs

module _ (m : Mode) (p : Profile) (l : List ℕ) where
  -- the slice is cleared, and then the mode and the profile stand in it
  pub made : length l ≡ whole_width → (s t u : List ℕ) → s ≡ put 0 (zeros whole_width) l → t ≡ put table_width (bytes_of 1 (mode_of m)) s
      → u ≡ put (table_width + 1) (bytes_of 1 (profile_of p)) t → Gives (lent_made (kind m p) l) done u
  unfolding lent_made lent_new
  made e s t u cleared q r =
      let o : lent_made (kind m p) l ≡ given done (lent_new (kind m p)) =
      pick_true (eqb (length l) whole_width) (given done (lent_new (kind m p))) (given (Err BadTable) l) (eq-eqb (length l) whole_width e) in
      let empty : s ≡ encode_whole (record { kind = kind Plain Free; memory = []; table = [] }) = cleared ∙ put_whole (zeros whole_width) l (length-zeros whole_width ∙ sym e) ∙ sym zero-whole in
      let moded : t ≡ encode_whole (record { kind = kind m Free; memory = []; table = [] }) =
      q ∙ ap (put table_width (bytes_of 1 (mode_of m))) empty ∙ mode-put m (record { kind = kind Plain Free; memory = []; table = [] }) in (
        ap (λ (x : Given (Result (Unit {0}) Refusal) (List ℕ)). x.answer) (sym o),
        r
            ∙ ap (put (table_width + 1) (bytes_of 1 (profile_of p))) moded
            ∙ profile-put p (record { kind = kind m Free; memory = []; table = [] })
            ∙ ap (λ (x : Given (Result (Unit {0}) Refusal) (List ℕ)). x.lent) (sym o),
      )

  pub not_made : (length l ≡ whole_width → ⊥) → Gives (lent_made (kind m p) l) (Err BadTable) l
  unfolding lent_made
  not_made n =
      let o : lent_made (kind m p) l ≡ given (Err BadTable) l =
      pick-false (eqb (length l) whole_width) (given done (lent_new (kind m p))) (given (Err BadTable) l) (ne_eqb (length l) whole_width n) in (
        ap (λ (x : Given (Result (Unit {0}) Refusal) (List ℕ)). x.answer) (sym o),
        ap (λ (x : Given (Result (Unit {0}) Refusal) (List ℕ)). x.lent) (sym o),
      )

-- ---- a rule's outcome, and the bytes that are left

told : (o : Outcome (Result (Unit {0}) Refusal)) (r : (Result (Unit {0}) Refusal)) (t : Table) → o ≡ gives r t → (s : List ℕ) → s ≡ encode t → Gives (stored o) r s
told o r t e s q = (ap (λ (x : Outcome (Result (Unit {0}) Refusal)). x.answer) (sym e), q ∙ ap (λ (x : Outcome (Result (Unit {0}) Refusal)). encode x.table) (sym e))

module _ (n : ℕ) (l : List ℕ) (v : valid l ≡ true) (i : ℕ) where
  abbrev there : Bool
  there = among n (numbers_of (decode l))

  pub add-held : find_node n (decode l) ≡ At i → Gives (stored (add n (decode l))) done l
  unfolding add
  add-held e = told (add n (decode l)) done (decode l) (pick_true there (gives done (decode l)) _ (held n (decode l) i e)) l (sym (encode-decode l v))

  missing : find_node n (decode l) ≡ Free i → there ≡ false
  missing e = not-held n (decode l) i (nodes-ordered l v n) e

  pub add-full : find_node n (decode l) ≡ Free i → max_nodes ≤ nodes_of l → Gives (stored (add n (decode l))) (Err NinthNode) l
  unfolding add
  add-full e h =
      told (add n (decode l)) (Err NinthNode) (decode l)
      (pick-false there (gives done (decode l)) (pick (ltb (length (decode l)) max_nodes) (gives done (add_node n (decode l))) (gives (Err NinthNode) (decode l))) (missing e)
      ∙ pick-false (ltb (length (decode l)) max_nodes) (gives done (add_node n (decode l))) (gives (Err NinthNode) (decode l))
      (le-ltb (length (decode l)) max_nodes (omega (arith, length-decode l))))
      l (sym (encode-decode l v))

  pub add-new : find_node n (decode l) ≡ Free i → nodes_of l < max_nodes → (s : List ℕ) → s ≡ encode (insert_at i (fresh_entry n) (decode l))
      → Gives (stored (add n (decode l))) done s
  unfolding add
  add-new e h s q =
      told (add n (decode l)) done (add_node n (decode l))
      (pick-false there (gives done (decode l)) (pick (ltb (length (decode l)) max_nodes) (gives done (add_node n (decode l))) (gives (Err NinthNode) (decode l))) (missing e)
      ∙ pick_true (ltb (length (decode l)) max_nodes) (gives done (add_node n (decode l))) (gives (Err NinthNode) (decode l))
      (lt-ltb (length (decode l)) max_nodes (omega (arith, length-decode l))))
      s (q ∙ ap encode (sym (add_free n (decode l) i e)))

  pub remove-held : find_node n (decode l) ≡ At i → (s : List ℕ) → s ≡ encode (remove_at i (decode l))
      → Gives (stored (remove_node n (decode l))) done s
  unfolding remove_node
  remove-held e s q =
      told (remove_node n (decode l)) done (drop_node n (decode l)) (pick_true there (gives done (drop_node n (decode l))) (gives (Err NoNode) (decode l)) (held n (decode l) i e)) s
      (q ∙ ap encode (sym (drop_at n (decode l) i e)))

  pub remove-none : find_node n (decode l) ≡ Free i → Gives (stored (remove_node n (decode l))) (Err NoNode) l
  unfolding remove_node
  remove-none e =
      told (remove_node n (decode l)) (Err NoNode) (decode l) (pick-false there (gives done (drop_node n (decode l))) (gives (Err NoNode) (decode l)) (missing e)) l
      (sym (encode-decode l v))
