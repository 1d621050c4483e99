-- What an entry point of the overrides answers once the check of number 14 has said what the bytes are: the rule on the node, or the refusal. Then what the
-- writers of a node's bytes leave is what the rules say. Assumes nothing.
use Prim.Native.Nat.{ℕ}
use mathlib.Core.Path.{◌≡◌, refl, ap, sym, ◌∙◌, subst}
use mathlib.Core.Bool.{Bool, true, false}
use mathlib.Core.List.{List, [], append-nil}
use lib.ListN.{length}
use lib.Dec.{eqb}
use borrow.Author.Tests.{eq-eqb, ne_eqb}
use Rattle.fields.specs.Numbers.{bytes_of}
use Rattle.fields.specs.Parts.{put}
use Rattle.fields.specs.Blocks.{zeros}
use Rattle.fields.specs.Widths.{offset}
use Rattle.fields.proofs.Parts.{put-at}
use Rattle.fields.proofs.Choice.{pick_true, pick-false}
use Rattle.fields.proofs.Blocks.{length-zeros}
use Rattle.rules.specs.Given.{Given, given, Gives}
use Rattle.rules.specs.Node.{Setting, SettingTtl}
use Rattle.rules.specs.Table.{Entry}
use Rattle.rules.specs.Delta.{status_byte}
use Rattle.rules.specs.Layout.{node_widths, node_width, encode_node, decode_node}
use Rattle.std.specs.Prelude.{Err, Result}
use Rattle.rules.specs.declared.Refusal.{Refusal}
use Rattle.rules.specs.Results.{done}
use Rattle.rules.specs.declared.Refusal.TheVariants.{BadTable, BadTag}
use Rattle.rules.specs.declared.Status.{Status}
use Rattle.rules.specs.declared.Status.TheVariants.{Set, Delete, Ttl}
use Rattle.table.specs.Changes.{fresh_entry}
use Rattle.table.proofs.Changed.{fresh-bytes}
use Rattle.overrides.specs.Overrides.{valid_node, stored_node, on_overrides, called, written, lent_new_overrides}
use Rattle.overrides.proofs.Valid.{over-back}

-- ---- 14 first

module _ {A : Type 0} (bad : A) (rule : Entry → Given A Entry) (b : List ℕ) {checked : Bool} (e : checked ≡ valid_node b) where
  pub bad-overrides : checked ≡ false → Gives (on_overrides bad rule b) bad b
  unfolding on_overrides
  bad-overrides t =
      let o : on_overrides bad rule b ≡ given bad b = pick-false (valid_node b) (stored_node (rule (decode_node b))) (given bad b) (sym e ∙ t) in
      (ap (λ (x : Given A (List ℕ)). x.answer) (sym o), ap (λ (x : Given A (List ℕ)). x.lent) (sym o))

  pub good-overrides : checked ≡ true → (r : A) (s : List ℕ) → Gives (stored_node (rule (decode_node b))) r s → Gives (on_overrides bad rule b) r s
  unfolding on_overrides
  good-overrides t r s h =
      let o : on_overrides bad rule b ≡ stored_node (rule (decode_node b)) = pick_true (valid_node b) (stored_node (rule (decode_node b))) (given bad b) (sym e ∙ t) in
      (h.0 ∙ ap (λ (x : Given A (List ℕ)). x.answer) (sym o), h.1 ∙ ap (λ (x : Given A (List ℕ)). x.lent) (sym o))

-- ---- the write, by its wanted status

module _ (v : List ℕ) (now : ℕ) (k : List ℕ) (e : Entry) where
  write-set : written (status_byte Set) v now k e ≡ called (Setting v) k e
  unfolding written
  write-set = refl

  write-ttl : written (status_byte Ttl) v now k e ≡ called (SettingTtl v now) k e
  unfolding written
  write-ttl = refl

  write-delete : written (status_byte Delete) v now k e ≡ given (Err BadTag) e
  unfolding written
  write-delete = refl

module _ (v : List ℕ) (now : ℕ) (k b : List ℕ) (wanted : Status) where
  abbrev asked : Given (Result (Unit {0}) Refusal) (List ℕ)
  asked = stored_node (written (status_byte wanted) v now k (decode_node b))

  pub set_gives : wanted ≡ Set → (r : (Result (Unit {0}) Refusal)) (s : List ℕ) → Gives (stored_node (called (Setting v) k (decode_node b))) r s → Gives asked r s
  set_gives e r s = subst (λ (o : Given (Result (Unit {0}) Refusal) Entry). Gives (stored_node o) r s) (sym (ap (λ (x : Status). written (status_byte x) v now k (decode_node b)) e ∙ write-set v now k (decode_node b)))

  pub ttl-gives : wanted ≡ Ttl → (r : (Result (Unit {0}) Refusal)) (s : List ℕ) → Gives (stored_node (called (SettingTtl v now) k (decode_node b))) r s → Gives asked r s
  ttl-gives e r s = subst (λ (o : Given (Result (Unit {0}) Refusal) Entry). Gives (stored_node o) r s) (sym (ap (λ (x : Status). written (status_byte x) v now k (decode_node b)) e ∙ write-ttl v now k (decode_node b)))

  pub tag-gives : wanted ≡ Delete → valid_node b ≡ true → Gives asked (Err BadTag) b
  tag-gives e g =
      subst (λ (o : Given (Result (Unit {0}) Refusal) Entry). Gives (stored_node o) (Err BadTag) b)
      (sym (ap (λ (x : Status). written (status_byte x) v now k (decode_node b)) e ∙ write-delete v now k (decode_node b))) (refl, sym (over-back b g))

-- ---- new overrides

-- the whole slice is cleared
cleared : (l : List ℕ) → length l ≡ node_width → put 0 (zeros node_width) l ≡ zeros node_width
cleared l e =
    let z : List ℕ = zeros node_width in
    ap (put 0 z) (sym (append-nil l)) ∙ put-at 0 z [] l [] refl (length-zeros node_width ∙ sym e) ∙ append-nil z

module _ (i : ℕ) (l : List ℕ) where
  pub made : length l ≡ node_width → (s t : List ℕ) → s ≡ put 0 (zeros node_width) l → t ≡ put (offset node_widths 0) (bytes_of 8 i) s → Gives (lent_new_overrides i l) done t
  unfolding lent_new_overrides
  made e s t p q =
      let o : lent_new_overrides i l ≡ given done (encode_node (fresh_entry i)) =
      pick_true (eqb (length l) node_width) (given done (encode_node (fresh_entry i))) (given (Err BadTable) l) (eq-eqb (length l) node_width e) in
      let zero : s ≡ zeros node_width = p ∙ cleared l e in (
        ap (λ (x : Given (Result (Unit {0}) Refusal) (List ℕ)). x.answer) (sym o),
        q ∙ ap (put (offset node_widths 0) (bytes_of 8 i)) zero ∙ fresh-bytes i ∙ ap (λ (x : Given (Result (Unit {0}) Refusal) (List ℕ)). x.lent) (sym o),
      )

  pub not_made : (length l ≡ node_width → ⊥) → Gives (lent_new_overrides i l) (Err BadTable) l
  unfolding lent_new_overrides
  not_made n =
      let o : lent_new_overrides i l ≡ given (Err BadTable) l =
      pick-false (eqb (length l) node_width) (given done (encode_node (fresh_entry i))) (given (Err BadTable) l) (ne_eqb (length l) node_width n) in
      (ap (λ (x : Given (Result (Unit {0}) Refusal) (List ℕ)). x.answer) (sym o), ap (λ (x : Given (Result (Unit {0}) Refusal) (List ℕ)). x.lent) (sym o))
