-- Calls on the bytes of a table that obeys, of any kind (Lent of `rules`): nothing is refused with 14, and the call does to the table what its rule says. Assumes
-- nothing.
use Prim.Native.Nat.{ℕ}
use mathlib.Core.Bool.{Bool, true}
use mathlib.Core.List.{List}
use mathlib.Core.Path.{◌∙◌, ◌≡◌, ap}
use Rattle.fields.specs.Choice.{pick}
use Rattle.rules.specs.Apply.{apply, ways_in}
use Rattle.rules.specs.Given.{Given, given}
use Rattle.rules.specs.Lent.{both, from_table, lent_apply, lent_apply_as, on_table, on_whole, stored_apply, stored_in}
use Rattle.rules.specs.Local.{Outcome}
use Rattle.rules.specs.Table.{Table}
use Rattle.rules.specs.Whole.{Whole, decode_whole, encode_whole, obeys_whole}
use Rattle.std.specs.Prelude.{Err}
use Rattle.rules.specs.declared.Refusal.TheVariants.{BadTable}
use Rattle.table.proofs.Wholes.{decode-encode-whole, valid-encode-whole}

module _ (w : Whole) (o : obeys_whole w ≡ true) where
  abbrev l : List ℕ
  l = encode_whole w

  pub on-whole : {A : Type 0} (bad : A) (rule : Table → Outcome A) → on_table bad rule (encode_whole w) ≡ stored_in w (rule w.table)
  unfolding on_table
  on-whole bad rule =
      ap (λ (b : Bool). pick b (stored_in (decode_whole l) (rule (decode_whole l).table)) (given bad l)) (valid-encode-whole w o)
      ∙ ap (λ (u : Whole). stored_in u (rule u.table)) (decode-encode-whole w o)

  pub from-whole : {A : Type 0} (bad : A) (rule : Table → A) → from_table bad rule (encode_whole w) ≡ rule w.table
  unfolding from_table
  from-whole bad rule = ap (λ (b : Bool). pick b (rule (decode_whole l).table) bad) (valid-encode-whole w o) ∙ ap (λ (u : Whole). rule u.table) (decode-encode-whole w o)

  pub whole-whole : {A : Type 0} (bad : A) (rule : Whole → Given A Whole) → on_whole bad rule (encode_whole w) ≡ given (rule w).answer (encode_whole (rule w).lent)
  unfolding on_whole
  whole-whole bad rule =
      ap (λ (b : Bool). pick b (given (rule (decode_whole l)).answer (encode_whole (rule (decode_whole l)).lent)) (given bad l)) (valid-encode-whole w o)
      ∙ ap (λ (u : Whole). given (rule u).answer (encode_whole (rule u).lent)) (decode-encode-whole w o)

  pub apply-whole : (delta : List ℕ) (now : ℕ) (list : List ℕ) → lent_apply delta now list (encode_whole w) ≡ stored_apply w (apply (ways_in w.kind) delta now w.table list)
  unfolding lent_apply_as
  apply-whole delta now list =
      ap (λ (b : Bool). pick b (stored_apply (decode_whole l) (apply (ways_in (decode_whole l).kind) delta now (decode_whole l).table list)) (given (Err (record { why = BadTable; at = 0 })) (both l list)))
      (valid-encode-whole w o)
      ∙ ap (λ (u : Whole). stored_apply u (apply (ways_in u.kind) delta now u.table list)) (decode-encode-whole w o)
