-- The entry points: number 14 first, and on a good table the rule. What the check answers decides which. On a good table the area is lent to the
-- function that does the work, and what that one promises is the rest. Assumes nothing.
use Prim.Native.Nat.{ℕ, ◌≤◌}
use mathlib.Core.Path.{◌≡◌, ap, sym, ◌∙◌}
use mathlib.Core.Bool.{Bool, true, false}
use mathlib.Core.List.{List, ◌++◌}
use native.Mathlib.Omega.{arith}
use native.Mathlib.Nat.{zero-add}
use lib.ListN.{length, take, drop}
use lib.Seq.{length-take-le}
use Rattle.fields.specs.Parts.{put}
use Rattle.fields.proofs.Choice.{pick_true, pick-false}
use Rattle.rules.specs.Given.{Given, given, Gives}
use Rattle.rules.specs.Table.{Table}
use Rattle.rules.specs.Local.{Outcome}
use Rattle.rules.specs.Layout.{table_width, encode, valid}
use Rattle.rules.specs.Whole.{Whole, with_table, encode_whole, decode_whole, valid_whole}
use Rattle.rules.specs.Lent.{stored, stored_in, on_table, on_whole}
use Rattle.table.proofs.Tables.{length-table}
use Rattle.table.proofs.Wholes.{area-valid, area-changed, whole_long}

-- ---- the area as it is lent, by what the check answered

module _ (l : List ℕ) {checked : Bool} (e : checked ≡ valid_whole l) (t : checked ≡ true) where
  whole-good : valid_whole l ≡ true
  whole-good = sym e ∙ t

  pub area-good : valid (take table_width l) ≡ true
  area-good = area-valid l whole-good

  pub area-within : table_width ≤ length l
  area-within = omega (arith, whole_long l whole-good)

  pub area-long : table_width ≡ length (take table_width l)
  area-long = sym (length-take-le table_width l area-within)

-- it comes back as that of another table
pub area-back : (l : List ℕ) → valid_whole l ≡ true → (t : Table) (s : List ℕ) → s ≡ encode t
    → s ++ drop table_width l ≡ encode_whole (with_table t (decode_whole l))
unfolding put
area-back l v t s e =
    ap (λ (x : List ℕ). x ++ drop table_width l) e
    ∙ over (encode t) (length-table t)
    ∙ area-changed l v t
  where
    over : (z : List ℕ) → length z ≡ table_width → z ++ drop table_width l ≡ put 0 z l
    over z q = ap (λ (n : ℕ). z ++ drop n l) (sym q ∙ sym (zero-add (length z)))

-- ---- calls that change the table

module _ {A : Type 0} (bad : A) (rule : Table → Outcome A) (l : List ℕ) where
  abbrev outcome : Outcome A
  outcome = rule (decode_whole l).table

  pub bad-table : valid_whole l ≡ false → Gives (on_table bad rule l) bad l
  unfolding on_table
  bad-table v =
      let e : on_table bad rule l ≡ given bad l = pick-false (valid_whole l) (stored_in (decode_whole l) outcome) (given bad l) v in
      (ap (λ (o : Given A (List ℕ)). o.answer) (sym e), ap (λ (o : Given A (List ℕ)). o.lent) (sym e))

  -- the area came back as s
  pub good-table : valid_whole l ≡ true → (r : A) (s : List ℕ) → Gives (stored outcome) r s → Gives (on_table bad rule l) r (s ++ drop table_width l)
  unfolding on_table
  good-table v r s h =
      let e : on_table bad rule l ≡ stored_in (decode_whole l) outcome = pick_true (valid_whole l) (stored_in (decode_whole l) outcome) (given bad l) v in (
        h.0 ∙ ap (λ (o : Given A (List ℕ)). o.answer) (sym e),
        area-back l v outcome.table s h.1 ∙ ap (λ (o : Given A (List ℕ)). o.lent) (sym e),
      )

-- ---- calls that change the memory too

module _ {A : Type 0} (bad : A) (rule : Whole → Given A Whole) (l : List ℕ) where
  pub bad-whole : valid_whole l ≡ false → Gives (on_whole bad rule l) bad l
  unfolding on_whole
  bad-whole v =
      let e : on_whole bad rule l ≡ given bad l =
      pick-false (valid_whole l) (given (rule (decode_whole l)).answer (encode_whole (rule (decode_whole l)).lent)) (given bad l) v in
      (ap (λ (o : Given A (List ℕ)). o.answer) (sym e), ap (λ (o : Given A (List ℕ)). o.lent) (sym e))

  pub good-whole : valid_whole l ≡ true → (r : A) (s : List ℕ) → r ≡ (rule (decode_whole l)).answer → s ≡ encode_whole (rule (decode_whole l)).lent → Gives (on_whole bad rule l) r s
  unfolding on_whole
  good-whole v r s p q =
      let e : on_whole bad rule l ≡ given (rule (decode_whole l)).answer (encode_whole (rule (decode_whole l)).lent) =
      pick_true (valid_whole l) (given (rule (decode_whole l)).answer (encode_whole (rule (decode_whole l)).lent)) (given bad l) v in
      (p ∙ ap (λ (o : Given A (List ℕ)). o.answer) (sym e), q ∙ ap (λ (o : Given A (List ℕ)). o.lent) (sym e))
