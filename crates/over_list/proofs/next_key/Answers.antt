-- `over_list::next_key` meets its contract: a side at its end, or the order of the two keys. Assumes nothing.
use Prim.Native.Nat.{ℕ}
use mathlib.Core.Path.{◌≡◌, ap, ap₂, sym, ◌∙◌}
use mathlib.Core.List.{List}
use native.Mathlib.Omega.{arith}
use lib.Dec.{eqb}
use borrow.Author.Tests.{eq-eqb, ne_eqb}
use Rattle.fields.specs.Choice.{pick}
use Rattle.fields.specs.Order.{order_of}
use Rattle.std.specs.declared.cmp.Ordering.{Ordering}
use Rattle.std.specs.declared.cmp.Ordering.TheVariants.{Less, Greater}
use Rattle.fields.proofs.Choice.{pick_true, pick-false}
use Rattle.rules.specs.Layout.{decode_rec}
use Rattle.table_read.proofs.Reading.{rec-fits}
use Rattle.over_list.proofs.next_key.Goals as goal

module _ (a a_end b b_end : ℕ) (x : Ordering) where
  at-end : a ≡ a_end → Greater ≡ pick (eqb a a_end) Greater (pick (eqb b b_end) Less x)
  at-end e = sym (pick_true (eqb a a_end) Greater (pick (eqb b b_end) Less x) (eq-eqb a a_end e))

  other-at-end : (a ≡ a_end → ⊥) → b ≡ b_end → Less ≡ pick (eqb a a_end) Greater (pick (eqb b b_end) Less x)
  other-at-end d e = sym (pick-false (eqb a a_end) Greater (pick (eqb b b_end) Less x) (ne_eqb a a_end d) ∙ pick_true (eqb b b_end) Less x (eq-eqb b b_end e))

  neither : (a ≡ a_end → ⊥) → (b ≡ b_end → ⊥) → x ≡ pick (eqb a a_end) Greater (pick (eqb b b_end) Less x)
  neither d e = sym (pick-false (eqb a a_end) Greater (pick (eqb b b_end) Less x) (ne_eqb a a_end d) ∙ pick-false (eqb b b_end) Less x (ne_eqb b b_end e))

pub returns-then-a-a_end : goal.returns-then-a-a_end
returns-then-a-a_end c =
    let t = c.args in at-end t.a t.a_end t.b t.b_end _ c.if-a-a_end.true

pub returns-then-b-b_end : goal.returns-then-b-b_end
returns-then-b-b_end c =
    let t = c.args in other-at-end t.a t.a_end t.b t.b_end _ c.if-a-a_end.false c.if-b-b_end.true

pub key_of-requires : goal.key_of-requires
key_of-requires c =
    let f = rec-fits _ c.requires.0 c.args.a (omega (arith, c.if-a-a_end.false, c.requires.2, c.requires.3)) _ c.record_of.ensures in
    (f.0, f.1)

pub key_of-requires-2 : goal.key_of-requires-2
key_of-requires-2 c =
    let f = rec-fits _ c.requires.1 c.args.b (omega (arith, c.if-b-b_end.false, c.requires.4, c.requires.5)) _ c.record_of-2.ensures in
    (f.0, f.1)

pub returns : goal.returns
returns c =
    let t = c.args in
    c.compare.ensures
    ∙ ap₂ order_of (c.key_of.ensures ∙ ap (λ (x : List ℕ). (decode_rec x).kv.key) c.record_of.ensures)
    (c.key_of-2.ensures ∙ ap (λ (x : List ℕ). (decode_rec x).kv.key) c.record_of-2.ensures)
    ∙ neither t.a t.a_end t.b t.b_end _ c.if-a-a_end.false c.if-b-b_end.false
