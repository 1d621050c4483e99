-- `local_guard::guard_held` meets its contract: the two numbers decide, unless the record is hidden. Assumes nothing.
use Prim.Native.Nat.{ℕ, ◌≤◌, ◌<◌}
use mathlib.Core.Bool.{true}
use mathlib.Core.List.{List}
use mathlib.Core.Path.{◌≡◌, ◌∙◌, ap, sym, subst}
use native.Mathlib.Omega.{arith}
use lib.ListN.{length}
use Rattle.fields.specs.Choice.{all}
use Rattle.fields.proofs.Choice.{and_right}
use Rattle.rules.specs.Layout.{decode_rec}
use Rattle.rules.specs.Node.{hidden}
use Rattle.rules.specs.Profile.{is_digit, max_digits, meter_key, meter_value, numeral}
use Rattle.rules.specs.declared.Record.{Record}
use Rattle.meter_form.proofs.Forms.{value-digits}
use Rattle.local_guard.proofs.Guarding.{greater-passes, hidden-passes, smaller-refused}
use Rattle.local_guard.proofs.guard_held.Goals as goal

below : (a b x y : ℕ) → a ≡ x → b ≡ y → a < b → x < y
below a b x y p q h = omega arith

not-below : (a b x y : ℕ) → a ≡ x → b ≡ y → b ≤ a → y ≤ x
not-below a b x y p q h = omega arith

pub returns-then-is_hidden : goal.returns-then-is_hidden
returns-then-is_hidden c =
    let is : c.is_hidden.result ≡ hidden (decode_rec c.args.«record».now).kv.status = c.is_hidden.ensures ∙ ap (λ (h : Record). hidden h.status) c.read_record.ensures in
    let a = c.args in
    hidden-passes _ (numeral 0 a.value.now) (numeral 0 (decode_rec a.«record».now).kv.value) (sym (is) ∙ c.if-is_hidden.true)

pub number_of-requires : goal.number_of-requires
number_of-requires c =
    value-digits c.args.status c.args.value.now c.requires.4

pub number_of-requires-2 : goal.number_of-requires-2
number_of-requires-2 c =
    let x = (decode_rec c.args.«record».now).kv in
    subst (λ (v : List ℕ). (length v ≤ max_digits) × (all is_digit v ≡ true)) (sym c.value_of.ensures)
    (value-digits x.status x.value (and_right (meter_key x.key) (meter_value x.status x.value) c.requires.3))

pub returns-then-number_of : goal.returns-then-number_of
returns-then-number_of c =
    let is : c.is_hidden.result ≡ hidden (decode_rec c.args.«record».now).kv.status = c.is_hidden.ensures ∙ ap (λ (h : Record). hidden h.status) c.read_record.ensures in
    let ours : c.number_of.result ≡ numeral 0 c.args.value.now = c.number_of.ensures in
    let theirs : c.number_of-2.result ≡ numeral 0 (decode_rec c.args.«record».now).kv.value = c.number_of-2.ensures ∙ ap (numeral 0) c.value_of.ensures in
    smaller-refused _ _ _ (sym (is) ∙ c.if-is_hidden.false) (below _ _ _ _ (ours) (theirs) c.if-number_of.true)

pub returns : goal.returns
returns c =
    let is : c.is_hidden.result ≡ hidden (decode_rec c.args.«record».now).kv.status = c.is_hidden.ensures ∙ ap (λ (h : Record). hidden h.status) c.read_record.ensures in
    let ours : c.number_of.result ≡ numeral 0 c.args.value.now = c.number_of.ensures in
    let theirs : c.number_of-2.result ≡ numeral 0 (decode_rec c.args.«record».now).kv.value = c.number_of-2.ensures ∙ ap (numeral 0) c.value_of.ensures in
    greater-passes _ _ _ (sym (is) ∙ c.if-is_hidden.false) (not-below _ _ _ _ (ours) (theirs) c.if-number_of.false)
