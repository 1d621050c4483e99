-- `inspect_text::in_node` meets its contract: 8, or the length that was read, at the place of the layout. Assumes nothing.
use Prim.Native.Nat.{ℕ, ◌+◌, ◌<◌}
use mathlib.Core.Path.{◌≡◌, ap, ap₂, sym, ◌∙◌}
use mathlib.Core.Bool.{true}
use mathlib.Core.List.{List}
use mathlib.Core.Option.{Option}
use native.Mathlib.Omega.{arith}
use lib.ListN.{length}
use Rattle.fields.specs.Widths.{offset}
use Rattle.rules.specs.Node.{Rec}
use Rattle.rules.specs.Layout.{rec_widths, decode_node}
use Rattle.rules.specs.declared.Record.{Record}
use Rattle.table.specs.Tests.{count_of}
use Rattle.table.proofs.Places.{rec_at}
use Rattle.table_read.proofs.Reading.{rec-fits, rec-read}
use Rattle.rules.specs.Profile.{recs_formed}
use Rattle.rules.specs.Table.{keys_rise}
use Rattle.rules.specs.declared.Party.{Party}
use Rattle.rules.specs.declared.Profile.{Profile}
use Rattle.table.specs.Tests.{recs_in}
use Rattle.own_rows.specs.Sight.{seen_node, sight_in}
use Rattle.own_rows.specs.declared.Sight.{Sight}
use Rattle.std.specs.Prelude.{Ok, Some}
use Rattle.inspect.specs.Look.{element_at}
use Rattle.inspect.proofs.Elements.{own-within, rec-there, no-rec-there}
use Rattle.inspect_text.specs.Texts.{text_of, text_place, place_on}
use Rattle.inspect_text.specs.declared.Text.{Text}
use Rattle.inspect_text.specs.declared.Text.TheVariants.{Key, Value}
use Rattle.inspect_text.proofs.in_node.Goals as goal

-- the text of a record that the party sees, at the place that was told
module _ (p : Profile) (q : Party) (b : List ℕ) (s : keys_rise (recs_in b) ≡ true) (f : recs_formed p (recs_in b) ≡ true) {i : Sight} (e : i ≡ sight_in p q (recs_in b)) where
  place-there : (start j : ℕ) → j < i.count → {t : Text} (x : Text) → t ≡ x → {k n : ℕ} → k ≡ text_place x start j → n ≡ length (text_of x (rec_at (i.low + j) b))
      → (Ok (Some (record { start = k; len = n }))) ≡ place_on t start j (element_at j (seen_node p q (decode_node b).node).recs)
  place-there start j h x y k n =
      rec-there p q b s f e (place_on _ start j) j h _
      (ap₂ (λ (a c : ℕ). Ok (Some (record { start = a; len = c }))) k n
      ∙ ap (λ (z : Text). Ok (Some (record { start = text_place z start j; len = length (text_of z (rec_at (i.low + j) b)) }))) (sym y))

pub returns-then-sight-j : goal.returns-then-sight-j
returns-then-sight-j c =
    let a = c.args in
    no-rec-there a.profile a.party a.node.now c.requires.1 c.requires.2 c.sight_of-sight.ensures (place_on a.text a.start a.j) a.j c.if-sight-j.true

pub overflow_add-sight : goal.overflow_add-sight
overflow_add-sight c =
    let at : ℕ = c.sight_of-sight.result.low + c.args.j in
    let within : at < count_of c.args.node.now = let a = c.args in
    own-within a.profile a.party a.node.now c.requires.1 c.requires.2 c.sight_of-sight.ensures (λ (o : Option Rec). o) a.j c.if-sight-j.false in
    let few : at < 32 = omega (arith, within, c.requires.0.few) in
    omega (arith, few)

pub record_of-requires : goal.record_of-requires
record_of-requires c =
    let at : ℕ = c.sight_of-sight.result.low + c.args.j in
    let within : at < count_of c.args.node.now = let a = c.args in
    own-within a.profile a.party a.node.now c.requires.1 c.requires.2 c.sight_of-sight.ensures (λ (o : Option Rec). o) a.j c.if-sight-j.false in
    let few : at < 32 = omega (arith, within, c.requires.0.few) in
    (c.requires.0.long, few)

pub read_record-r-requires : goal.read_record-r-requires
read_record-r-requires c =
    let at : ℕ = c.sight_of-sight.result.low + c.args.j in
    let within : at < count_of c.args.node.now = let a = c.args in
    own-within a.profile a.party a.node.now c.requires.1 c.requires.2 c.sight_of-sight.ensures (λ (o : Option Rec). o) a.j c.if-sight-j.false in
    rec-fits _ c.requires.0 _ (within) _ c.record_of.ensures

pub record_place-requires : goal.record_place-requires
record_place-requires c =
    let at : ℕ = c.sight_of-sight.result.low + c.args.j in
    let within : at < count_of c.args.node.now = let a = c.args in
    own-within a.profile a.party a.node.now c.requires.1 c.requires.2 c.sight_of-sight.ensures (λ (o : Option Rec). o) a.j c.if-sight-j.false in
    let few : at < 32 = omega (arith, within, c.requires.0.few) in
    omega (arith, few)

pub overflow_add-record : goal.overflow_add-record
overflow_add-record c =
    let at : ℕ = c.sight_of-sight.result.low + c.args.j in
    let within : at < count_of c.args.node.now = let a = c.args in
    own-within a.profile a.party a.node.now c.requires.1 c.requires.2 c.sight_of-sight.ensures (λ (o : Option Rec). o) a.j c.if-sight-j.false in
    let few : at < 32 = omega (arith, within, c.requires.0.few) in
    omega (arith, c.record_place.ensures, few, c.requires.3)

pub overflow_add-result : goal.overflow_add-result
overflow_add-result c =
    let at : ℕ = c.sight_of-sight.result.low + c.args.j in
    let within : at < count_of c.args.node.now = let a = c.args in
    own-within a.profile a.party a.node.now c.requires.1 c.requires.2 c.sight_of-sight.ensures (λ (o : Option Rec). o) a.j c.if-sight-j.false in
    let few : at < 32 = omega (arith, within, c.requires.0.few) in
    omega (arith, c.record_place.ensures, few, c.requires.3)

pub overflow_add-result-in-Value : goal.overflow_add-result-in-Value
overflow_add-result-in-Value c =
    let at : ℕ = c.sight_of-sight.result.low + c.args.j in
    let within : at < count_of c.args.node.now = let a = c.args in
    own-within a.profile a.party a.node.now c.requires.1 c.requires.2 c.sight_of-sight.ensures (λ (o : Option Rec). o) a.j c.if-sight-j.false in
    let few : at < 32 = omega (arith, within, c.requires.0.few) in
    omega (arith, c.record_place.ensures, few, c.requires.3)

pub returns-in-Key : goal.returns-in-Key
returns-in-Key c =
    let a = c.args in
    let read = rec-read a.node.now (c.sight_of-sight.result.low + a.j) _ c.record_of.ensures _ c.read_record-r.ensures in
    place-there a.profile a.party a.node.now c.requires.1 c.requires.2 c.sight_of-sight.ensures a.start a.j c.if-sight-j.false Key c.in-Key.is
    (ap (λ (k : ℕ). a.start + k + offset rec_widths 1) c.record_place.ensures) (ap (λ (r : Record). r.keylen) read)

pub returns-in-Value : goal.returns-in-Value
returns-in-Value c =
    let a = c.args in
    let read = rec-read a.node.now (c.sight_of-sight.result.low + a.j) _ c.record_of.ensures _ c.read_record-r.ensures in
    place-there a.profile a.party a.node.now c.requires.1 c.requires.2 c.sight_of-sight.ensures a.start a.j c.if-sight-j.false Value c.in-Value.is
    (ap (λ (k : ℕ). a.start + k + offset rec_widths 3) c.record_place.ensures) (ap (λ (r : Record). r.valuelen) read)
