-- `lookup::in_record` meets its contract: a hidden record shows nothing, any other its value's place. Assumes nothing.
use Prim.Native.Nat.{ℕ, ◌+◌, ◌-◌}
use mathlib.Core.Logic.{◌⊎◌, inl, inr}
use mathlib.Core.Path.{◌≡◌, ap, sym, ◌∙◌}
use Rattle.fields.specs.Choice.{pick}
use Rattle.fields.specs.Numbers.{Bytes}
use Rattle.fields.specs.Widths.{offset}
use Rattle.rules.specs.Node.{hidden}
use Rattle.rules.specs.Layout.{rec_place, rec_widths}
use Rattle.rules.specs.declared.Record.{Record}
use Rattle.rules.specs.declared.Status.{Status}
use Rattle.rules.specs.declared.Status.TheVariants.{Set, Delete, Ttl}
use Rattle.table.proofs.Places.{rec_at}
use Rattle.table_read.specs.Find.{record_of}
use Rattle.table_read.proofs.Reading.{lent-rec-needs, rec-fits, rec-read}
use Rattle.lookup.specs.Lookup.{value_place, found_rec}
use Rattle.std.specs.Prelude.{None, Ok, Some}
use Rattle.lookup.proofs.in_record.Goals as goal

-- by the status that was read
answer : (node : Bytes) (start low j k : ℕ) (r : Record) (s : Status) → k ≡ rec_place (j - low) → r ≡ record_of (rec_at j node) → r.status ≡ s
    → pick (hidden s) (Ok None) (Ok (Some (record { start = (start + k + offset rec_widths 3); len = r.valuelen }))) ≡ found_rec start (j - low) (rec_at j node)
answer node start low j k r s p q h =
    let at : ℕ = value_place start (j - low) in
    ap (λ (m : ℕ). pick (hidden s) (Ok None) (Ok (Some (record { start = (start + m + offset rec_widths 3); len = r.valuelen })))) p
    ∙ ap (λ (t : Status). pick (hidden t) (Ok None) (Ok (Some (record { start = at; len = r.valuelen })))) (sym h)
    ∙ ap (λ (x : Record). pick (hidden x.status) (Ok None) (Ok (Some (record { start = at; len = x.valuelen })))) q

-- the two statuses under which a record shows
shown : (node : Bytes) (start low j k : ℕ) (r : Record) → k ≡ rec_place (j - low) → r ≡ record_of (rec_at j node) → (r.status ≡ Set) ⊎ (r.status ≡ Ttl)
    → (Ok (Some (record { start = (start + k + offset rec_widths 3); len = r.valuelen }))) ≡ found_rec start (j - low) (rec_at j node)
shown node start low j k r p q (inl h) = answer node start low j k r Set p q h
shown node start low j k r p q (inr h) = answer node start low j k r Ttl p q h

pub record_of-requires : goal.record_of-requires
record_of-requires c = search lent-rec-needs

pub read_record-r-requires : goal.read_record-r-requires
read_record-r-requires c = rec-fits _ c.requires.0 _ c.requires.3 _ c.record_of.ensures

pub returns-in-Delete : goal.returns-in-Delete
returns-in-Delete c =
    let a = c.args in
    answer a.node.now a.start a.low a.j _ _ Delete c.record_place.ensures (rec-read a.node.now a.j _ c.record_of.ensures _ c.read_record-r.ensures) c.in-Delete.is

pub returns-in-Set : goal.returns-in-Set
returns-in-Set c =
    let a = c.args in
    shown a.node.now a.start a.low a.j _ _ c.record_place.ensures (rec-read a.node.now a.j _ c.record_of.ensures _ c.read_record-r.ensures) c.in-Set.is
