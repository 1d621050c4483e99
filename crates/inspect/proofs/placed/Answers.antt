-- `inspect::placed` meets its contract: where the texts begin, and what the record's bytes say. Assumes nothing.
use Prim.Native.Nat.{ℕ, ◌+◌}
use mathlib.Core.Path.{ap₂}
use Rattle.fields.specs.Widths.{offset}
use Rattle.rules.specs.Layout.{rec_widths}
use Rattle.rules.specs.declared.Record.{Record}
use Rattle.table_read.proofs.Reading.{rec-fits, rec-read, lent-rec-needs}
use Rattle.std.specs.Prelude.{Ok, Some}
use Rattle.inspect.proofs.placed.Goals as goal

pub record_of-requires : goal.record_of-requires
record_of-requires c =
    search lent-rec-needs

pub read_record-r-requires : goal.read_record-r-requires
read_record-r-requires c =
    rec-fits _ c.requires.0 _ c.requires.3 _ c.record_of.ensures

pub returns : goal.returns
returns c =
    let a = c.args in
    ap₂ (λ (k : ℕ) (x : Record). (Ok (Some (record { key = (a.start + k + offset rec_widths 1); value = (a.start + k + offset rec_widths 3); «record» = x })))) c.record_place.ensures
    (rec-read a.node.now a.j _ c.record_of.ensures _ c.read_record-r.ensures)
