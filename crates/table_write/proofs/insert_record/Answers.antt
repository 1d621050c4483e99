-- `table_write::insert_record` meets its contract. Assumes nothing.
use Prim.Native.Nat.{ℕ, ◌+◌}
use mathlib.Core.Path.{ap, ap₂, ◌∙◌}
use mathlib.Core.List.{List}
use lib.ListN.{length}
use Rattle.fields.specs.Parts.{part, put}
use Rattle.fields.proofs.Lent.{lent}
use Rattle.rules.specs.Layout.{rec_width, encode_rec}
use Rattle.rules.specs.Node.{Rec}
use Rattle.table.specs.Changes.{rec_of}
use Rattle.table.proofs.Records.{length-rec}
use Rattle.table_write.proofs.Steps.{insert-steps}
use Rattle.table_write.proofs.insert_record.Goals as goal

pub returns : goal.returns
returns c =
    let a = c.args in
    let r : Rec = rec_of a.key.now a.value.now a.version a.status a.start in
    let b : List ℕ = a.node.now in
    insert-steps b c.requires.0 a.j r c.move_up.new.s _ _ c.byte_at-n.result c.byte_at-n.ensures.0 c.requires.1 c.requires.2
    (c.move_up.ensures ∙ ap₂ (λ (at m : ℕ). put (at + rec_width) (part at m b) b) c.record_place-a.ensures c.times.ensures)
    (lent c.record_place-a.result rec_width c.move_up.new.s c.write_record.new.record (encode_rec r) c.write_record.ensures
    (ap length c.write_record.ensures ∙ length-rec r)
    ∙ ap (λ (at : ℕ). put at (encode_rec r) c.move_up.new.s) c.record_place-a.ensures)
    c.write_byte.ensures
