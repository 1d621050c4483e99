-- `table_write::put_record` meets its contract. Assumes nothing.
use Prim.Native.Nat.{ℕ}
use mathlib.Core.Path.{ap, ◌∙◌}
use lib.ListN.{length}
use Rattle.fields.specs.Parts.{put}
use Rattle.fields.proofs.Lent.{lent}
use Rattle.rules.specs.Layout.{rec_width, encode_rec}
use Rattle.rules.specs.Node.{Rec}
use Rattle.table.specs.Changes.{rec_of}
use Rattle.table.proofs.Records.{length-rec}
use Rattle.table_write.proofs.Steps.{put-steps}
use Rattle.table_write.proofs.put_record.Goals as goal

pub returns : goal.returns
returns c =
    let a = c.args in
    let r : Rec = rec_of a.key.now a.value.now a.version a.status a.start in
    put-steps a.node.now c.requires.0 a.j r _ c.requires.1
    (lent c.record_place-a.result rec_width a.node.now c.write_record.new.record (encode_rec r) c.write_record.ensures
    (ap length c.write_record.ensures ∙ length-rec r)
    ∙ ap (λ (at : ℕ). put at (encode_rec r) a.node.now) c.record_place-a.ensures)
