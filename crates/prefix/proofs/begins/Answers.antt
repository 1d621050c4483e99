-- `prefix::begins` meets its contract: the key that was read is the record's. Assumes nothing.
use Prim.Native.Nat.{ℕ}
use mathlib.Core.Path.{ap, ◌∙◌}
use mathlib.Core.List.{List}
use Rattle.fields.specs.Order.{starts_with}
use Rattle.rules.specs.Layout.{decode_rec}
use Rattle.table_read.proofs.Reading.{lent-rec-needs, rec-fits}
use Rattle.prefix.proofs.begins.Goals as goal

pub record_of-requires : goal.record_of-requires
record_of-requires c =
    search lent-rec-needs

pub key_of-requires : goal.key_of-requires
key_of-requires c =
    let f = rec-fits _ c.requires.0 _ c.requires.1 _ c.record_of.ensures in
    (f.0, f.1)

pub returns : goal.returns
returns c =
    c.starts_with.ensures
    ∙ ap (starts_with c.args.prefix.now) (c.key_of.ensures ∙ ap (λ (x : List ℕ). (decode_rec x).kv.key) c.record_of.ensures)
