-- `table::record_of` meets its contract. Assumes nothing.
use Prim.Native.Nat.{ℕ}
use mathlib.Core.Path.{ap, ◌∙◌}
use Rattle.fields.specs.Parts.{part}
use Rattle.fields.proofs.Lent.{seen}
use Rattle.rules.specs.Layout.{rec_width}
use Rattle.table.proofs.record_of.Goals as goal

pub returns : goal.returns
returns c =
    let l = c.args.node.now in
    seen c.record_place-a.result rec_width l ∙ ap (λ (k : ℕ). part k rec_width l) c.record_place-a.ensures
