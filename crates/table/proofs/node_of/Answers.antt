-- `table::node_of` meets its contract. Assumes nothing.
use Prim.Native.Nat.{ℕ}
use mathlib.Core.Path.{ap, ◌∙◌}
use Rattle.fields.specs.Parts.{part}
use Rattle.fields.proofs.Lent.{seen}
use Rattle.rules.specs.Layout.{node_width}
use Rattle.table.proofs.node_of.Goals as goal

pub returns : goal.returns
returns c =
    let l = c.args.table.now in
    seen c.node_place-a.result node_width l ∙ ap (λ (k : ℕ). part k node_width l) c.node_place-a.ensures
