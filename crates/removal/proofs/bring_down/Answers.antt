-- `removal::bring_down` meets its contract: the record's bytes are put at the other place. Assumes nothing.
use Prim.Native.Nat.{ℕ}
use mathlib.Core.Path.{ap₂, ◌∙◌}
use mathlib.Core.List.{List}
use Rattle.fields.specs.Parts.{part, put}
use Rattle.rules.specs.Layout.{rec_width}
use Rattle.removal.proofs.Removing.{brought}
use Rattle.removal.proofs.bring_down.Goals as goal

pub returns : goal.returns
returns c =
    let b : List ℕ = c.args.node.now in
    brought b c.requires.0 c.args.j c.requires.2 c.args.to _ c.requires.1
    (c.move_down.ensures ∙ ap₂ (λ (x y : ℕ). put y (part x rec_width b) b) c.record_place-from.ensures c.record_place-place.ensures)
