-- `over_find::find_over_good` meets its contract: what the two lookups come to. Assumes nothing.
use mathlib.Core.Path.{ap₂, ◌∙◌}
use native.Mathlib.Omega.{arith}
use Rattle.overrides.proofs.Valid.{over-laid, over-rises}
use Rattle.over_find.specs.Over.{over_of}
use Rattle.over_find.proofs.find_over_good.Goals as goal

pub in_node-own-requires : goal.in_node-own-requires
in_node-own-requires c =
    let v = c.requires.0 in (over-laid _ v, over-rises _ v, omega arith)

pub returns : goal.returns
returns c =
    c.over.ensures ∙ ap₂ over_of c.in_node-own.ensures c.find_good-shared.ensures
