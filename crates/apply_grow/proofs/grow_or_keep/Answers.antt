-- `apply_grow::grow_or_keep` meets its contract: the node is the outcome's, or what was saved. Assumes nothing.
use mathlib.Core.Path.{◌≡◌, ap, ◌∙◌}
use native.Mathlib.Omega.{arith}
use lib.ListN.{length}
use Rattle.apply_grow.proofs.Growing.{put_all, has-stored, kept}
use Rattle.apply_grow.proofs.grow_or_keep.Goals as goal

pub copy_to-requires : goal.copy_to-requires
copy_to-requires c =
    omega (arith, c.requires.0.laid.long)

pub returns-then-grow_as : goal.returns-then-grow_as
returns-then-grow_as c =
    has-stored _ _ _ _ _ c.grow_as.ensures c.if-grow_as.true

pub returns : goal.returns
returns c =
    let saved : c.copy_to.new.s ≡ c.args.node.now = c.copy_to.ensures ∙ put_all _ _ (omega (arith, c.requires.0.laid.long)) in
    kept _ _ _ _ _ c.grow_as.ensures c.if-grow_as.false _ _ (saved) c.copy_to-2.ensures
    (omega (arith, c.grow_as.auto.node, c.requires.0.laid.long, ap length (saved)))
