-- `removal::cut` meets its contract: zeros in the places behind, and the count; with nothing behind, the node as it stands. Assumes nothing.
use Prim.Native.Nat.{ℕ}
use mathlib.Core.Path.{ap₂, ◌∙◌}
use mathlib.Core.List.{List}
use native.Mathlib.Omega.{arith}
use Rattle.fields.specs.Parts.{put}
use Rattle.fields.specs.Blocks.{zeros}
use Rattle.removal.proofs.Removing.{cut-steps, cut-none}
use Rattle.removal.proofs.cut.Goals as goal

pub returns-then-kept-n : goal.returns-then-kept-n
returns-then-kept-n c =
    let b : List ℕ = c.args.node.now in
    cut-steps b c.requires.0 _ _ c.byte_at-n.result c.args.kept c.byte_at-n.ensures.0 (omega (arith, c.byte_at-n.ensures.0))
    (c.clear.ensures ∙ ap₂ (λ (x y : ℕ). put x (zeros y) b) c.record_place-from.ensures c.times-room.ensures) c.write_byte.ensures

pub returns-else-kept-n : goal.returns-else-kept-n
returns-else-kept-n c =
    cut-none c.args.node.now c.requires.0 c.args.kept (omega (arith, c.byte_at-n.ensures.0))
