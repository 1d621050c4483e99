-- `table_nodes::lower` meets its contract: what is in use is moved, and what was in use behind it is cleared. Assumes nothing.
use Prim.Native.Nat.{ℕ}
use mathlib.Core.Path.{ap, sym, ◌∙◌}
use native.Mathlib.Omega.{arith}
use native.Mathlib.Nat.{zero-add}
use Rattle.fields.specs.Parts.{put}
use Rattle.fields.specs.Blocks.{zeros}
use Rattle.rules.specs.Layout.{node_width}
use Rattle.table_nodes.proofs.Steps.{pair-steps}
use Rattle.table_nodes.proofs.lower.Goals as goal

pub returns : goal.returns
returns c =
    pair-steps c.args.pair.now _ _ node_width 0 c.used_at-n.result c.used_at-m.result c.above.result (omega arith) (omega arith) c.requires.2 c.requires.1
    c.used_at-n.ensures.0 c.used_at-m.ensures.0 c.above.ensures c.move_down.ensures
    (c.clear.ensures ∙ ap (λ (k : ℕ). put k (zeros c.above.result) c.move_down.new.s) (sym (zero-add c.used_at-n.result)))
