-- `table_nodes::remove_node` meets its contract: those behind move down, and the place that falls free is cleared. Assumes nothing.
use Prim.Native.Nat.{ℕ, ◌+◌, ◌*◌, ◌-◌}
use mathlib.Core.Path.{◌≡◌, ap, ◌∙◌}
use mathlib.Core.List.{List}
use native.Mathlib.Omega.{arith}
use lib.ListN.{length}
use Rattle.fields.specs.Parts.{part, put}
use Rattle.fields.specs.Blocks.{zeros}
use Rattle.fields.proofs.Blocks.{length-zeros}
use Rattle.fields.proofs.Lent.{lent}
use Rattle.rules.specs.Layout.{node_place, node_width, table_widths}
use Rattle.fields.specs.Widths.{offset}
use Rattle.table_write.proofs.Steps.{gone-steps}
use Rattle.table_nodes.proofs.Steps.{node-gone}
use Rattle.table_nodes.proofs.Moves.{down_to, down-free}
use Rattle.table_nodes.proofs.remove_node.Goals as goal

pub clear_node-requires : goal.clear_node-requires
clear_node-requires c =
    let lowered-to : let a = c.args in
    c.lower_behind.new.table ≡ down_to a.i (c.byte_at-n.result - 1) a.table.now = let a = c.args in
    let e : c.byte_at-n.result - (a.i + 1) ≡ c.byte_at-n.result - 1 - a.i = omega arith in
    c.lower_behind.ensures ∙ ap (λ (m : ℕ). put (node_place a.i) (part (node_place a.i + node_width) (m * node_width) a.table.now) a.table.now) e in
    down-free c.args.table.now c.requires.0 c.args.i (c.byte_at-n.result - 1) (omega (arith, c.byte_at-n.ensures.0, c.requires.1)) (omega (arith, c.byte_at-n.ensures.0, c.requires.0.few, c.requires.1))
    c.lower_behind.new.table (lowered-to) c.node_place-a.result c.node_place-a.ensures

pub returns : goal.returns
returns c =
    let a = c.args in
    let s1 : List ℕ = c.lower_behind.new.table in
    let at : node_place (c.byte_at-n.result - 1) ≡ node_place a.i + (c.byte_at-n.result - (a.i + 1)) * node_width = omega (arith, c.byte_at-n.ensures.0, c.requires.1) in
    gone-steps a.table.now s1 _ _ (offset table_widths 0) node_width a.i c.byte_at-n.result c.byte_at-n.ensures.0 c.lower_behind.ensures
    (lent c.node_place-a.result node_width s1 c.clear_node.new.node (zeros node_width) c.clear_node.ensures
    (ap length c.clear_node.ensures ∙ length-zeros node_width)
    ∙ ap (λ (k : ℕ). put k (zeros node_width) s1) (c.node_place-a.ensures ∙ at))
    c.write_byte.ensures
    ∙ node-gone a.table.now c.requires.0 a.i c.requires.1
