-- `table_nodes::insert_node` meets its contract. Assumes nothing.
use Prim.Native.Nat.{ℕ}
use mathlib.Core.Path.{ap, ◌∙◌}
use native.Mathlib.Omega.{arith}
use lib.ListN.{length}
use Rattle.fields.specs.Parts.{put}
use Rattle.fields.proofs.Lent.{lent}
use Rattle.rules.specs.Layout.{node_width, encode_node}
use Rattle.rules.specs.Table.{Entry}
use Rattle.table.specs.Changes.{fresh_entry}
use Rattle.table.proofs.Nodes.{length-node}
use Rattle.table_nodes.proofs.Steps.{add-steps}
use Rattle.table_nodes.proofs.Moves.{up-free}
use Rattle.table_nodes.proofs.insert_node.Goals as goal

pub write_fresh-requires : goal.write_fresh-requires
write_fresh-requires c =
    up-free c.args.table.now c.requires.0 c.byte_at-n.result (omega (arith, c.byte_at-n.ensures.0)) c.args.i (omega (arith, c.byte_at-n.ensures.0)) c.raise_from.new.table
    c.raise_from.ensures c.node_place-a.result c.node_place-a.ensures

pub returns : goal.returns
returns c =
    let a = c.args in
    let x : Entry = fresh_entry a.number in
    add-steps a.table.now c.requires.0 a.i c.raise_from.new.table _ _ c.byte_at-n.result a.number c.byte_at-n.ensures.0 c.requires.1 c.requires.2
    c.raise_from.ensures
    (lent c.node_place-a.result node_width c.raise_from.new.table c.write_fresh.new.node (encode_node x) c.write_fresh.ensures
    (ap length c.write_fresh.ensures ∙ length-node x)
    ∙ ap (λ (at : ℕ). put at (encode_node x) c.raise_from.new.table) c.node_place-a.ensures)
    c.write_byte.ensures
