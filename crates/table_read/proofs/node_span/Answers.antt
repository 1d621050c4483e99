-- `table_read::node_span` meets its contract: a node that is found stands within the table, so that no sum of places wraps. Assumes nothing.
use Prim.Native.Nat.{ℕ, ◌+◌, ◌<◌}
use mathlib.Core.Path.{◌≡◌, ap, sym, ◌∙◌}
use native.Mathlib.Omega.{arith}
use Rattle.rules.specs.Sizes.{max_nodes}
use Rattle.rules.specs.Layout.{node_width, decode}
use Rattle.table.proofs.Tables.{valid-long, valid-few}
use Rattle.table_read.specs.Find.{find_node, span_of}
use Rattle.table_read.specs.declared.Place.TheVariants.{At}
use Rattle.std.specs.Prelude.{Some}
use Rattle.table_read.proofs.Searched.{node_in}
use Rattle.table_read.proofs.node_span.Goals as goal

pub find_node-requires : goal.find_node-requires
find_node-requires c =
    (valid-long c.args.table.now c.requires, valid-few c.args.table.now c.requires)

pub node_place-start-requires : goal.node_place-start-requires
node_place-start-requires c =
    let found : find_node c.args.number (decode c.args.table.now) ≡ At c.in-At.i = sym c.find_node.ensures ∙ c.in-At.is in
    let few : c.in-At.i < max_nodes = let l = c.args.table.now in
    omega (arith, node_in l c.requires c.args.number c.in-At.i (found), valid-few l c.requires) in
    omega (arith, few)

pub overflow_add-result : goal.overflow_add-result
overflow_add-result c =
    let found : find_node c.args.number (decode c.args.table.now) ≡ At c.in-At.i = sym c.find_node.ensures ∙ c.in-At.is in
    let few : c.in-At.i < max_nodes = let l = c.args.table.now in
    omega (arith, node_in l c.requires c.args.number c.in-At.i (found), valid-few l c.requires) in
    omega (arith, few)

pub returns-in-At : goal.returns-in-At
returns-in-At c =
    let found : find_node c.args.number (decode c.args.table.now) ≡ At c.in-At.i = sym c.find_node.ensures ∙ c.in-At.is in
    ap (λ (k : ℕ). (Some (record { start = k; end = (k + node_width) }))) c.node_place-start.ensures ∙ ap span_of (sym (found))

pub returns-in-Free : goal.returns-in-Free
returns-in-Free c =
    ap span_of (sym (sym c.find_node.ensures ∙ c.in-Free.is))
