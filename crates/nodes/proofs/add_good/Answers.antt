-- `nodes::add_good` meets its contract: what finding the number says decides. Assumes nothing.
use Prim.Native.Nat.{◌<◌}
use mathlib.Core.Path.{◌≡◌, sym, ◌∙◌}
use native.Mathlib.Omega.{arith}
use Rattle.rules.specs.Layout.{decode}
use Rattle.rules.specs.Sizes.{max_nodes}
use Rattle.table.specs.Tests.{nodes_of}
use Rattle.table.proofs.Tables.{valid-long, valid-few, valid-laid, length-decode}
use Rattle.table_read.specs.Find.{find_node, to_node}
use Rattle.table_read.specs.declared.Place.TheVariants.{Free}
use Rattle.table_read.proofs.Placed.{free_in}
use Rattle.nodes.proofs.Coming.{add-held, add-full, add-new}
use Rattle.nodes.proofs.add_good.Goals as goal

pub find_node-requires : goal.find_node-requires
find_node-requires c =
    (valid-long c.args.table.now c.requires, valid-few c.args.table.now c.requires)

pub byte_at-requires : goal.byte_at-requires
byte_at-requires c =
    omega (arith, valid-long c.args.table.now c.requires)

pub returns-then-byte_at-ge-NODES : goal.returns-then-byte_at-ge-NODES
returns-then-byte_at-ge-NODES c =
    let belongs : find_node c.args.number (decode c.args.table.now) ≡ Free c.in-Free.i = sym c.find_node.ensures ∙ c.in-Free.is in
    add-full c.args.number c.args.table.now c.requires _ (belongs) (omega (arith, c.byte_at.ensures.0))

pub insert_node-requires : goal.insert_node-requires
insert_node-requires c =
    let belongs : find_node c.args.number (decode c.args.table.now) ≡ Free c.in-Free.i = sym c.find_node.ensures ∙ c.in-Free.is in
    let has_room : nodes_of c.args.table.now < max_nodes = omega (arith, c.byte_at.ensures.0) in
    let l = c.args.table.now in (
      valid-laid l c.requires,
      omega (arith, free_in (to_node c.args.number) (decode l) c.in-Free.i (belongs), length-decode l),
      has_room,
    )

pub returns-in-At : goal.returns-in-At
returns-in-At c =
    add-held c.args.number c.args.table.now c.requires _ (sym c.find_node.ensures ∙ c.in-At.is)

pub returns-else-byte_at-ge-NODES : goal.returns-else-byte_at-ge-NODES
returns-else-byte_at-ge-NODES c =
    let belongs : find_node c.args.number (decode c.args.table.now) ≡ Free c.in-Free.i = sym c.find_node.ensures ∙ c.in-Free.is in
    let has_room : nodes_of c.args.table.now < max_nodes = omega (arith, c.byte_at.ensures.0) in
    let w = c.insert_node in
    add-new c.args.number c.args.table.now c.requires _ (belongs) (has_room) w.new.table w.ensures
