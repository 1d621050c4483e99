-- `nodes::remove_good` meets its contract: what finding the number says decides. Assumes nothing.
use mathlib.Core.Path.{◌≡◌, sym, ◌∙◌}
use Rattle.rules.specs.Layout.{decode}
use Rattle.table.proofs.Tables.{valid-long, valid-few, valid-laid}
use Rattle.table_read.specs.Find.{find_node}
use Rattle.table_read.specs.declared.Place.TheVariants.{At}
use Rattle.table_read.proofs.Searched.{node_in}
use Rattle.nodes.proofs.Coming.{remove-held, remove-none}
use Rattle.nodes.proofs.remove_good.Goals as goal

pub find_node-requires : goal.find_node-requires
find_node-requires c =
    (valid-long c.args.table.now c.requires, valid-few c.args.table.now c.requires)

pub remove_node-requires : goal.remove_node-requires
remove_node-requires c =
    let stands : find_node c.args.number (decode c.args.table.now) ≡ At c.in-At.i = sym c.find_node.ensures ∙ c.in-At.is in
    (valid-laid c.args.table.now c.requires, node_in c.args.table.now c.requires c.args.number _ (stands))

pub returns-in-At : goal.returns-in-At
returns-in-At c =
    let stands : find_node c.args.number (decode c.args.table.now) ≡ At c.in-At.i = sym c.find_node.ensures ∙ c.in-At.is in
    let w = c.remove_node in
    remove-held c.args.number c.args.table.now c.requires _ (stands) w.new.table w.ensures

pub returns-in-Free : goal.returns-in-Free
returns-in-Free c =
    remove-none c.args.number c.args.table.now c.requires _ (sym c.find_node.ensures ∙ c.in-Free.is)
