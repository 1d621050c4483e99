-- `table_read::number_at` meets its contract: the node's number stands in its bytes. Assumes nothing.
use mathlib.Core.Path.{ap, ◌∙◌}
use native.Mathlib.Omega.{arith}
use lib.ListN.{length}
use Rattle.fields.proofs.Parts.{length_part}
use Rattle.rules.specs.Layout.{node_width, node_place}
use Rattle.table_read.proofs.Located.{number_is}
use Rattle.table_read.proofs.number_at.Goals as goal

pub read_u64-requires : goal.read_u64-requires
read_u64-requires c =
    let a = c.args in
    let e = ap length c.node_of.ensures ∙ length_part (node_place a.p) node_width a.table.now (omega arith) in
    omega arith

pub returns : goal.returns
returns c =
    let a = c.args in
    number_is a.table.now _ a.p _ (omega arith) c.node_of.ensures c.read_u64.ensures
