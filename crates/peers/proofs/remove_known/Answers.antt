-- `peers::remove_known` meets its contract: the bound of each column is that of its node. Assumes nothing.
use mathlib.Core.Path.{◌∙◌, ap}
use Rattle.rules.specs.Layout.{decode, encode}
use Rattle.table.proofs.Tables.{table-obeys, valid-laid, valid-obeys}
use Rattle.grid.specs.GridLayout.{decode_grid}
use Rattle.peers.proofs.Watching.{careful-within}
use Rattle.peers.proofs.remove_known.Goals as goal

pub bounds_of-requires : goal.bounds_of-requires
bounds_of-requires c =
    c.requires.0

pub remove_within-requires : goal.remove_within-requires
remove_within-requires c =
    c.requires.1

pub returns : goal.returns
returns c =
    let g = decode_grid c.args.grid.now in
    let a = c.args.area.now in
    let v = c.requires.1 in
    c.remove_within.ensures
    ∙ ap encode
    (careful-within g c.args.clock c.args.grace c.bounds_of.result (decode a) (valid-laid a v).fits (table-obeys (decode a) (valid-obeys a v)).rise c.requires.2 c.bounds_of.ensures.0
    c.bounds_of.ensures.1)
