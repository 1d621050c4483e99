-- `local::delete_known` meets its contract: a table that is not shared lets it through. Assumes nothing.
use mathlib.Core.Path.{sym, ◌∙◌}
use Rattle.rules.specs.Layout.{decode}
use Rattle.rules.specs.Node.{Deleting}
use Rattle.rules.specs.Table.{node_of}
use Rattle.rules.specs.Whole.{area_of, decode_whole}
use Rattle.local.proofs.Called.{let_through}
use Rattle.local.proofs.Letting.{delete-lets}
use Rattle.local.proofs.delete_known.Goals as goal

pub returns : goal.returns
returns c =
    let a = c.args in
    let_through (Deleting a.clock) a.number a.key.now a.table.now c.requires a.party
    (delete-lets (decode_whole a.table.now).kind.profile a.party a.clock a.key.now (node_of a.number (decode (area_of a.table.now))) (sym c.is_shared.ensures ∙ c.if-is_shared.false)) _ _ c.call_let.ensures
