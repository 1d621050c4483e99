-- `local::call_known` meets its contract: a free table lets the call through. Assumes nothing.
use mathlib.Core.Path.{sym, ◌∙◌}
use Rattle.rules.specs.Layout.{decode}
use Rattle.rules.specs.Table.{node_of}
use Rattle.rules.specs.Whole.{area_of, decode_whole}
use Rattle.table.proofs.Wholes.{whole_long}
use Rattle.local_node.specs.Writes.{call_of}
use Rattle.local.proofs.Called.{let_through}
use Rattle.local.proofs.Letting.{free-lets}
use Rattle.local.proofs.call_known.Goals as goal

pub profile_of-requires : goal.profile_of-requires
profile_of-requires c =
    whole_long c.args.table.now c.requires

pub returns-in-Free : goal.returns-in-Free
returns-in-Free c =
    let a = c.args in
    let_through (call_of a.kind a.value.now a.clock) a.number a.key.now a.table.now c.requires a.party
    (free-lets (decode_whole a.table.now).kind.profile a.party (call_of a.kind a.value.now a.clock) a.key.now (node_of a.number (decode (area_of a.table.now))) (sym c.in-Free.is ∙ c.profile_of.ensures))
    _ _ c.call_let.ensures
