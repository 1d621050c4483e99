-- `local_guard::guard_meter` meets its contract: the node's part is lent, or the node is missing. Assumes nothing.
use mathlib.Core.Option.{Option}
use Rattle.rules.specs.Node.{Node}
use Rattle.rules.specs.Profile.{guard_in}
use Rattle.rules.specs.declared.Party.TheVariants.{Nobody}
use Rattle.rules.specs.declared.Profile.TheVariants.{Meter}
use Rattle.table_read.proofs.Reading.{lent-node-needs, lent_fits, node-says, no-node-says}
use Rattle.own_rows.proofs.Tables.{lent-formed}
use Rattle.local_node.specs.Writes.{call_of}
use Rattle.local_guard.specs.Guarding.{guarded_by}
use Rattle.local_guard.proofs.guard_meter.Goals as goal

pub slice_bounds-guard_node-count : goal.slice_bounds-guard_node-count
slice_bounds-guard_node-count c =
    search lent-node-needs

pub slice_bounds-guard_node-start : goal.slice_bounds-guard_node-start
slice_bounds-guard_node-start c =
    search lent-node-needs

pub slice_bounds-guard_node-end : goal.slice_bounds-guard_node-end
slice_bounds-guard_node-end c =
    lent_fits _ _ c.requires.0 c.node_span.ensures c.in-Some.is

pub guard_node-requires : goal.guard_node-requires
guard_node-requires c =
    (search lent-node-needs, search lent-node-needs, search lent-formed)

pub returns-in-Some : goal.returns-in-Some
returns-in-Some c =
    let a = c.args in
    search (node-says (λ (o : Option Node). guarded_by (guard_in Meter Nobody (call_of a.kind a.value.now 0) a.key.now o)))

pub returns-in-None : goal.returns-in-None
returns-in-None c =
    let a = c.args in
    search (no-node-says (λ (o : Option Node). guarded_by (guard_in Meter Nobody (call_of a.kind a.value.now 0) a.key.now o)))
