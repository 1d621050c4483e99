-- `nodes::last_heartbeat_known` meets its contract: the memory is asked. Assumes nothing.
use mathlib.Core.Path.{◌∙◌}
use native.Mathlib.Omega.{arith}
use Rattle.table.proofs.Wholes.{whole_long}
use Rattle.nodes.proofs.Remembering.{asked, asked-laid}
use Rattle.nodes.proofs.last_heartbeat_known.Goals as goal

pub slice_bounds-last_heartbeat-end : goal.slice_bounds-last_heartbeat-end
slice_bounds-last_heartbeat-end c =
    omega (arith, whole_long c.args.table.now c.requires)

pub last_heartbeat-requires : goal.last_heartbeat-requires
last_heartbeat-requires c =
    let o = asked-laid c.args.table.now c.requires in (o.long, o.few)

pub returns : goal.returns
returns c =
    let a = c.args in c.last_heartbeat.ensures ∙ asked a.table.now a.number
