-- `nodes::last_heartbeat` meets its contract: 14, or the memory is asked. Assumes nothing.
use mathlib.Core.Path.{ap, sym, ◌∙◌}
use Rattle.rules.specs.Answers.{remembered_told}
use Rattle.nodes.proofs.Remembering.{not-told, told}
use Rattle.nodes.proofs.last_heartbeat.Goals as goal

pub last_heartbeat_known-requires : goal.last_heartbeat_known-requires
last_heartbeat_known-requires c =
    sym c.check_table.ensures ∙ c.if-not-check_table.false

pub returns : goal.returns
returns c =
    let a = c.args in
    ap remembered_told (c.last_heartbeat_known.ensures ∙ told a.table.now a.number (sym c.check_table.ensures ∙ c.if-not-check_table.false))

pub returns-then-not-check_table : goal.returns-then-not-check_table
returns-then-not-check_table c =
    let a = c.args in
    ap remembered_told (not-told a.table.now a.number (sym c.check_table.ensures ∙ c.if-not-check_table.true))
