-- `heartbeat_header::risen` is the risen heartbeat, and its sum does not wrap. Assumes nothing.
use mathlib.Core.Path.{sym, ◌∙◌}
use Rattle.heartbeat_header.proofs.Rising.{room, rises, stays}
use Rattle.heartbeat_header.proofs.risen.Goals as goal

pub overflow_add-result : goal.overflow_add-result
overflow_add-result c =
    record { fits = room _ (sym c.can_rise.ensures ∙ c.if-can_rise.true) }

pub returns-then-can_rise : goal.returns-then-can_rise
returns-then-can_rise c =
    rises _ (sym c.can_rise.ensures ∙ c.if-can_rise.true)

pub returns : goal.returns
returns c =
    stays _ (sym c.can_rise.ensures ∙ c.if-can_rise.false)
