-- `library::good::kev_good_last_heartbeat` meets its contract: the call on a good table, and what its answer tells. Assumes nothing.
use mathlib.Core.Path.{ap, ◌∙◌}
use Rattle.rules.specs.Answers.{remembered_told}
use Rattle.std.specs.Prelude.{Option, Result}
use Rattle.rules.specs.declared.Heartbeat.{Heartbeat}
use Rattle.rules.specs.declared.Refusal.{Refusal}
use Rattle.nodes.proofs.Remembering.{told}
use Rattle.answers.specs.Shown.{heartbeat_shown}
use Rattle.library.proofs.good.kev_good_last_heartbeat.Goals as goal

pub returns : goal.returns
returns c =
    c.heartbeat.ensures
    ∙ ap (λ (a : (Result (Option Heartbeat) Refusal)). heartbeat_shown (remembered_told a)) (c.last_heartbeat_known.ensures ∙ told c.args.table.now c.args.number c.requires)
