-- `library::kev_exchange` meets its contract: the call, and what its answer tells. Assumes nothing.
use mathlib.Core.Path.{ap, ◌∙◌}
use Rattle.answers.specs.Shown.{exchanged_shown}
use Rattle.library.proofs.kev_exchange.Goals as goal

pub returns : goal.returns
returns c =
    let e = c.exchange.ensures in
    (c.exchanged.ensures ∙ ap exchanged_shown e.0, e.1)
