-- `library::kev_compute` meets its contract: the call, and what its answer tells. Assumes nothing.
use mathlib.Core.Path.{ap, ◌∙◌}
use Rattle.answers.specs.Shown.{computed_shown}
use Rattle.library.proofs.kev_compute.Goals as goal

pub returns : goal.returns
returns c =
    let e = c.compute.ensures in
    (c.computed.ensures ∙ ap computed_shown e.0, e.1)
