-- `library::kev_apply_leaving` meets its contract: the call, and what its answer tells. Assumes nothing.
use mathlib.Core.Path.{ap, ◌∙◌}
use Rattle.answers.specs.Shown.{applied_shown}
use Rattle.library.proofs.kev_apply_leaving.Goals as goal

pub returns : goal.returns
returns c =
    let e = c.apply_leaving.ensures in
    (c.applied.ensures ∙ ap applied_shown e.0, e.1)
