-- `library::kev_new_overrides` meets its contract: the call, and what its answer tells. Assumes nothing.
use mathlib.Core.Path.{ap, ◌∙◌}
use Rattle.answers.specs.Shown.{number_shown}
use Rattle.library.proofs.kev_new_overrides.Goals as goal

pub returns : goal.returns
returns c =
    let e = c.new_overrides.ensures in (c.number.ensures ∙ ap number_shown e.0, e.1)
