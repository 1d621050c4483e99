-- `library::kev_delete_override` meets its contract: the call, and what its answer tells. Assumes nothing.
use mathlib.Core.Path.{ap, ◌∙◌}
use Rattle.answers.specs.Shown.{number_shown}
use Rattle.library.proofs.kev_delete_override.Goals as goal

pub returns : goal.returns
returns c =
    let e = c.delete_override.ensures in (c.number.ensures ∙ ap number_shown e.0, e.1)
