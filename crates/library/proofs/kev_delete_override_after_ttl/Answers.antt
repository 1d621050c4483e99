-- `library::kev_delete_override_after_ttl` meets its contract: the call, and what its answer tells. Assumes nothing.
use mathlib.Core.Path.{ap, ◌∙◌}
use Rattle.answers.specs.Shown.{number_shown}
use Rattle.library.proofs.kev_delete_override_after_ttl.Goals as goal

pub returns : goal.returns
returns c =
    let e = c.delete_override_after_ttl.ensures in (c.number.ensures ∙ ap number_shown e.0, e.1)
