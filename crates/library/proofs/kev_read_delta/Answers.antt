-- `library::kev_read_delta` meets its contract: the call, and what its answer tells. Assumes nothing.
use mathlib.Core.Path.{ap, ◌∙◌}
use Rattle.answers.specs.Shown.{delta_shown}
use Rattle.library.proofs.kev_read_delta.Goals as goal

pub returns : goal.returns
returns c =
    c.delta.ensures ∙ ap delta_shown c.read_delta.ensures
