-- `library::kev_read_digest` meets its contract: the call, and what its answer tells. Assumes nothing.
use mathlib.Core.Path.{ap, ◌∙◌}
use Rattle.answers.specs.Shown.{digest_shown}
use Rattle.library.proofs.kev_read_digest.Goals as goal

pub returns : goal.returns
returns c =
    c.digest.ensures ∙ ap digest_shown c.read_digest.ensures
