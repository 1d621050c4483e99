-- `library::kev_list_prefix` meets its contract: the call by the number's party, and what its answer tells. Assumes nothing.
use mathlib.Core.Path.{ap, ◌∙◌}
use Rattle.answers.specs.Shown.{count_shown}
use Rattle.library.proofs.kev_list_prefix.Goals as goal

pub returns : goal.returns
returns c =
    let e = rw c.of_number.ensures at c.list_prefix.ensures in
    (c.hits.ensures ∙ ap count_shown e.0, e.1)
