-- `library::kev_list_table` meets its contract: the call, and what its answer tells. Assumes nothing.
use mathlib.Core.Path.{ap, ◌∙◌}
use Rattle.answers.specs.Shown.{count_shown}
use Rattle.library.proofs.kev_list_table.Goals as goal

pub returns : goal.returns
returns c =
    let e = c.list_table.ensures in
    (c.bytes.ensures ∙ ap count_shown e.0, e.1)
