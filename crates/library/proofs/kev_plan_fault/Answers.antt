-- `library::kev_plan_fault` meets its contract: the call, and what its answer tells. Assumes nothing.
use mathlib.Core.Path.{◌∙◌, ap}
use Rattle.answers.specs.Shown.{judged_shown}
use Rattle.library.proofs.kev_plan_fault.Goals as goal

pub returns : goal.returns
returns c =
    c.judged.ensures ∙ ap judged_shown c.plan_fault.ensures
