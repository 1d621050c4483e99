-- `library::good::kev_good_plan_fault` meets its contract: the call on a good table, and what its answer tells. Assumes nothing.
use mathlib.Core.Path.{ap, ◌∙◌}
use Rattle.plan.specs.Faults.{judged_told}
use Rattle.std.specs.Prelude.{Result}
use Rattle.plan.specs.declared.NotSent.{NotSent}
use Rattle.answers.specs.Shown.{judged_shown}
use Rattle.library.proofs.Accepted.{good-area, good-long, good-read}
use Rattle.library.proofs.good.kev_good_plan_fault.Goals as goal

pub slice_bounds-plan_fault_good-end : goal.slice_bounds-plan_fault_good-end
slice_bounds-plan_fault_good-end c =
    search good-long

pub plan_fault_good-requires : goal.plan_fault_good-requires
plan_fault_good-requires c =
    search good-area

pub returns : goal.returns
returns c =
    c.judged.ensures ∙ ap (λ (a : (Result (Unit {0}) NotSent)). judged_shown (judged_told a)) (search good-read)
