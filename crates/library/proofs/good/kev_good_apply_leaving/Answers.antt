-- `library::good::kev_good_apply_leaving` meets its contract: the call on a good table, and what its answer tells. Assumes nothing.
use mathlib.Core.Path.{ap, ◌∙◌}
use Rattle.rules.specs.Answers.{applied_told}
use Rattle.std.specs.Prelude.{Result, ℕ}
use Rattle.rules.specs.declared.DeltaFault.{DeltaFault}
use Rattle.answers.specs.Shown.{applied_shown}
use Rattle.library.proofs.good.kev_good_apply_leaving.Goals as goal

pub returns : goal.returns
returns c =
    let g = c.leaving_known.ensures in
    (c.applied.ensures ∙ ap (λ (a : (Result ℕ DeltaFault)). applied_shown (applied_told a)) g.0, g.1)
