-- `library::good::kev_good_compute` meets its contract: the call on a good table, and what its answer tells. Assumes nothing.
use mathlib.Core.Path.{ap, ◌∙◌}
use Rattle.rules.specs.Answers.{computed_told}
use Rattle.rules.specs.Given.{given}
use Rattle.rules.specs.Compute.{compute}
use Rattle.std.specs.Prelude.{Err, Result}
use Rattle.rules.specs.declared.Refusal.{Refusal}
use Rattle.rules.specs.declared.Sent.{Sent}
use Rattle.rules.specs.declared.Refusal.TheVariants.{BadTable}
use Rattle.answers.specs.Shown.{computed_shown}
use Rattle.library.proofs.Accepted.{good-area, good-long, good-fill}
use Rattle.library.proofs.good.kev_good_compute.Goals as goal

pub slice_bounds-compute_good-end : goal.slice_bounds-compute_good-end
slice_bounds-compute_good-end c =
    search good-long

pub compute_good-requires : goal.compute_good-requires
compute_good-requires c =
    search good-area

pub returns : goal.returns
returns c =
    let a = c.args in
    let g = good-fill (λ t. compute a.edition a.excluded.now a.ties.now a.mtu a.place a.digest.now t a.datagram.now) a.table.now c.requires (given (Err BadTable) a.datagram.now) _ _ c.compute_good.ensures in
    (c.computed.ensures ∙ ap (λ (a : (Result Sent Refusal)). computed_shown (computed_told a)) g.0, g.1)
