-- `library::good::kev_good_remove_scheduled` meets its contract: the removal on a good table answers nothing. Assumes nothing.
use mathlib.Core.Path.{ap}
use Rattle.rules.specs.Answers.{answer_told}
use Rattle.std.specs.Prelude.{Result}
use Rattle.rules.specs.declared.Refusal.{Refusal}
use Rattle.answers.specs.Shown.{number_shown}
use Rattle.library.proofs.Accepted.{good-area, good-within, good-long, good-removed}
use Rattle.library.proofs.good.kev_good_remove_scheduled.Goals as goal

pub slice_bounds-remove_good-end : goal.slice_bounds-remove_good-end
slice_bounds-remove_good-end c =
    search good-within

pub slice_bounds-remove_good-end-2 : goal.slice_bounds-remove_good-end-2
slice_bounds-remove_good-end-2 c =
    search good-long

pub remove_good-requires : goal.remove_good-requires
remove_good-requires c =
    search good-area

pub returns : goal.returns
unfolding answer_told
returns c =
    let g = good-removed c.args.clock c.args.grace c.args.table.now c.requires _ c.remove_good.ensures in
    (ap (λ (a : (Result (Unit {0}) Refusal)). number_shown (answer_told a)) g.0, g.1)
