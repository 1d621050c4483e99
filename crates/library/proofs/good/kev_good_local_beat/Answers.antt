-- `library::good::kev_good_local_beat` meets its contract: the call on a good table, and what its answer tells. Assumes nothing.
use mathlib.Core.Path.{ap, ◌∙◌}
use Rattle.rules.specs.Answers.{answer_told}
use Rattle.rules.specs.Local.{local_beat}
use Rattle.std.specs.Prelude.{Err, Result}
use Rattle.rules.specs.declared.Refusal.{Refusal}
use Rattle.rules.specs.declared.Refusal.TheVariants.{BadTable}
use Rattle.table_check.proofs.Entry.{good-table}
use Rattle.answers.specs.Shown.{number_shown}
use Rattle.library.proofs.Accepted.{good-area, good-within, good-long}
use Rattle.library.proofs.good.kev_good_local_beat.Goals as goal

pub slice_bounds-beat_good-end : goal.slice_bounds-beat_good-end
slice_bounds-beat_good-end c =
    search good-within

pub slice_bounds-beat_good-end-2 : goal.slice_bounds-beat_good-end-2
slice_bounds-beat_good-end-2 c =
    search good-long

pub beat_good-requires : goal.beat_good-requires
beat_good-requires c =
    search good-area

pub returns : goal.returns
returns c =
    let w = c.beat_good in
    let g = good-table (Err BadTable) (local_beat c.args.number) c.args.table.now c.requires w.result w.new.table w.ensures in
    (c.number.ensures ∙ ap (λ (a : (Result (Unit {0}) Refusal)). number_shown (answer_told a)) g.0, g.1)
