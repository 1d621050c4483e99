-- `library::good::kev_good_offer_heartbeat` meets its contract: the call on a good table, and what its answer tells. Assumes nothing.
use mathlib.Core.Path.{ap, ◌∙◌}
use Rattle.rules.specs.Answers.{offered_told}
use Rattle.rules.specs.Local.{offer}
use Rattle.rules.specs.Node.{beats}
use Rattle.std.specs.Prelude.{Bool, Err, Result}
use Rattle.rules.specs.declared.Refusal.{Refusal}
use Rattle.rules.specs.declared.Refusal.TheVariants.{BadTable}
use Rattle.table_check.proofs.Entry.{good-table}
use Rattle.answers.specs.Shown.{count_shown}
use Rattle.library.proofs.Accepted.{good-area, good-within, good-long}
use Rattle.library.proofs.good.kev_good_offer_heartbeat.Goals as goal

pub slice_bounds-offer_good-end : goal.slice_bounds-offer_good-end
slice_bounds-offer_good-end c =
    search good-within

pub slice_bounds-offer_good-end-2 : goal.slice_bounds-offer_good-end-2
slice_bounds-offer_good-end-2 c =
    search good-long

pub offer_good-requires : goal.offer_good-requires
offer_good-requires c =
    search good-area

pub returns : goal.returns
returns c =
    let w = c.offer_good in
    let g = good-table (Err BadTable) (offer c.args.number (beats c.args.heartbeat)) c.args.table.now c.requires w.result w.new.table w.ensures in
    (c.news.ensures ∙ ap (λ (a : (Result Bool Refusal)). count_shown (offered_told a)) g.0, g.1)
