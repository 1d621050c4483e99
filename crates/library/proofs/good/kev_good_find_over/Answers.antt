-- `library::good::kev_good_find_over` meets its contract: the call by the number's party on good overrides and a good table, and what its answer tells. Assumes nothing.
use mathlib.Core.Path.{ap, ◌∙◌}
use Rattle.rules.specs.Answers.{party_of}
use Rattle.rules.specs.Whole.{decode_whole}
use Rattle.rules.specs.declared.Refusal.TheVariants.{BadTable}
use Rattle.over_find.specs.Over.{found_over}
use Rattle.over_find.specs.Told.{found_over_told}
use Rattle.std.specs.Prelude.{Err, Option, Result}
use Rattle.over_find.specs.declared.FoundOver.{FoundOver}
use Rattle.overrides.specs.declared.RefusedOver.{RefusedOver}
use Rattle.answers.specs.Shown.{found_over_shown}
use Rattle.library.proofs.Numbers.{good-over}
use Rattle.library.proofs.good.kev_good_find_over.Goals as goal

pub returns : goal.returns
returns c =
    let a = c.args in
    let e = rw c.of_number.ensures at c.find_over_known.ensures in
    c.found_over.ensures
    ∙ ap (λ (x : (Result (Option FoundOver) RefusedOver)). found_over_shown (found_over_told x))
    (good-over a.overrides.now a.table.now c.requires.0 c.requires.1 (λ w. (Err (record { which = w; why = BadTable })))
    (found_over (decode_whole a.table.now).kind.profile (party_of a.party) a.number a.key.now) _ e)
