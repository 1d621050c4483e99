-- `library::good::kev_good_key_at` meets its contract: the call by the number's party on a good table, and what its answer tells. Assumes nothing.
use mathlib.Core.Path.{ap, ◌∙◌}
use Rattle.lookup.specs.Told.{found_told}
use Rattle.std.specs.Prelude.{Option, Result}
use Rattle.lookup.specs.declared.Found.{Found}
use Rattle.rules.specs.declared.Refusal.{Refusal}
use Rattle.answers.specs.Shown.{found_shown}
use Rattle.library.proofs.Accepted.{good-read}
use Rattle.library.proofs.good.kev_good_key_at.Goals as goal

pub returns : goal.returns
returns c =
    let e = rw c.of_number.ensures at c.find_text_known.ensures in
    c.found.ensures ∙ ap (λ (a : (Result (Option Found) Refusal)). found_shown (found_told a)) (good-read _ _ c.args.table.now c.requires _ e)
