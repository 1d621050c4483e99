-- `library::good::kev_good_front` meets its contract: the call by the number's party on a good table, and what its answer tells. Assumes nothing.
use mathlib.Core.Path.{ap, ◌∙◌}
use Rattle.inspect.specs.Told.{count_told}
use Rattle.std.specs.Prelude.{Result, ℕ}
use Rattle.rules.specs.declared.Refusal.{Refusal}
use Rattle.answers.specs.Shown.{count_shown}
use Rattle.library.proofs.Accepted.{good-read}
use Rattle.library.proofs.good.kev_good_front.Goals as goal

pub returns : goal.returns
returns c =
    let e = rw c.of_number.ensures at c.front_known.ensures in
    c.count.ensures ∙ ap (λ (a : (Result ℕ Refusal)). count_shown (count_told a)) (good-read _ _ c.args.table.now c.requires _ e)
