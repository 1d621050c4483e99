-- `library::kev_make_delta` meets its contract: the call, and what its answer tells. Assumes nothing.
use mathlib.Core.Path.{ap, ◌∙◌}
use Rattle.std.specs.Prelude.{Result, ℕ}
use Rattle.delta_make.specs.declared.NotMade.{NotMade}
use Rattle.listing_make.specs.Make.{made_told}
use Rattle.answers.specs.Shown.{made_shown}
use Rattle.library.proofs.kev_make_delta.Goals as goal

pub returns : goal.returns
returns c =
    let e = c.make_delta.ensures in
    (c.made.ensures ∙ ap (λ (a : (Result ℕ NotMade)). made_shown (made_told a)) e.0, e.1)
