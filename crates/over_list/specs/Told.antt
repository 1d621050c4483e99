-- The number and the values that stand for each answer of a merged listing: 0 and how many hits, or the refusal and the lent thing that it is of.
use Rattle.std.specs.Prelude.{[], ◌∷◌}
use Rattle.rules.specs.Answers.{Told, accepted, refused}
use Rattle.overrides.specs.Both.{which_code}
use Rattle.std.specs.Prelude.{Err, Ok, Result, ℕ}
use Rattle.overrides.specs.declared.RefusedOver.{RefusedOver}

unfoldable pub listed_over_told : (answer : (Result ℕ RefusedOver)) → Told
listed_over_told (Ok n) = accepted (n ∷ [])
listed_over_told (Err rr) = refused rr.why (which_code rr.which ∷ [])
