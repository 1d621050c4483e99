-- The number and the values that stand for each answer of a lookup over both: 0 and 1 for the overrides or 0 for the table, the place and length of the value;
-- or none of them; or the refusal and the lent thing that it is of.
use Rattle.std.specs.Prelude.{[], ◌∷◌}
use Rattle.rules.specs.Answers.{Told, accepted, refused}
use Rattle.overrides.specs.Both.{which_code}
use Rattle.std.specs.Prelude.{Err, None, Ok, Option, Result, Some}
use Rattle.over_find.specs.declared.FoundOver.{FoundOver}
use Rattle.overrides.specs.declared.RefusedOver.{RefusedOver}
use Rattle.over_find.specs.declared.FoundOver.TheVariants as place

unfoldable pub found_over_told : (answer : (Result (Option FoundOver) RefusedOver)) → Told
found_over_told (Ok (Some (place.InOverrides start len))) = accepted (1 ∷ start ∷ len ∷ [])
found_over_told (Ok (Some (place.InTable start len))) = accepted (0 ∷ start ∷ len ∷ [])
found_over_told (Ok None) = accepted []
found_over_told (Err rr) = refused rr.why (which_code rr.which ∷ [])
