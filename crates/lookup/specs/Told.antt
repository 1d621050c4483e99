-- The number and the values that stand for each answer of a lookup: 0 and the place and length of the value, or none of them.
use Rattle.std.specs.Prelude.{[], ◌∷◌}
use Rattle.rules.specs.Answers.{Told, accepted, refused}
use Rattle.std.specs.Prelude.{Err, None, Ok, Option, Result, Some}
use Rattle.lookup.specs.declared.Found.{Found}
use Rattle.rules.specs.declared.Refusal.{Refusal}

unfoldable pub found_told : (answer : (Result (Option Found) Refusal)) → Told
found_told (Ok (Some f)) = accepted (f.start ∷ f.len ∷ [])
found_told (Ok None) = accepted []
found_told (Err r) = refused r []
