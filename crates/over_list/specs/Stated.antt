-- What the laws of the merged listing are said with: where it says that a key's value stands, and what the ordinary listing answers, as one over both.
use Rattle.std.specs.Prelude.{ℕ, ◌-◌, List, [], ◌∷◌, length, leb}
use Rattle.fields.specs.Choice.{pick}
use Rattle.fields.specs.Order.{same_bytes}
use Rattle.rules.specs.Given.{Given, given}
use Rattle.std.specs.Prelude.{Err, None, Ok, Option, Result, Some}
use Rattle.over_find.specs.declared.FoundOver.{FoundOver}
use Rattle.overrides.specs.declared.RefusedOver.{RefusedOver}
use Rattle.rules.specs.declared.Refusal.{Refusal}
use Rattle.over_find.specs.declared.FoundOver.TheVariants as place
use Rattle.lookup.specs.Lookup.{value_place}
use Rattle.overrides.specs.declared.Which.TheVariants as which
use Rattle.over_list.specs.Merged.{Hit, key_of_hit, over_place}

-- where a hit says that its value stands: in the overrides, whose bytes begin with the node's, or in a table, in which the node's begin at `start`
abbrev pub place_of : (start : ℕ) (hit : Hit) → (Result (Option FoundOver) RefusedOver)
place_of start h =
    pick (leb over_place h.place) (Ok (Some (place.InOverrides (value_place 0 (h.place - over_place)) (length h.rec.kv.value)))) (Ok (Some (place.InTable (value_place start h.place) (length h.rec.kv.value))))

-- where the first hit of the key says it; nothing, where the key is not listed
unfoldable pub listed_at : (key : List ℕ) (start : ℕ) (hits : List Hit) → (Result (Option FoundOver) RefusedOver)
listed_at k start [] = (Ok None)
listed_at k start (h ∷ l) = pick (same_bytes k (key_of_hit h)) (place_of start h) (listed_at k start l)

-- what the ordinary listing answers, as one over both
abbrev pub plainly : (Result ℕ Refusal) → (Result ℕ RefusedOver)
plainly (Ok n) = Ok n
plainly (Err r) = (Err (record { which = which.Neither; why = r }))

abbrev pub plainly_given : (of : Given (Result ℕ Refusal) (List ℕ)) → Given (Result ℕ RefusedOver) (List ℕ)
plainly_given of = given (plainly of.answer) of.lent
