-- The numbers of a call to compute, before any byte is looked at: 7, 8, 15 in this order.
use Rattle.std.specs.Prelude.{ℕ, ◌-◌, Bool, ◌&&◌, leb, eqb}
use Rattle.fields.specs.Choice.{pick}
use Rattle.rules.specs.Sizes.{least_mtu, max_delta}
use Rattle.rules.specs.declared.Refusal.TheVariants.{BadMtu, NoPlace, BadTies}
use Rattle.std.specs.Prelude.{Err, Result}
use Rattle.rules.specs.declared.Refusal.{Refusal}
use Rattle.rules.specs.Results.{done}

abbrev pub mtu_fits : (mtu : ℕ) → Bool
mtu_fits mtu = leb least_mtu mtu && leb mtu max_delta

-- a whole MTU is free from the place on, in so much room
abbrev pub is_free : (place mtu room : ℕ) → Bool
is_free place mtu room = leb place room && leb mtu (room - place)

unfoldable pub asked_of : (mtu place room ties nodes : ℕ) → (Result (Unit {0}) Refusal)
asked_of mtu place room ties nodes =
    pick (mtu_fits mtu) (pick (is_free place mtu room) (pick (eqb ties nodes) done (Err BadTies)) (Err NoPlace)) (Err BadMtu)
