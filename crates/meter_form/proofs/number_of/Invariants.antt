-- `meter_form::number_of` meets its contract: the number so far with the digits that are left is the whole's. Assumes nothing.
use Prim.Native.Nat.{◌<◌}
use mathlib.Core.Bool.{true}
use mathlib.Core.Path.{◌≡◌}
use lib.ListN.{drop}
use Rattle.fields.specs.Choice.{all}
use Rattle.rules.specs.Profile.{is_digit, numeral}
use Rattle.meter_form.proofs.Forms.{tens}
use Rattle.meter_form.proofs.number_of.Given as goal

abbrev pub invariant-loop-digit : goal.invariant-loop-digit
invariant-loop-digit l =
    (numeral l.n (drop l.digit-index l.digits) ≡ numeral 0 l.digits) × (l.n < tens l.digit-index) × (all is_digit (drop l.digit-index l.digits) ≡ true)
