-- What making a table comes to: the bytes of the empty table of a kind, whatever stood in the slice. A slice of another length can be no table: 14.
use Rattle.std.specs.Prelude.{length, eqb}
use Rattle.fields.specs.Choice.{pick}
use Rattle.fields.specs.Numbers.{Bytes}
use Rattle.rules.specs.Given.{Given, given}
use Rattle.rules.specs.Lent.{lent_new}
use Rattle.rules.specs.Profile.{Kind}
use Rattle.rules.specs.Whole.{whole_width}
use Rattle.std.specs.Prelude.{Err, Result}
use Rattle.rules.specs.declared.Refusal.{Refusal}
use Rattle.rules.specs.Results.{done}
use Rattle.rules.specs.declared.Refusal.TheVariants.{BadTable}

unfoldable pub lent_made : (kind : Kind) (slice : Bytes) → Given (Result (Unit {0}) Refusal) Bytes
lent_made k l = pick (eqb (length l) whole_width) (given done (lent_new k)) (given (Err BadTable) l)
