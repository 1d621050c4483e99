-- What three exported calls make of numbers that no call below takes: whether bytes are a table, or overrides, and a mode and a profile by their numbers.
use Rattle.std.specs.Prelude.{ℕ, eqb}
use Rattle.fields.specs.Choice.{pick}
use Rattle.fields.specs.Numbers.{Bytes}
use Rattle.rules.specs.Answers.{number_of, mode_of, profile_of}
use Rattle.rules.specs.Given.{Given, given}
use Rattle.rules.specs.Profile.{kind}
use Rattle.rules.specs.Whole.{mode_of_byte, profile_of_byte, valid_whole}
use Rattle.std.specs.Prelude.{Err, Result}
use Rattle.rules.specs.declared.Refusal.{Refusal}
use Rattle.rules.specs.declared.Refusal.TheVariants.{BadTable}
use Rattle.nodes.specs.New.{lent_made}
use Rattle.overrides.specs.Overrides.{valid_node}

-- 0, or 14
abbrev pub check_number : (table : Bytes) → ℕ
check_number l = pick (valid_whole l) 0 (number_of BadTable)

abbrev pub overrides_number : (overrides : Bytes) → ℕ
overrides_number o = pick (valid_node o) 0 (number_of BadTable)

-- a table made in the mode and the profile of two numbers; one that stands for none is 14, and nothing changes
unfoldable pub made_by : (mode profile : ℕ) (slice : Bytes) → Given (Result (Unit {0}) Refusal) Bytes
made_by m p l =
    pick (eqb (mode_of (mode_of_byte m)) m)
    (pick (eqb (profile_of (profile_of_byte p)) p) (lent_made (kind (mode_of_byte m) (profile_of_byte p)) l) (given (Err BadTable) l))
    (given (Err BadTable) l)
