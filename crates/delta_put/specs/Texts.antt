-- What is written of a listing that was read, by what came of it.
use Rattle.std.specs.Prelude.{take}
use Rattle.fields.specs.Numbers.{Bytes}
use Rattle.rules.specs.Listing.{listing}
use Rattle.std.specs.Prelude.{Err, Ok, Result, ℕ}
use Rattle.delta_make.specs.declared.NotMade.{NotMade}
use Rattle.delta_make.specs.declared.NotMade.TheVariants as not_made
use Rattle.delta_make.specs.declared.Making.{Making}
use Rattle.delta_make.specs.Making.{bad_line}

-- the delta's bytes; which line is not in its form; of a refused delta its listing, one line
abbrev pub put_text : (made : (Result ℕ NotMade)) (making : Making) (delta : Bytes) → Bytes
put_text (Ok n) m d = take n d
put_text (Err (not_made.BadLine n)) m d = bad_line n
put_text (Err (not_made.Refused fault)) m d = listing (take m.bytes d)

-- the same, but an accepted delta is listed
abbrev pub show_text : (made : (Result ℕ NotMade)) (making : Making) (delta : Bytes) → Bytes
show_text (Ok n) m d = listing (take n d)
show_text (Err (not_made.BadLine n)) m d = bad_line n
show_text (Err (not_made.Refused fault)) m d = listing (take m.bytes d)
