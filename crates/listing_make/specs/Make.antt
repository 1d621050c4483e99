-- A delta made from its whole listing, into lent memory, for every text and all memory.
use Rattle.std.specs.Prelude.{[], ◌∷◌, leb, length}
use Rattle.fields.specs.Choice.{pick}
use Rattle.fields.specs.Numbers.{Bytes}
use Rattle.fields.specs.Parts.{put}
use Rattle.rules.specs.Answers.{Told, accepted, refused}
use Rattle.rules.specs.Given.{Given, given}
use Rattle.rules.specs.declared.Refusal.TheVariants.{NoPlace}
use Rattle.listing_read.specs.Unlist.{Delta, Faulty, NotInForm, Unlisted, unlist}
use Rattle.std.specs.Prelude.{Err, Ok, Result, ℕ}
use Rattle.delta_make.specs.Making.{refused_at}
use Rattle.delta_make.specs.declared.NotMade.{NotMade}
use Rattle.delta_make.specs.declared.NotMade.TheVariants as not_made

-- the delta at the front of the memory, all bytes behind it as they were; 8 where it has no room
unfoldable pub placed : (delta out : Bytes) → Given (Result ℕ NotMade) Bytes
placed b out = pick (leb (length b) (length out)) (given (Ok (length b)) (put 0 b out)) (given (refused_at NoPlace 0) out)

-- what reading the listing gives: 16 first, then what reading the delta refuses, then 8. A refused call leaves the memory.
abbrev pub lent_unlisted : (read : Unlisted) (out : Bytes) → Given (Result ℕ NotMade) Bytes
lent_unlisted (Delta b) out = placed b out
lent_unlisted (NotInForm n) out = given (Err (not_made.BadLine n)) out
lent_unlisted (Faulty why at) out = given (refused_at why at) out

abbrev pub lent_make : (text out : Bytes) → Given (Result ℕ NotMade) Bytes
lent_make text out = lent_unlisted (unlist text) out

-- What the answer tells: the delta's bytes; or 16 and the first line that is not in its form; or the number of a refused delta and the place of the faulty
-- operation's tag. A refusal's values are the line and the place, and one that there is not is 0.
unfoldable pub made_told : (answer : Result ℕ NotMade) → Told
made_told (Ok n) = accepted (n ∷ [])
made_told (Err (not_made.BadLine n)) = record { number = 16; values = n ∷ 0 ∷ []; need = 0 }
made_told (Err (not_made.Refused fault)) = refused fault.why (0 ∷ fault.at ∷ [])
