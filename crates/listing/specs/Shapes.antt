-- The two shapes that a listing has, by what reading the delta has answered. proofs/Lines.antt shows that they are the rules' listing.
use Rattle.std.specs.Prelude.{ℕ, ◌+◌, ◌*◌, ◌++◌, length, eqb}
use Rattle.fields.specs.Choice.{pick}
use Rattle.fields.specs.Numbers.{Bytes}
use Rattle.rules.specs.Sizes.{max_delta}
use Rattle.rules.specs.Listing.{ascii}
use Rattle.listing_text.specs.Texts.{numbered}
use Rattle.listing_ops.specs.Lines.{lines_from, two_numbers}

-- of a delta that was accepted with so many operations
unfoldable pub good_text : (delta : Bytes) (ops : ℕ) → Bytes
good_text l ops = lines_from l 0 ++ two_numbers (ascii "end=ok ops=") ops (ascii " bytes=") (length l)

-- of one that was refused with this number at this place; the same with so many bytes lacking; and which of the two it is
unfoldable pub fault_text : (code at : ℕ) → Bytes
fault_text code at = two_numbers (ascii "end=refused code=") code (ascii " at=") at

unfoldable pub cut_text : (code at need : ℕ) → Bytes
cut_text code at need = numbered (ascii "end=refused code=") code ++ two_numbers (ascii " at=") at (ascii " need=") need

abbrev pub refused_text : (code at need : ℕ) → Bytes
refused_text code at need = pick (eqb code 9) (cut_text code at need) (fault_text code at)

-- how long it is at most
abbrev pub longest_listing : ℕ
longest_listing = 5 * max_delta + 59
