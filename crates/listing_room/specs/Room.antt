-- A text written into a lent buffer as far as there is room. The answer is the place behind the whole text, so that an empty buffer measures it. And the
-- pieces that lines end with.
use Rattle.std.specs.Prelude.{ℕ, ◌+◌, ◌-◌, ◌<◌, ◌++◌, length, take}
use Rattle.fields.specs.Numbers.{Bytes}
use Rattle.fields.specs.Parts.{put}
use Rattle.rules.specs.Given.{Given, given}
use Rattle.rules.specs.Listing.{ascii, line_feed, status_text}
use Rattle.rules.specs.Sizes.{numbers}
use Rattle.rules.specs.declared.Status.{Status}
use Rattle.listing_text.specs.Texts.{numbered}

-- what of a text that begins at `at` lies in a buffer of so many bytes
abbrev pub within : (room at : ℕ) (text : Bytes) → Bytes
within room at text = take (room - at) text

-- that part stands from `at` on, all else is untouched, and the answer is the place behind the whole text
abbrev pub put_within : (at : ℕ) (text out : Bytes) → Given ℕ Bytes
put_within at text out = given (at + length text) (put at (within (length out) at text) out)

-- the place behind the text is a number
abbrev pub Ends : (at : ℕ) (text : Bytes) → Type 0
Ends at text = at + length text < numbers

-- the word for a status
abbrev pub status_word : (status : Status) → Bytes
status_word st = ascii " status=" ++ status_text st

-- a number with its name, to the end of a line, and two of them
abbrev pub last_number : (name : Bytes) (v : ℕ) → Bytes
last_number name v = numbered name v ++ line_feed

abbrev pub last_two : (first : Bytes) (a : ℕ) (second : Bytes) (b : ℕ) → Bytes
last_two first a second b = numbered first a ++ last_number second b
