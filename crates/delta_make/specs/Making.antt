-- A delta made from its listing, step by step: what is kept of the text, and what stands in the two lent memories, for every byte, whatever was kept and
-- whatever was lent; also for what no text leads to. Two laws say what the steps are good for (proofs/Whole): through a whole text they give what reading
-- that listing gives (`made-of-text`), and it is all one how the text is cut into pieces (`taken-in-pieces`).
use Rattle.std.specs.Prelude.{ℕ, ◌+◌, ◌≡◌, [], ◌∷◌, ◌++◌, eqb, leb, length, set, take}
use Rattle.fields.specs.Choice.{pick}
use Rattle.fields.specs.Numbers.{Bytes}
use Rattle.fields.specs.Order.{same_bytes}
use Rattle.fields.specs.Parts.{put}
use Rattle.rules.specs.Delta as rule
use Rattle.rules.specs.Delta.{op_bytes, read_delta, size_of}
use Rattle.rules.specs.Given.{Given, given}
use Rattle.rules.specs.Listing.{ascii, decimal, end_line, line_feed}
use Rattle.rules.specs.Sizes.{max_delta, top}
use Rattle.listing_read.specs.Unlist.{Delta, Faulty, Line, LineRead, NoLine, NotInForm, Unlisted, read_line}
use Rattle.rules.specs.declared.Refusal.{Refusal}
use Rattle.rules.specs.declared.Refusal.TheVariants.{TooMany}
use Rattle.delta_make.specs.declared.Stage.{Stage}
use Rattle.delta_make.specs.declared.Stage.TheVariants.{Lines, End, Bad}
use Rattle.delta_make.specs.declared.Making.{Making}
use Rattle.std.specs.Prelude.{Err, Ok, Result}
use Rattle.delta_make.specs.declared.NotMade.{NotMade}
use Rattle.delta_make.specs.declared.NotMade.TheVariants as not_made

-- the longest line, with its line feed
abbrev pub longest_line : ℕ
longest_line = 349

-- a count that goes on; at its end it stays
unfoldable pub up_by : (n by : ℕ) → ℕ
up_by n by = pick (leb (n + by) top) (n + by) top

-- ---- what is kept

abbrev pub among : (held ops bytes : ℕ) → Making
among held ops bytes = record { stage = Lines; held = held; ops = ops; bytes = bytes }

abbrev pub behind_end : (ops bytes : ℕ) → Making
behind_end ops bytes = record { stage = End; held = 0; ops = ops; bytes = bytes }

abbrev pub bad_at : (line : ℕ) → Making
bad_at n = record { stage = Bad n; held = 0; ops = 0; bytes = 0 }

-- before any text
abbrev pub started : Making
started = among 0 0 0

-- the lent memories: the line that has begun, the delta so far
pub record LineAndDelta : Type 0 where
  pub line : Bytes
  pub delta : Bytes

abbrev pub both : (line delta : Bytes) → LineAndDelta
both line delta = record { line = line; delta = delta }

abbrev pub kept : (making : Making) (line delta : Bytes) → Given Making LineAndDelta
kept m line delta = given m (both line delta)

-- ---- a whole line

-- an operation's bytes behind the first `at`, where there is room
unfoldable pub stored_at : (at : ℕ) (op delta : Bytes) → Bytes
stored_at at op delta = pick (leb (at + length op) (length delta)) (put at op delta) delta

-- the end line, or one that is not in its form
abbrev pub closing : (ops bytes : ℕ) (line : Bytes) → Making
closing ops bytes line = pick (same_bytes (end_line ops bytes) line) (behind_end ops bytes) (bad_at (up_by ops 1))

-- just the line of an operation, or none
abbrev pub on_read : (ops bytes : ℕ) (line delta : Bytes) (read : LineRead) → Given Making Bytes
on_read ops bytes line delta (Line o []) = given (among 0 (up_by ops 1) (up_by bytes (size_of o))) (stored_at bytes (op_bytes o) delta)
on_read ops bytes line delta (Line o (b ∷ rest)) = given (closing ops bytes line) delta
on_read ops bytes line delta NoLine = given (closing ops bytes line) delta

-- with its line feed, behind so many operations of so many bytes
unfoldable pub line_taken : (ops bytes : ℕ) (line delta : Bytes) → Given Making Bytes
line_taken ops bytes line delta = on_read ops bytes line delta (read_line line)

-- ---- a byte

-- the byte stands in its place: it ends a line, or the line goes on
abbrev pub placed_byte : (byte held ops bytes : ℕ) (line delta : Bytes) → Given Making LineAndDelta
placed_byte byte held ops bytes line delta =
    let whole : Given Making Bytes = line_taken ops bytes (take (held + 1) line) delta in
    pick (eqb byte 10) (kept whole.answer line whole.lent) (kept (among (held + 1) ops bytes) line delta)

-- a line that is longer than its memory is not in its form
unfoldable pub among_taken : (byte : ℕ) (making : Making) (line delta : Bytes) → Given Making LineAndDelta
among_taken byte m line delta =
    pick (leb (length line) m.held)
    (kept (bad_at (up_by m.ops 1)) line delta)
    (placed_byte byte m.held m.ops m.bytes (set line m.held byte) delta)

-- nothing may stand behind the end line; behind a bad line everything stays
abbrev pub byte_at : (stage : Stage) (byte : ℕ) (making : Making) (line delta : Bytes) → Given Making LineAndDelta
byte_at Lines byte m line delta = among_taken byte m line delta
byte_at End byte m line delta = kept (bad_at (up_by m.ops 2)) line delta
byte_at (Bad n) byte m line delta = kept m line delta

unfoldable pub taken_byte : (byte : ℕ) (before : Given Making LineAndDelta) → Given Making LineAndDelta
taken_byte byte s = byte_at s.answer.stage byte s.answer s.lent.line s.lent.delta

-- ---- a piece of the text, byte by byte

unfoldable pub taken_in : (piece : Bytes) (before : Given Making LineAndDelta) → Given Making LineAndDelta
taken_in [] s = s
taken_in (b ∷ piece) s = taken_in piece (taken_byte b s)

-- ---- the end of the text

-- the delta is refused, and where
abbrev pub refused_at : (why : Refusal) (at : ℕ) → Result ℕ NotMade
refused_at r at = Err (not_made.Refused (record { why = r; at = at }))

abbrev pub made_of : (bytes : ℕ) (read : rule.Ops) → Result ℕ NotMade
made_of n (rule.Good ops) = Ok n
made_of n (rule.Faulty r at) = refused_at r at

-- what reading the delta answers, if it is not too long
unfoldable pub read_made : (bytes : ℕ) (delta : Bytes) → Result ℕ NotMade
read_made n delta = pick (leb n max_delta) (pick (leb n (length delta)) (made_of n (read_delta (take n delta))) (refused_at TooMany 0)) (refused_at TooMany 0)

-- a line that is not closed, or an end line that is missing, is the line behind the operations
abbrev pub finished_at : (stage : Stage) (making : Making) (delta : Bytes) → Result ℕ NotMade
finished_at Lines m delta = Err (not_made.BadLine (up_by m.ops 1))
finished_at End m delta = read_made m.bytes delta
finished_at (Bad n) m delta = Err (not_made.BadLine n)

unfoldable pub finished : (making : Making) (delta : Bytes) → Result ℕ NotMade
finished m delta = finished_at m.stage m delta

-- ---- what a whole text gives

-- the answer is what reading the listing gives; of an accepted delta the bytes stand at the front of the lent memory
abbrev pub Outcome : (of : Unlisted) (answer : Result ℕ NotMade) (delta : Bytes) → Type 0
Outcome (Delta b) r delta = (r ≡ Ok (length b)) × (take (length b) delta ≡ b)
Outcome (NotInForm n) r delta = r ≡ Err (not_made.BadLine n)
Outcome (Faulty why at) r delta = r ≡ refused_at why at

-- the line that is printed of a line that is not in its form
unfoldable pub bad_line : (line : ℕ) → Bytes
bad_line n = ascii "end=refused code=16 line=" ++ (decimal n ++ line_feed)
