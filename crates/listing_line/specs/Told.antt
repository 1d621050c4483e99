-- What is answered for a line that was read: how many bytes its operation has, and that these stand at the front of the lent bytes; 0 where the text is
-- no line of an operation, or goes on behind it.
use Rattle.std.specs.Prelude.{ℕ, ◌+◌, ◌≡◌, [], ◌∷◌, take}
use Rattle.fields.specs.Numbers.{Bytes}
use Rattle.rules.specs.Delta.{beside_texts, op_bytes, size_of}
use Rattle.rules.specs.Sizes.{max_key, max_value}
use Rattle.std.specs.Prelude.{None, Option, Some}
use Rattle.listing_read.specs.Unlist.{Line, LineRead, NoLine}

-- the most bytes of an operation
abbrev pub longest_op : ℕ
longest_op = beside_texts + max_key + max_value

abbrev pub LineTold : (read : LineRead) (answer : ℕ) (out : Bytes) → Type 0
LineTold (Line o []) r out = (r ≡ size_of o) × (take r out ≡ op_bytes o)
LineTold (Line o (b ∷ l)) r out = r ≡ 0
LineTold NoLine r out = r ≡ 0

-- how many bytes were written
abbrev pub size_told : (Option ℕ) → ℕ
size_told (Some n) = n
size_told None = 0
