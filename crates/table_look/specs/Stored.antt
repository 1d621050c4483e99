-- Where a table stands in a stored file: behind the 40 bytes that the hub of the examples puts before it, where the file begins as such a one does, else from its
-- first byte on. No table begins so: its first byte is the count of its nodes, at most 8.
use Rattle.std.specs.Prelude.{ℕ, ltb, length, drop}
use Rattle.fields.specs.Choice.{pick}
use Rattle.fields.specs.Numbers.{Bytes}
use Rattle.fields.specs.Order.{starts_with}
use Rattle.rules.specs.Listing.{ascii}

abbrev pub head_width : ℕ
head_width = 40

abbrev pub head_start : Bytes
head_start = ascii "kevhub 1"

unfoldable pub table_in : (file : Bytes) → Bytes
table_in l = pick (ltb (length l) head_width) l (pick (starts_with head_start l) (drop head_width l) l)
