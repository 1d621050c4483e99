-- The pieces that a line of the listing is written in, and the lines of a delta's operations. proofs/Lines.antt shows that they are the rules' lines.
use Rattle.std.specs.Prelude.{ℕ, ◌++◌}
use Rattle.fields.specs.Numbers.{Bytes}
use Rattle.fields.specs.Blocks.{flat}
use Rattle.rules.specs.Listing.{ascii, line_feed, op_line, status_text}
use Rattle.rules.specs.declared.Status.{Status}
use Rattle.delta_op.specs.Plain.{ops_from}
use Rattle.listing_text.specs.Texts.{named, numbered}

-- two numbers with their names, to the end of a line
abbrev pub two_numbers : (first : Bytes) (a : ℕ) (second : Bytes) (b : ℕ) → Bytes
two_numbers first a second b = numbered first a ++ (numbered second b ++ line_feed)

-- a record's line: version and status, then key and value
abbrev pub version_text : (version : ℕ) (status : Status) → Bytes
version_text ver st = numbered (ascii "op=kv version=") ver ++ (ascii " status=" ++ status_text st)

abbrev pub texts_text : (key value : Bytes) → Bytes
texts_text k v = named (ascii " key=") k ++ (named (ascii " value=") v ++ line_feed)

abbrev pub record_line : (version : ℕ) (status : Status) (key value : Bytes) → Bytes
record_line ver st k v = version_text ver st ++ texts_text k v

-- the lines of the operations that stand from `at` on
unfoldable pub lines_from : (delta : Bytes) (at : ℕ) → Bytes
lines_from l at = flat op_line (ops_from l at)
