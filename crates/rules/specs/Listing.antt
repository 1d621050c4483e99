-- The listing that `showdelta` prints of a delta: a line for each operation and one for the end, each closed by a line feed.
use Rattle.std.specs.Prelude.{ℕ, zero, suc, ◌+◌, ◌/◌, ◌%◌, Bool, ◌&&◌, not, [], ◌∷◌, ◌++◌, length, eqb, leb, ltb}
use Prim.Native.Char.{code}
use Prim.Native.String.{String}
use Prim.Native.String as str
use Rattle.fields.specs.Numbers.{Bytes}
use Rattle.fields.specs.Choice.{pick}
use Rattle.fields.specs.Blocks.{flat}
use Rattle.rules.specs.Given.{Given}
use Rattle.rules.specs.Answers.{number_of, need_of}
use Rattle.rules.specs.Delta.{Op, NodeOp, KeyValueOp, SetMaxVersionOp, Ops, Good, Faulty, read_delta}
use Rattle.rules.specs.Digest.{write_bytes}
use Rattle.rules.specs.declared.Refusal.{Refusal}
use Rattle.rules.specs.declared.Status.{Status}
use Rattle.rules.specs.declared.Status.TheVariants.{Set, Delete, Ttl}
use Rattle.std.specs.Prelude.{Result}

-- the bytes of an ASCII text
abbrev pub ascii : (text : String) → Bytes
ascii str.[] = []
ascii (str.◌∷◌ c s) = code c ∷ ascii s

-- decimal digits, highest first and without leading zeros; the first number bounds them, and 20 are enough for eight bytes
unfoldable pub digits : (most n : ℕ) (behind : Bytes) → Bytes
digits zero n behind = behind
digits (suc most) n behind = pick (ltb n 10) ((48 + n) ∷ behind) (digits most (n / 10) ((48 + n % 10) ∷ behind))

unfoldable pub decimal : (n : ℕ) → Bytes
decimal n = digits 20 n []

-- a byte that prints as itself: 33 to 126, but neither `%` nor `=`
unfoldable pub plain : (b : ℕ) → Bool
plain b = leb 33 b && (leb b 126 && (not (eqb b 37) && not (eqb b 61)))

-- of a number below 16
unfoldable pub hex_digit : (n : ℕ) → ℕ
hex_digit n = pick (ltb n 10) (48 + n) (55 + n)

-- any other byte prints as `%` and two capital hexadecimal digits
abbrev pub shown_byte : (b : ℕ) → Bytes
shown_byte b = pick (plain b) (b ∷ []) (37 ∷ hex_digit (b / 16) ∷ hex_digit (b % 16) ∷ [])

unfoldable pub shown_bytes : (text : Bytes) → Bytes
shown_bytes [] = []
shown_bytes (b ∷ l) = shown_byte b ++ shown_bytes l

abbrev pub status_text : (status : Status) → Bytes
status_text Set = ascii "set"
status_text Delete = ascii "delete"
status_text Ttl = ascii "ttl"

abbrev pub line_feed : Bytes
line_feed = 10 ∷ []

unfoldable pub op_line : (op : Op) → Bytes
op_line (NodeOp n g f) = ascii "op=node id=" ++ (decimal n ++ (ascii " gc=" ++ (decimal g ++ (ascii " from=" ++ (decimal f ++ line_feed)))))
op_line (KeyValueOp r) =
    ascii "op=kv version="
    ++ (decimal r.version
    ++ (ascii " status="
    ++ (status_text r.status
    ++ (ascii " key=" ++ (shown_bytes r.key ++ (ascii " value=" ++ (shown_bytes r.value ++ line_feed)))))))
op_line (SetMaxVersionOp m) = ascii "op=max version=" ++ (decimal m ++ line_feed)

-- the last line of an accepted delta: how many operations and bytes it has
abbrev pub end_line : (ops bytes : ℕ) → Bytes
end_line ops bytes = ascii "end=ok ops=" ++ (decimal ops ++ (ascii " bytes=" ++ (decimal bytes ++ line_feed)))

-- what is lacking, for 9 only
abbrev pub need_text : (why : Refusal) → Bytes
need_text r = pick (eqb (number_of r) 9) (ascii " need=" ++ decimal (need_of r)) []

-- a refused delta prints one line; `n` is the length of the delta's bytes
unfoldable pub listing_of : (read : Ops) (n : ℕ) → Bytes
listing_of (Good ops) n = flat op_line ops ++ end_line (length ops) n
listing_of (Faulty r at) n = ascii "end=refused code=" ++ (decimal (number_of r) ++ (ascii " at=" ++ (decimal at ++ (need_text r ++ line_feed))))

unfoldable pub listing : (delta : Bytes) → Bytes
listing l = listing_of (read_delta l) (length l)

-- the listing as a call: at the front of a lent buffer, and 8 with the buffer untouched where it is too short
abbrev pub list_delta : (delta out : Bytes) → Given (Result ℕ Refusal) Bytes
list_delta delta out = write_bytes (listing delta) 0 out
