-- A listing read back: its lines, each exactly as it is printed, and the delta's bytes that they tell. A line that is printed otherwise is none: with a
-- leading zero, with small hexadecimal digits, with an escape that is not needed, with too long a key, without its line feed.
use Rattle.std.specs.Prelude.{ℕ, zero, suc, ◌+◌, ◌-◌, ◌*◌, ◌^◌, Bool, ◌&&◌, List, [], ◌∷◌, length, drop, eqb, leb, ltb}
use Rattle.fields.specs.Choice.{all, pick}
use Rattle.fields.specs.Numbers.{Bytes}
use Rattle.fields.specs.Order.{same_bytes, starts_with}
use Rattle.rules.specs.Sizes.{max_key, max_value}
use Rattle.rules.specs.Delta as rule
use Rattle.rules.specs.Delta.{Op, NodeOp, KeyValueOp, SetMaxVersionOp, delta_bytes, number_width, read_delta, size_of}
use Rattle.rules.specs.Listing.{ascii, decimal, end_line, line_feed, shown_bytes, status_text}
use Rattle.rules.specs.declared.Refusal.{Refusal}
use Rattle.rules.specs.declared.Status.{Status}
use Rattle.rules.specs.declared.Status.TheVariants.{Set, Delete, Ttl}

-- ---- what stands at the front of a text

-- the line of an operation and the text behind it, or no such line
pub data LineRead : Type 0 where
  Line : Op → Bytes → LineRead
  NoLine : LineRead

-- this word, else the other way
abbrev pub word : {R : Type 0} (name : Bytes) (other : R) (next : Bytes → R) (text : Bytes) → R
word name other next l = pick (starts_with name l) (next (drop (length name) l)) other

-- as far as the test goes
unfoldable pub front : (p : ℕ → Bool) (text : Bytes) → Bytes
front p [] = []
front p (b ∷ l) = pick (p b) (b ∷ front p l) []

-- How values are printed: which bytes belong to one, what such bytes stand for, what is printed, and which values are ever printed.
pub record Form (A : Type 0) : Type 1 where
  pub within : ℕ → Bool
  pub value : Bytes → A
  pub print : A → Bytes
  pub fits : A → Bool

-- a value, whose bytes are just what is printed of it
abbrev pub printed : {A : Type 0} (form : Form A) (next : A → Bytes → LineRead) (text : Bytes) → LineRead
printed form next l =
    let piece : Bytes = front form.within l in
    pick (form.fits (form.value piece) && same_bytes (form.print (form.value piece)) piece) (next (form.value piece) (drop (length piece) l)) NoLine

-- ---- numbers

abbrev pub is_digit : (b : ℕ) → Bool
is_digit b = leb 48 b && leb b 57

-- the digits go on with a number that has begun
unfoldable pub value_from : (begun : ℕ) (digits : Bytes) → ℕ
value_from n [] = n
value_from n (b ∷ l) = value_from (n * 10 + (b - 48)) l

abbrev pub number_form : Form ℕ
number_form = record { within = is_digit; value = value_from 0; print = decimal; fits = λ n. ltb n (256 ^ number_width) }

-- ---- keys and values

-- a byte that can stand in a text as it is shown
abbrev pub is_graphic : (b : ℕ) → Bool
is_graphic b = leb 33 b && leb b 126

unfoldable pub hex_value : (digit : ℕ) → ℕ
hex_value b = pick (ltb b 58) (b - 48) (b - 55)

-- `%` and two digits are one byte
unfoldable pub unshown : (text : Bytes) → Bytes
unshown [] = []
unshown (a ∷ []) = a ∷ []
unshown (a ∷ b ∷ []) = a ∷ b ∷ []
unshown (a ∷ b ∷ c ∷ l) = pick (eqb a 37) ((hex_value b * 16 + hex_value c) ∷ unshown l) (a ∷ unshown (b ∷ c ∷ l))

-- of two digits that are none, more than a byte may come
abbrev pub is_byte : (b : ℕ) → Bool
is_byte b = ltb b 256

abbrev pub text_form : (most : ℕ) → Form Bytes
text_form most = record { within = is_graphic; value = unshown; print = shown_bytes; fits = λ t. leb (length t) most && all is_byte t }

-- ---- the line of an operation

abbrev pub closed : (op : Op) (text : Bytes) → LineRead
closed o l = word line_feed NoLine (λ rest. Line o rest) l

-- a Node's line behind its number, and behind last_gc
abbrev pub after_gc : (number last_gc : ℕ) (text : Bytes) → LineRead
after_gc n g l = word (ascii " from=") NoLine (printed number_form (λ f. closed (NodeOp n g f))) l

abbrev pub after_id : (number : ℕ) (text : Bytes) → LineRead
after_id n l = word (ascii " gc=") NoLine (printed number_form (after_gc n)) l

-- a record's line behind its key, its status, its version
abbrev pub after_key : (version : ℕ) (status : Status) (key : Bytes) (text : Bytes) → LineRead
after_key ver st k l =
    word (ascii " value=") NoLine (printed (text_form max_value) (λ v. closed (KeyValueOp (record { key = k; value = v; version = ver; status = st })))) l

abbrev pub after_status : (version : ℕ) (status : Status) (text : Bytes) → LineRead
after_status ver st l = word (ascii " key=") NoLine (printed (text_form max_key) (after_key ver st)) l

abbrev pub status : (next : Status → Bytes → LineRead) (text : Bytes) → LineRead
status next l = word (status_text Set) (word (status_text Delete) (word (status_text Ttl) NoLine (next Ttl) l) (next Delete) l) (next Set) l

abbrev pub after_version : (version : ℕ) (text : Bytes) → LineRead
after_version ver l = word (ascii " status=") NoLine (status (after_status ver)) l

-- a SetMaxVersion's line behind its number
abbrev pub after_max : (max : ℕ) (text : Bytes) → LineRead
after_max m l = closed (SetMaxVersionOp m) l

unfoldable pub read_line : (text : Bytes) → LineRead
read_line l =
    word (ascii "op=node id=")
    (word (ascii "op=kv version=") (word (ascii "op=max version=") NoLine (printed number_form after_max) l) (printed number_form after_version) l)
    (printed number_form after_id)
    l

-- ---- all lines

-- the operations, or the number of the first line that is not in its form
pub data Lines : Type 0 where
  All : List Op → Lines
  BadLine : ℕ → Lines

abbrev pub with_line : (op : Op) (read : Lines) → Lines
with_line o (All ops) = All (o ∷ ops)
with_line o (BadLine n) = BadLine n

-- nothing stands behind the end line
abbrev pub at_end : (line : ℕ) (text : Bytes) → Lines
at_end n [] = All []
at_end n (b ∷ l) = BadLine n

abbrev pub on_line : (ops bytes : ℕ) (next : Op → Bytes → Lines) (text : Bytes) (read : LineRead) → Lines
on_line ops bytes next l (Line o rest) = with_line o (next o rest)
on_line ops bytes next l NoLine = word (end_line ops bytes) (BadLine (ops + 1)) (at_end (ops + 2)) l

-- Line by line to the end line, which counts the operations and their bytes. The first number only bounds the lines: each takes a byte at least, so that
-- the length of the text is enough.
unfoldable pub read_lines : (bound ops bytes : ℕ) (text : Bytes) → Lines
read_lines zero ops bytes l = BadLine (ops + 1)
read_lines (suc k) ops bytes l = on_line ops bytes (λ o rest. read_lines k (ops + 1) (bytes + size_of o) rest) l (read_line l)

-- ---- the delta

-- its bytes; the first line not in its form; or why reading the delta refuses those bytes, and where
pub data Unlisted : Type 0 where
  Delta : Bytes → Unlisted
  NotInForm : ℕ → Unlisted
  Faulty : Refusal → ℕ → Unlisted

abbrev pub judged : (bytes : Bytes) (read : rule.Ops) → Unlisted
judged b (rule.Good ops) = Delta b
judged b (rule.Faulty r at) = Faulty r at

abbrev pub of_lines : (read : Lines) → Unlisted
of_lines (All ops) = judged (delta_bytes ops) (read_delta (delta_bytes ops))
of_lines (BadLine n) = NotInForm n

unfoldable pub unlist : (text : Bytes) → Unlisted
unlist l = of_lines (read_lines (length l) 0 0 l)
