-- The line that was printed of an operation is read back as that operation. Assumes nothing.
use Prim.Native.Nat.{ℕ, ◌≤◌}
use mathlib.Core.Path.{◌≡◌, refl, ap, ◌∙◌}
use mathlib.Core.List.{◌++◌, append_assoc}
use native.Mathlib.Omega.{arith}
use lib.ListN.{length}
use Rattle.fields.specs.Numbers.{AreBytes, Bytes}
use Rattle.fields.specs.Order.{starts_with}
use Rattle.rules.specs.Delta.{Op, NodeOp, KeyValueOp, SetMaxVersionOp}
use Rattle.rules.specs.Node.{KeyValue}
use Rattle.rules.specs.Listing.{ascii, decimal, end_line, line_feed, op_line, shown_bytes, status_text}
use Rattle.rules.specs.Sizes.{max_key, max_value}
use Rattle.rules.specs.declared.Status.{Status}
use Rattle.rules.specs.declared.Status.TheVariants.{Set, Delete, Ttl}
use Rattle.rules.proofs.Ops.{Number, SmallKeyValue, SmallOp}
use Rattle.listing_read.specs.Unlist.{Line, LineRead, NoLine, closed, number_form, printed, read_line, status, text_form}
use Rattle.listing_read.specs.Unlist.{after_gc, after_id, after_key, after_max, after_status, after_version}
use Rattle.listing_read.proofs.Pieces.{Stops, number-readable, printed-read, text-readable}

-- the texts of an operation are bytes
abbrev pub BytesOp : (op : Op) → Type 0
BytesOp (NodeOp n g f) = Unit {0}
BytesOp (KeyValueOp r) = AreBytes r.key × AreBytes r.value
BytesOp (SetMaxVersionOp m) = Unit {0}

-- a number and a text, with what stands behind them in the line and behind the line
number-then : (n : ℕ) (next : ℕ → Bytes → LineRead) (t rest : Bytes) → Number n → Stops number_form.within (t ++ rest)
    → printed number_form next ((decimal n ++ t) ++ rest) ≡ next n (t ++ rest)
number-then n next t rest h s =
    ap (printed number_form next) (append_assoc (decimal n) t rest) ∙ printed-read number_form n next (t ++ rest) (number-readable n h) s

text-then : (most : ℕ) (k : Bytes) (next : Bytes → Bytes → LineRead) (t rest : Bytes) → AreBytes k → length k ≤ most → Stops (text_form most).within (t ++ rest)
    → printed (text_form most) next ((shown_bytes k ++ t) ++ rest) ≡ next k (t ++ rest)
text-then most k next t rest b h s =
    ap (printed (text_form most) next) (append_assoc (shown_bytes k) t rest) ∙ printed-read (text_form most) k next (t ++ rest) (text-readable most k b h) s

status-read : (st : Status) (next : Status → Bytes → LineRead) (l : Bytes) → status next (status_text st ++ l) ≡ next st l
unfolding starts_with
status-read Set next l = refl
status-read Delete next l = refl
status-read Ttl next l = refl

status-then : (st : Status) (next : Status → Bytes → LineRead) (t rest : Bytes) → status next ((status_text st ++ t) ++ rest) ≡ next st (t ++ rest)
status-then st next t rest = ap (status next) (append_assoc (status_text st) t rest) ∙ status-read st next (t ++ rest)

-- by the kind of operation; words of the line are found by computing
node-read : (n g f : ℕ) (rest : Bytes) → SmallOp (NodeOp n g f) → read_line (op_line (NodeOp n g f) ++ rest) ≡ Line (NodeOp n g f) rest
unfolding read_line op_line starts_with
node-read n g f rest s =
    let from : Bytes = ascii " from=" ++ (decimal f ++ line_feed) in
    let gc : Bytes = ascii " gc=" ++ (decimal g ++ from) in
    number-then n after_id gc rest s.0 refl
    ∙ number-then g (after_gc n) from rest s.1 refl
    ∙ number-then f (λ f. closed (NodeOp n g f)) line_feed rest s.2 refl

max-read : (m : ℕ) (rest : Bytes) → Number m → read_line (op_line (SetMaxVersionOp m) ++ rest) ≡ Line (SetMaxVersionOp m) rest
unfolding read_line op_line starts_with
max-read m rest s = number-then m after_max line_feed rest s refl

record-read : (r : KeyValue) (rest : Bytes) → SmallKeyValue r → BytesOp (KeyValueOp r) → read_line (op_line (KeyValueOp r) ++ rest) ≡ Line (KeyValueOp r) rest
unfolding read_line op_line starts_with
record-read r rest s b =
    let ver : ℕ = r.version in
    let st : Status = r.status in
    let value : Bytes = ascii " value=" ++ (shown_bytes r.value ++ line_feed) in
    let key : Bytes = ascii " key=" ++ (shown_bytes r.key ++ value) in
    number-then ver after_version (ascii " status=" ++ (status_text st ++ key)) rest s.version_fits refl
    ∙ status-then st (after_status ver) key rest
    ∙ text-then max_key r.key (after_key ver st) value rest b.0 s.key_fits refl
    ∙ text-then max_value r.value (λ v. closed (KeyValueOp (record { key = r.key; value = v; version = ver; status = st }))) line_feed rest b.1
    s.value-fits refl

pub line_read : (o : Op) (rest : Bytes) → SmallOp o → BytesOp o → read_line (op_line o ++ rest) ≡ Line o rest
line_read (NodeOp n g f) rest s b = node-read n g f rest s
line_read (KeyValueOp r) rest s b = record-read r rest s b
line_read (SetMaxVersionOp m) rest s b = max-read m rest s

-- the line of an end is none of an operation
pub no_line : (ops bytes : ℕ) → read_line (end_line ops bytes) ≡ NoLine
unfolding read_line starts_with
no_line ops bytes = refl

pub line-some : (o : Op) → 1 ≤ length (op_line o)
unfolding op_line
line-some (NodeOp n g f) = omega arith
line-some (KeyValueOp r) = omega arith
line-some (SetMaxVersionOp m) = omega arith
