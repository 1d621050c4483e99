-- An operation at a place of the lent bytes: its numbers, where its key and value stand, and the place behind it. `op_of` and `meant` say what
-- such an operation means in the words of the rules; proofs/Reading.antt shows that `op_at` is the rules' reading, field by field and refusal by
-- refusal.
use Rattle.std.specs.Prelude.{ℕ, zero, suc, ◌+◌, ◌-◌, ◌≤◌, length, drop, leb}
use Rattle.fields.specs.Choice.{pick}
use Rattle.fields.specs.Numbers.{Bytes, nat_of}
use Rattle.fields.specs.Parts.{part}
use Rattle.fields.specs.Widths.{offset, total}
use Rattle.rules.specs.Sizes.{max_key, max_value}
use Rattle.rules.specs.Delta as rule
use Rattle.rules.specs.Delta.{beside_texts, byte_width, length_width, max_op_width, max_op_widths, node_op_width, node_op_widths, number_lacks, number_width, status_byte, version_widths}
use Rattle.rules.specs.Layout.{status_of_byte}
use Rattle.rules.specs.declared.Status.TheVariants.{Ttl}
use Rattle.rules.specs.declared.Refusal.TheVariants.{TooLong, Cut, BadTag}
use Rattle.delta_op.specs.declared.Op.{Op}
use Rattle.delta_op.specs.declared.Op.TheVariants.{Node, KeyValue, SetMaxVersion}
use Rattle.std.specs.Prelude.{Err, Ok, Result}
use Rattle.rules.specs.declared.Refusal.{Refusal}
use Rattle.delta_op.specs.declared.TextFault.{TextFault}
use Rattle.delta_op.specs.declared.TextFault.TheVariants as fault

-- ---- what an operation with places means

abbrev pub op_of : (delta : Bytes) (op : Op) → rule.Op
op_of l (Node n g f) = rule.NodeOp n g f
op_of l (KeyValue k n v m ver st) = rule.KeyValueOp (record { key = part k n l; value = part v m l; version = ver; status = st })
op_of l (SetMaxVersion m) = rule.SetMaxVersionOp m

abbrev pub meant : (delta : Bytes) (read : (Result (Op × ℕ) Refusal)) → rule.OpRead
meant l (Ok (o, next)) = rule.Got (op_of l o) (drop next l)
meant l (Err r) = rule.Bad r

-- ---- reading at a place: fields from left to right; 9 tells what the field lacks in which the bytes end

-- a length, then so many bytes; an overlong length is 1 before its bytes are looked at
unfoldable pub text_at : (most : ℕ) (delta : Bytes) (at : ℕ) → (Result (ℕ × ℕ) TextFault)
text_at most l at =
    let n : ℕ = nat_of (part at length_width l) in
    let start : ℕ = at + length_width in
    pick (leb start (length l))
    (pick (leb n most) (pick (leb (start + n) (length l)) (Ok (start, n)) (Err (fault.Cut (n - (length l - start))))) (Err fault.Long))
    (Err (fault.Cut (length_width - (length l - at))))

-- why a text is not read, as a refusal
abbrev pub refusal_of : TextFault → Refusal
refusal_of fault.Long = TooLong
refusal_of (fault.Cut n) = Cut n

abbrev pub on_text : (next : ℕ → ℕ → (Result (Op × ℕ) Refusal)) (read : (Result (ℕ × ℕ) TextFault)) → (Result (Op × ℕ) Refusal)
on_text next (Ok (start, len)) = next start len
on_text next (Err f) = Err (refusal_of f)

-- what is lacking of version and status, where n bytes of them are there
abbrev pub version_lacks : (n : ℕ) → ℕ
version_lacks n = pick (leb number_width n) (total version_widths - n) (number_width - n)

-- version and status, behind the value; a status above 2 is 10
unfoldable pub version_at : (delta : Bytes) (keyat keylen valueat valuelen : ℕ) → (Result (Op × ℕ) Refusal)
version_at l k n v m =
    let at : ℕ = v + m in
    let st : ℕ = nat_of (part (at + offset version_widths 1) byte_width l) in
    let next : ℕ = at + total version_widths in
    pick (leb next (length l))
    (pick (leb st (status_byte Ttl)) (Ok ((KeyValue k n v m (nat_of (part at number_width l)) (status_of_byte st)), next)) (Err BadTag))
    (Err (Cut (version_lacks (length l - at))))

-- behind the key
unfoldable pub value_at : (delta : Bytes) (keyat keylen : ℕ) → (Result (Op × ℕ) Refusal)
value_at l k n = on_text (λ v m. version_at l k n v m) (text_at max_value l (k + n))

-- an operation of each kind, whose tag stands at `at`
unfoldable pub node_at : (delta : Bytes) (at : ℕ) → (Result (Op × ℕ) Refusal)
node_at l at =
    let number : ℕ → ℕ = λ k. nat_of (part (at + offset node_op_widths k) number_width l) in
    pick (leb (at + node_op_width) (length l)) (Ok ((Node (number 1) (number 2) (number 3)), (at + node_op_width)))
    (Err (Cut (number_lacks (length l - at - byte_width))))

unfoldable pub key_value_at : (delta : Bytes) (at : ℕ) → (Result (Op × ℕ) Refusal)
key_value_at l at = on_text (λ k n. value_at l k n) (text_at max_key l (at + byte_width))

unfoldable pub set_max_version_at : (delta : Bytes) (at : ℕ) → (Result (Op × ℕ) Refusal)
set_max_version_at l at =
    pick (leb (at + max_op_width) (length l))
    (Ok ((SetMaxVersion (nat_of (part (at + offset max_op_widths 1) number_width l))), (at + max_op_width)))
    (Err (Cut (max_op_width - (length l - at))))

-- a tag above 2 is 10
abbrev pub tagged_at : (tag : ℕ) (delta : Bytes) (at : ℕ) → (Result (Op × ℕ) Refusal)
tagged_at zero l at = node_at l at
tagged_at (suc zero) l at = key_value_at l at
tagged_at (suc (suc zero)) l at = set_max_version_at l at
tagged_at (suc (suc (suc n))) l at = Err BadTag

unfoldable pub op_at : (delta : Bytes) (at : ℕ) → (Result (Op × ℕ) Refusal)
op_at l at = pick (leb (at + byte_width) (length l)) (tagged_at (nat_of (part at byte_width l)) l at) (Err (Cut byte_width))

-- ---- where its key and value stand, and how many bytes it takes

-- key and value stand within n bytes and are no longer than the sizes
abbrev pub Inside : (n : ℕ) (op : Op) → Type 0
Inside len (Node n g f) = Unit {0}
Inside len (KeyValue k n v m ver st) = (k + n ≤ len) × (v + m ≤ len) × (n ≤ max_key) × (m ≤ max_value)
Inside len (SetMaxVersion m) = Unit {0}

-- how many bytes it takes
abbrev pub width_of : (op : Op) → ℕ
width_of (Node n g f) = node_op_width
width_of (KeyValue k n v m ver st) = beside_texts + n + m
width_of (SetMaxVersion m) = max_op_width
