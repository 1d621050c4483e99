-- Laws of the lines: how long a line is, and the lines one behind the other. Assumes nothing.
use Prim.Native.Nat.{ℕ, zero, suc, ◌+◌, ◌-◌, ◌*◌, ◌≤◌, ◌<◌}
use mathlib.Core.Path.{◌≡◌, refl, ap, ◌∙◌, subst}
use mathlib.Core.Logic.{inl, inr}
use mathlib.Core.List.{List, [], ◌++◌, append_assoc}
use native.Mathlib.Omega.{arith}
use lib.ListN.{length, length-append}
use Rattle.fields.specs.Blocks.{flat}
use Rattle.fields.specs.Parts.{part}
use Rattle.fields.proofs.Parts.{length_part}
use Rattle.rules.specs.Delta as rule
use Rattle.rules.specs.Listing.{ascii, decimal, op_line, shown_bytes, status_text}
use Rattle.rules.specs.declared.Status.{Status}
use Rattle.rules.specs.declared.Status.TheVariants.{Set, Delete, Ttl}
use Rattle.rules.specs.declared.Refusal.{Refusal}
use Rattle.delta_op.specs.declared.Op.{Op}
use Rattle.delta_op.specs.declared.Op.TheVariants.{Node, KeyValue, SetMaxVersion}
use Rattle.std.specs.Prelude.{Err, Ok, Result}
use Rattle.delta_op.specs.Places.{op_of, op_at, Inside, width_of}
use Rattle.delta_op.proofs.Reading.{Within, op-within, le-or-lt}
use Rattle.delta_op.proofs.Plain.{plain_end, plain-bad, plain-next}
use Rattle.listing_text.proofs.Texts.{decimal-long, shown-long}
use Rattle.listing_ops.specs.Lines.{lines_from, record_line, texts_text}

-- ---- one line

pub status-long : (st : Status) → length (status_text st) ≤ 6
status-long Set = omega arith
status-long Delete = omega arith
status-long Ttl = omega arith

pub node-long : (n g f : ℕ) → length (op_line (rule.NodeOp n g f)) ≡ 22 + length (decimal n) + length (decimal g) + length (decimal f)
unfolding op_line
node-long n g f = simp length-append (omega arith)

pub max-long : (m : ℕ) → length (op_line (rule.SetMaxVersionOp m)) ≡ 16 + length (decimal m)
unfolding op_line
max-long m = simp length-append (omega arith)

pub record-long : (ver : ℕ) (st : Status) (key value : List ℕ)
    → length (record_line ver st key value) ≡ 35 + length (decimal ver) + length (status_text st) + length (shown_bytes key) + length (shown_bytes value)
record-long ver st key value = simp length-append (omega arith)

-- a record's line, of its key and value as they are lent
pub record-line : (l : List ℕ) (k n v m ver : ℕ) (st : Status) (o : Op) (key value : List ℕ) → o ≡ KeyValue k n v m ver st → key ≡ part k n l
    → value ≡ part v m l → record_line ver st key value ≡ op_line (op_of l o)
unfolding op_line
record-line l k n v m ver st o key value e p q =
    rw (e, p, q)
    (ap (λ (r : List ℕ). ascii "op=kv version=" ++ r) (append_assoc (decimal ver) (ascii " status=" ++ status_text st) (texts_text (part k n l) (part v m l))))

-- what is known of a record's places
pub inside : (len : ℕ) (o : Op) (k n v m ver : ℕ) (st : Status) → o ≡ KeyValue k n v m ver st → Inside len o → Inside len (KeyValue k n v m ver st)
inside len o k n v m ver st e h = rw e at h

-- at most five times as long as the operation's bytes
pub line-short : (l : List ℕ) (o : Op) → Inside (length l) o → length (op_line (op_of l o)) ≤ 5 * width_of o
line-short l (Node n g f) i = omega (arith, node-long n g f, decimal-long n, decimal-long g, decimal-long f)
line-short l (KeyValue k n v m ver st) i =
    let key : List ℕ = part k n l in
    let value : List ℕ = part v m l in
    let line = ap length (record-line l k n v m ver st (KeyValue k n v m ver st) key value refl refl refl) in
    let k-long : length key ≡ n = length_part k n l i.0 in
    let v-long : length value ≡ m = length_part v m l i.1 in
    omega
    (arith, line, record-long ver st key value, decimal-long ver, status-long st, shown-long key, shown-long value, k-long, v-long)
line-short l (SetMaxVersion m) i = omega (arith, max-long m, decimal-long m)

-- ---- the lines

-- an operation that was read takes its bytes
pub within : (l : List ℕ) (at : ℕ) (o : Op) (next : ℕ) → op_at l at ≡ (Ok (o, next)) → Within (length l) at (Ok (o, next))
within l at o next e = subst (Within (length l) at) e (op-within l at)

module _ (l : List ℕ) (at : ℕ) where
  pub lines_end : length l ≤ at → lines_from l at ≡ []
  unfolding lines_from flat
  lines_end h = ap (flat op_line) (plain_end l at h)

  module _ (h : at < length l) where
    pub lines-bad : (r : Refusal) → op_at l at ≡ Err r → lines_from l at ≡ []
    unfolding lines_from flat
    lines-bad r e = ap (flat op_line) (plain-bad l at r h e)

    pub lines_next : (o : Op) (next : ℕ) → op_at l at ≡ (Ok (o, next)) → lines_from l at ≡ op_line (op_of l o) ++ lines_from l next
    unfolding lines_from flat
    lines_next o next e = ap (flat op_line) (plain-next l at o next h e)

-- the lines are at most five times as long as the bytes
pub lines-most : (k at : ℕ) (l : List ℕ) → length l ≤ at + k → length (lines_from l at) ≤ 5 * (length l - at)
lines-most zero at l h = omega (arith, ap length (lines_end l at (omega arith)))
lines-most (suc k) at l h = elim (le-or-lt (length l) at) [
  | inl g ↦ omega (arith, ap length (lines_end l at g))
  | inr g ↦ go (op_at l at) refl (op-within l at) g (λ next e. lines-most k next l e)
]
  where
    go : (r : (Result (Op × ℕ) Refusal)) → op_at l at ≡ r → Within (length l) at r → at < length l
        → ((next : ℕ) → length l ≤ next + k → length (lines_from l next) ≤ 5 * (length l - next))
        → length (lines_from l at) ≤ 5 * (length l - at)
    go (Err r) e w g ih = omega (arith, ap length (lines-bad l at g r e))
    go (Ok (o, next)) e w g ih =
        let d : length (lines_from l at) ≡ length (op_line (op_of l o)) + length (lines_from l next) =
        ap length (lines_next l at g o next e) ∙ length-append (op_line (op_of l o)) (lines_from l next) in
        omega (arith, d, line-short l o w.2, ih next (omega arith), w.0, w.1, w.3)
