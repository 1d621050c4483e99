-- The listing of an accepted delta, read back, is that delta. So two accepted deltas with equal listings are equal, byte for byte, and an accepted delta's
-- listing equals no refused one's. Assumes nothing.
use Prim.Native.Nat.{ℕ, zero, suc, ◌+◌, ◌≤◌, ◌<◌}
use mathlib.Core.Path.{◌≡◌, refl, ap, sym, ◌∙◌, subst}
use mathlib.Core.List.{List, [], ◌∷◌, ◌++◌, append_assoc, append-nil}
use native.Mathlib.Omega.{arith}
use lib.ListN.{length, length-append}
use lib.Seq.{take_at}
use Rattle.fields.specs.Blocks.{flat}
use Rattle.fields.specs.Numbers.{AreBytes, Bytes, bytes_of}
use Rattle.fields.specs.Order.{starts_with}
use Rattle.fields.proofs.Choice.{in_right}
use Rattle.fields.proofs.Numbers.{bytes_take}
use Rattle.rules.specs.Delta.{Op, NodeOp, KeyValueOp, SetMaxVersionOp, Ops, Good, Faulty, delta_bytes, op_bytes, read_delta, size_of, status_byte, text_bytes}
use Rattle.rules.specs.Listing.{end_line, listing, listing_of, op_line}
use Rattle.rules.specs.declared.Refusal.{Refusal}
use Rattle.rules.proofs.Deltas.{AllSmall, delta-is}
use Rattle.listing_read.specs.Unlist.{All, BadLine, Delta, Lines, NotInForm, at_end, judged, of_lines, on_line, read_line, read_lines, unlist, with_line, word}
use Rattle.listing_read.proofs.Lines.{BytesOp, line_read, line-some, no_line}
use Rattle.listing_read.proofs.Pieces.{word_read}

-- ---- the texts of a delta's operations are bytes

bytes_left : (a b : Bytes) → AreBytes (a ++ b) → AreBytes a
bytes_left a b h = subst AreBytes (take_at a b (length a) refl) (bytes_take (length a) (a ++ b) h)

bytes-right : (a b : Bytes) → AreBytes (a ++ b) → AreBytes b
bytes-right a b h x m = h x (in_right a m)

op_bytes_lem : (o : Op) → AreBytes (op_bytes o) → BytesOp o
unfolding op_bytes text_bytes
op_bytes_lem (NodeOp n g f) h = tt
op_bytes_lem (KeyValueOp r) h =
    let behind : Bytes = bytes_of 8 r.version ++ (status_byte r.status ∷ []) in
    let texts : AreBytes (text_bytes r.key ++ (text_bytes r.value ++ behind)) = bytes-right (1 ∷ []) _ h in
    let value : AreBytes (text_bytes r.value) = bytes_left (text_bytes r.value) behind (bytes-right (text_bytes r.key) _ texts) in
    (bytes-right (bytes_of 2 (length r.key)) _ (bytes_left (text_bytes r.key) _ texts), bytes-right (bytes_of 2 (length r.value)) _ value)
op_bytes_lem (SetMaxVersionOp m) h = tt

unfoldable AllBytes : List Op → Type 0
AllBytes [] = Unit {0}
AllBytes (o ∷ ops) = BytesOp o × AllBytes ops

all-bytes : (ops : List Op) → AreBytes (flat op_bytes ops) → AllBytes ops
unfolding flat AllBytes
all-bytes [] h = tt
all-bytes (o ∷ ops) h = (op_bytes_lem o (bytes_left (op_bytes o) (flat op_bytes ops) h), all-bytes ops (bytes-right (op_bytes o) (flat op_bytes ops) h))

-- ---- all lines

end_read : (k ops bytes : ℕ) → read_lines (suc k) ops bytes (end_line ops bytes) ≡ All []
unfolding read_lines
end_read k ops bytes =
    let e : Bytes = end_line ops bytes in
    ap (on_line ops bytes (λ o rest. read_lines k (ops + 1) (bytes + size_of o) rest) e) (no_line ops bytes)
    ∙ ap (word e (BadLine (ops + 1)) (at_end (ops + 2))) (sym (append-nil e))
    ∙ word_read e (BadLine (ops + 1)) (at_end (ops + 2)) []

-- n and b are what the end line says
lines-read : (ops : List Op) (k count bytes n b : ℕ) → n ≡ count + length ops → b ≡ bytes + length (flat op_bytes ops) → AllSmall ops → AllBytes ops
    → length ops < k → read_lines k count bytes (flat op_line ops ++ end_line n b) ≡ All ops
unfolding read_lines flat AllSmall AllBytes size_of
lines-read ops zero count bytes n b p q s t h = absurd (omega arith)
lines-read [] (suc k) count bytes n b p q s t h =
    let m : n ≡ count = omega arith in
    let c : b ≡ bytes = omega arith in
    rw (m, c) (end_read k count bytes)
lines-read (o ∷ ops) (suc k) count bytes n b p q s t h =
    let rest : Bytes = flat op_line ops ++ end_line n b in
    let next : Op → Bytes → Lines = λ o rest. read_lines k (count + 1) (bytes + length (op_bytes o)) rest in
    let long : length (op_bytes o ++ flat op_bytes ops) ≡ length (op_bytes o) + length (flat op_bytes ops) = length-append (op_bytes o) (flat op_bytes ops) in
    let m : n ≡ count + 1 + length ops = omega arith in
    let c : b ≡ bytes + length (op_bytes o) + length (flat op_bytes ops) = omega (arith, long) in
    ap (λ (x : Bytes). on_line count bytes next x (read_line x)) (append_assoc (op_line o) (flat op_line ops) (end_line n b))
    ∙ ap (on_line count bytes next (op_line o ++ rest)) (line_read o rest s.0 t.0)
    ∙ ap (with_line o) (lines-read ops k (count + 1) (bytes + length (op_bytes o)) n b m c s.1 t.1 (omega arith))

-- the text is longer than its lines are many
lines_long : (ops : List Op) (e : Bytes) → 1 ≤ length e → length ops < length (flat op_line ops ++ e)
unfolding flat
lines_long [] e h = h
lines_long (o ∷ ops) e h =
    omega (
      arith,
      ap length (append_assoc (op_line o) (flat op_line ops) e),
      length-append (op_line o) (flat op_line ops ++ e),
      line-some o,
      lines_long ops e h,
    )

-- ---- the delta

-- reading back what was listed gives the same bytes
pub listed_back : (b : Bytes) (ops : List Op) → AreBytes b → read_delta b ≡ Good ops → unlist (listing b) ≡ Delta b
unfolding listing listing_of unlist delta_bytes
listed_back b ops h e =
    let is = (delta-is b ops h e).0 in
    let bytes : flat op_bytes ops ≡ b = is.bytes in
    let text : Bytes = flat op_line ops ++ end_line (length ops) (length b) in
    let lines : read_lines (length text) 0 0 text ≡ All ops =
    lines-read ops (length text) 0 0 (length ops) (length b) (omega arith) (omega (arith, ap length bytes)) is.small
    (all-bytes ops (subst AreBytes (sym bytes) h)) (lines_long ops (end_line (length ops) (length b)) (omega arith)) in
    ap (λ (x : Ops). unlist (listing_of x (length b))) e
    ∙ ap of_lines lines
    ∙ ap (λ (l : Bytes). judged l (read_delta l)) bytes
    ∙ ap (judged b) e

-- the line of a refused delta is no line of an accepted one's listing
refused-back : (c : Bytes) (r : Refusal) (at : ℕ) → read_delta c ≡ Faulty r at → unlist (listing c) ≡ NotInForm 1
unfolding listing listing_of unlist read_lines read_line starts_with
refused-back c r at e = ap (λ (x : Ops). unlist (listing_of x (length c))) e

delta-same : (b c : Bytes) → Delta b ≡ Delta c → b ≡ c
delta-same b c e = cc

apart : {A : Type 0} (b : Bytes) (n : ℕ) → Delta b ≡ NotInForm n → A
apart b n e = let z : ◌≡◌ {A = ℕ} 0 1 = cc in absurd (omega arith)

-- two accepted deltas with equal listings are equal, byte for byte
pub accepted-same : (b c : Bytes) (b-ops c-ops : List Op) → AreBytes b → AreBytes c → read_delta b ≡ Good b-ops → read_delta c ≡ Good c-ops
    → listing b ≡ listing c → b ≡ c
accepted-same b c b-ops c-ops h g p q e = delta-same b c (sym (listed_back b b-ops h p) ∙ ap unlist e ∙ listed_back c c-ops g q)

-- an accepted delta's listing equals no refused one's
pub refused-differs : (b c : Bytes) (ops : List Op) (r : Refusal) (at : ℕ) → AreBytes b → read_delta b ≡ Good ops → read_delta c ≡ Faulty r at
    → listing b ≡ listing c → ⊥
refused-differs b c ops r at h p q e = apart b 1 (sym (listed_back b ops h p) ∙ ap unlist e ∙ refused-back c r at q)

-- so what has an accepted delta's listing is that delta
pub listing-tells : (b c : Bytes) (ops : List Op) → AreBytes b → AreBytes c → read_delta b ≡ Good ops → listing b ≡ listing c → b ≡ c
listing-tells b c ops h g p e = go (read_delta c) refl
  where
    go : (x : Ops) → read_delta c ≡ x → b ≡ c
    go (Good c-ops) q = accepted-same b c ops c-ops h g p q e
    go (Faulty r at) q = absurd (refused-differs b c ops r at h p q e)
