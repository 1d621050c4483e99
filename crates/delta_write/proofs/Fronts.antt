-- Fields written one behind the other to the front of a list are one put of the operation's bytes. How many bytes an operation takes stands in the
-- rules (proofs/Sending: the sizes). Assumes nothing.
use Prim.Native.Nat.{ℕ, ◌+◌, ◌<◌, ◌≤◌}
use mathlib.Core.Path.{◌≡◌, ◌∙◌, ap}
use mathlib.Core.List.{◌++◌, append_assoc}
use native.Mathlib.Omega.{arith}
use lib.ListN.{length, length-append}
use borrow.Author.Tests.{le-leb, lt-leb}
use Rattle.fields.specs.Numbers.{Bytes, bytes_of}
use Rattle.fields.specs.Parts.{put}
use Rattle.fields.specs.Widths.{offset}
use Rattle.fields.proofs.Numbers.{length-bytes_of}
use Rattle.fields.proofs.Parts.{put-behind, put-field}
use Rattle.rules.specs.Given.{Gives}
use Rattle.rules.specs.Delta.{Op, NodeOp, SetMaxVersionOp, op_bytes, size_of, status_byte, text_bytes}
use Rattle.rules.specs.Delta.{beside_texts, byte_width, length_width, max_op_width, node_op_width, node_op_widths, number_width}
use Rattle.rules.specs.declared.Status.{Status}
use Rattle.rules.proofs.Ops.{one_byte, status-byte}
use Rattle.delta_write.specs.Written.{key_value, write_op}
use Rattle.std.specs.Prelude.{None, Some}

-- ---- the operation as its fields, written from left to right

text-long : (s : Bytes) → length (text_bytes s) ≡ length_width + length s
unfolding text_bytes
text-long s = length-append (bytes_of length_width (length s)) s ∙ ap (λ (k : ℕ). k + length s) (length-bytes_of length_width (length s))

pub text-fields : (t : Bytes) (at : ℕ) (l a b : Bytes) → at + length_width + length t ≤ length l → a ≡ put at (bytes_of length_width (length t)) l
    → b ≡ put (at + length_width) t a → b ≡ put at (text_bytes t) l
unfolding text_bytes
text-fields t at l a b h p q =
    let n : Bytes = bytes_of length_width (length t) in
    let e = length-bytes_of length_width (length t) in
    let k : at + length_width ≡ at + length n = omega arith in
    q ∙ ap (put (at + length_width) t) p ∙ ap (λ (x : ℕ). put x t (put at n l)) k ∙ put-behind at n t l (omega arith)

pub node-fields : (n g f : ℕ) (l a b c d : Bytes) → node_op_width ≤ length l → a ≡ put 0 (bytes_of byte_width 0) l
    → b ≡ put (offset node_op_widths 1) (bytes_of number_width n) a → c ≡ put (offset node_op_widths 2) (bytes_of number_width g) b
    → d ≡ put (offset node_op_widths 3) (bytes_of number_width f) c → d ≡ put 0 (op_bytes (NodeOp n g f)) l
unfolding op_bytes
node-fields n g f l a b c d h p q r s =
    let t : Bytes = bytes_of byte_width 0 in
    let N : Bytes = bytes_of number_width n in
    let G : Bytes = bytes_of number_width g in
    let F : Bytes = bytes_of number_width f in
    let x : b ≡ put 0 (t ++ N) l = put-field _ t N l a b (length-bytes_of byte_width 0) (simp length-bytes_of (omega arith)) p q in
    let y : c ≡ put 0 ((t ++ N) ++ G) l = put-field _ (t ++ N) G l b c (simp (length-append, length-bytes_of)) (simp length-bytes_of (omega arith)) x r in
    let z : d ≡ put 0 (((t ++ N) ++ G) ++ F) l =
    put-field _ ((t ++ N) ++ G) F l c d (simp (length-append, length-bytes_of)) (simp length-bytes_of (omega arith)) y s in
    z ∙ ap (λ (v : Bytes). put 0 v l) (simp (append_assoc, one_byte 0 (omega arith)))

pub set-max-version-fields : (m : ℕ) (l a b : Bytes) → max_op_width ≤ length l → a ≡ put 0 (bytes_of byte_width 2) l
    → b ≡ put byte_width (bytes_of number_width m) a → b ≡ put 0 (op_bytes (SetMaxVersionOp m)) l
unfolding op_bytes
set-max-version-fields m l a b h p q =
    put-field _ (bytes_of byte_width 2) (bytes_of number_width m) l a b (length-bytes_of byte_width 2) (simp length-bytes_of (omega arith)) p q
    ∙ ap (λ (v : Bytes). put 0 (v ++ bytes_of number_width m) l) (one_byte 2 (omega arith))

-- where a record's value and its version begin, by the lengths of its texts
abbrev pub behind_key : (keylen : ℕ) → ℕ
behind_key k = byte_width + length_width + k

abbrev pub behind_value : (keylen valuelen : ℕ) → ℕ
behind_value k v = behind_key k + length_width + v

pub key-value-fields : (k v : Bytes) (n : ℕ) (s : Status) (l a b c d e : Bytes) → beside_texts + length k + length v ≤ length l
    → a ≡ put 0 (bytes_of byte_width 1) l → b ≡ put byte_width (text_bytes k) a → c ≡ put (behind_key (length k)) (text_bytes v) b
    → d ≡ put (behind_value (length k) (length v)) (bytes_of number_width n) c
    → e ≡ put (behind_value (length k) (length v) + number_width) (bytes_of byte_width (status_byte s)) d → e ≡ put 0 (op_bytes (key_value k v n s)) l
unfolding op_bytes
key-value-fields k v n s l a b c d e h p q r u w =
    let t : Bytes = bytes_of byte_width 1 in
    let K : Bytes = text_bytes k in
    let W : Bytes = text_bytes v in
    let N : Bytes = bytes_of number_width n in
    let S : Bytes = bytes_of byte_width (status_byte s) in
    let lk = text-long k in
    let lv = text-long v in
    let x : b ≡ put 0 (t ++ K) l = put-field _ t K l a b (length-bytes_of byte_width 1) (omega arith) p q in
    let y : c ≡ put 0 ((t ++ K) ++ W) l =
    put-field (behind_key (length k)) (t ++ K) W l b c (simp (length-append, length-bytes_of) (omega arith)) (omega arith) x r in
    let z : d ≡ put 0 (((t ++ K) ++ W) ++ N) l =
    put-field (behind_value (length k) (length v)) ((t ++ K) ++ W) N l c d (simp (length-append, length-bytes_of) (omega arith))
    (simp length-bytes_of (omega arith)) y u in
    let o : e ≡ put 0 ((((t ++ K) ++ W) ++ N) ++ S) l =
    put-field (behind_value (length k) (length v) + number_width) (((t ++ K) ++ W) ++ N) S l d e (simp (length-append, length-bytes_of) (omega arith))
    (simp length-bytes_of (omega arith)) z w in
    o ∙ ap (λ (x : Bytes). put 0 x l) (simp (append_assoc, one_byte 1 (omega arith), one_byte (status_byte s) (status-byte s)))

-- ---- what is promised

pub fits : (o : Op) (n : ℕ) (l a : Bytes) → size_of o ≡ n → n ≤ length l → a ≡ put 0 (op_bytes o) l → Gives (write_op o l) (Some n) a
unfolding write_op
fits o n l a e h p =
    let t = le-leb (size_of o) (length l) (omega arith) in
    (rw (t, e), rw t p)

pub no-fit : (o : Op) (n : ℕ) (l : Bytes) → size_of o ≡ n → length l < n → Gives (write_op o l) None l
unfolding write_op
no-fit o n l e h =
    let t = lt-leb (size_of o) (length l) (omega arith) in
    (rw t, rw t)
