-- Bytes copied eight at a time, and more of them than are wanted: what follows is put over the rest. Assumes nothing.
use Prim.Native.Nat.{ℕ, ◌+◌, ◌-◌, ◌≤◌}
use mathlib.Core.List.{◌++◌, append_assoc, append-nil}
use mathlib.Core.Path.{◌∙◌, ◌≡◌, ap, sym}
use native.Mathlib.Nat.{zero-add}
use native.Mathlib.Omega.{arith}
use lib.ListN.{drop_of_length-le, length, length-append}
use Rattle.fields.proofs.Numbers.{length-bytes_of, part-back}
use Rattle.fields.proofs.Parts.{length_part, length-put, part-add, put-behind, put-further, put-nil, put-put}
use Rattle.fields.specs.Numbers.{AreBytes, Bytes, bytes_of, nat_of}
use Rattle.fields.specs.Parts.{part, put}
use Rattle.rules.proofs.Ops.{one_byte, status-byte}
use Rattle.rules.proofs.Sending.{size-record}
use Rattle.rules.specs.Delta.{KeyValueOp, beside_texts, length_width, op_bytes, size_of, status_byte, text_bytes}
use Rattle.rules.specs.Layout.{decode_rec, rec_width, status_of_byte}
use Rattle.rules.specs.Sizes.{max_key, max_value}
use Rattle.table.specs.Tests.{key_length, value_length, version_of}

-- ---- a word more

pub none-copied : (at start : ℕ) (src l : Bytes) → l ≡ put at (part start 0 src) l
unfolding part
none-copied at start src l = sym (put-nil at l)

pub next_word : (at start i : ℕ) (src l s : Bytes) → AreBytes src → start + (i + 8) ≤ length src → at + (i + 8) ≤ length l → s ≡ put at (part start i src) l
    → put (at + i) (bytes_of 8 (nat_of (part (start + i) 8 src))) s ≡ put at (part start (i + 8) src) l
next_word at start i src l s b h g e =
    let first : Bytes = part start i src in
    let word : Bytes = part (start + i) 8 src in
    let long : length first ≡ i = length_part start i src (omega arith) in
    let eight : length word ≡ 8 = length_part (start + i) 8 src (omega arith) in
    (λ j. put (at + sym long j) (part-back (start + i) 8 src b (omega arith) j) (e j))
    ∙ put-behind at first word l (omega (arith, long, eight, g))
    ∙ ap (λ (v : Bytes). put at v l) (sym (part-add start i 8 src))

-- ---- put over something that is not longer

all-over : (ws zs : Bytes) → length zs ≤ length ws → put 0 ws zs ≡ ws
unfolding put
all-over ws zs h = ap (λ (r : Bytes). ws ++ r) (drop_of_length-le zs {i = 0 + length ws} (omega arith)) ∙ append-nil ws

put-over : (at : ℕ) (ws xs l : Bytes) → length xs ≤ length ws → at + length ws ≤ length l → put at ws (put at xs l) ≡ put at ws l
put-over at ws xs l h g =
    let more : Bytes = part (at + length xs) (length ws - length xs) l in
    let own : length more ≡ length ws - length xs = length_part (at + length xs) (length ws - length xs) l (omega arith) in
    let long = length-append xs more in
    ap (put at ws) (put-further at (length ws - length xs) xs l (omega arith))
    ∙ put-put at ws (xs ++ more) l (omega (arith, own, long, h)) (omega (arith, own, long, h, g))
    ∙ ap (λ (v : Bytes). put at v l) (all-over ws (xs ++ more) (omega (arith, own, long, h)))

-- right behind vs, over the xs that came with it
put-after : (at : ℕ) (vs xs ws l : Bytes) → length xs ≤ length ws → at + (length vs + length ws) ≤ length l
    → put (at + length vs) ws (put at (vs ++ xs) l) ≡ put at (vs ++ ws) l
put-after at vs xs ws l h g =
    let long : length (put at vs l) ≡ length l = length-put at vs l (omega arith) in
    ap (put (at + length vs) ws) (sym (put-behind at vs xs l (omega arith)))
    ∙ put-over (at + length vs) ws xs (put at vs l) h (omega (arith, long, g))
    ∙ put-behind at vs ws l g

-- ---- a text behind its length

pub behind-length : (at n : ℕ) (ys l : Bytes) → at + length_width + length ys ≤ length l
    → put (at + length_width) ys (put at (bytes_of length_width n) l) ≡ put at (bytes_of length_width n ++ ys) l
behind-length at n ys l h =
    let two = length-bytes_of length_width n in
    ap (λ (k : ℕ). put (at + k) ys (put at (bytes_of length_width n) l)) (sym two) ∙ put-behind at (bytes_of length_width n) ys l (omega (arith, two, h))

text-and-more : (at n r : ℕ) (b : Bytes) → n ≤ r → at + r ≤ length b → bytes_of length_width n ++ part at r b ≡ text_bytes (part at n b) ++ part (at + n) (r - n) b
unfolding text_bytes
text-and-more at n r b h g =
    let whole : r ≡ n + (r - n) = omega arith in
    let long : length (part at n b) ≡ n = length_part at n b (omega arith) in
    ap (λ (m : ℕ). bytes_of length_width n ++ part at m b) whole
    ∙ ap (λ (ys : Bytes). bytes_of length_width n ++ ys) (part-add at n (r - n) b)
    ∙ sym (append_assoc (bytes_of length_width n) (part at n b) (part (at + n) (r - n) b))
    ∙ ap (λ (m : ℕ). (bytes_of length_width m ++ part at n b) ++ part (at + n) (r - n) b) (sym long)

text-long : (s : Bytes) → length (text_bytes s) ≡ length_width + length s
unfolding text_bytes
text-long s = length-append (bytes_of length_width (length s)) s ∙ ap (λ (k : ℕ). k + length s) (length-bytes_of length_width (length s))

-- ---- the fields of a record, the texts with more than is wanted

-- five fields; x comes with the second and y with the third
module _ (T K x W y N S l a t u d e : Bytes) (small : length x ≤ length W + (length N + length S)) (little : length y ≤ length N)
    (room : length T + (length K + (length W + (length N + length S))) ≤ length l) where
  five-fields : a ≡ put 0 T l → t ≡ put (length T) (K ++ x) a → u ≡ put (length T + length K) (W ++ y) t → d ≡ put (length T + length K + length W) N u
      → e ≡ put (length T + length K + length W + length N) S d → e ≡ put 0 (T ++ (K ++ (W ++ (N ++ S)))) l
  five-fields p q r s w =
      let R : Bytes = W ++ (N ++ S) in
      let kx = length-append K x in
      let wn = length-append W N in
      let ns = length-append N S in
      let rest = length-append W (N ++ S) in
      let behind = length-append K R in
      let la : length a ≡ length l = ap length p ∙ length-put 0 T l (omega arith) in
      let lt : length t ≡ length l = ap length q ∙ length-put (length T) (K ++ x) a (omega (arith, kx, la, small, room)) ∙ la in
      let third : d ≡ put (length T + length K) (W ++ N) t =
      s ∙ ap (put (length T + length K + length W) N) r ∙ put-after (length T + length K) W y N t little (omega (arith, lt, room)) in
      let at : length T + length K + length W + length N ≡ length T + length K + length (W ++ N) = omega (arith, wn) in
      let fourth : e ≡ put (length T + length K) ((W ++ N) ++ S) t =
      w
      ∙ (λ i. put (at i) S (third i))
      ∙ put-behind (length T + length K) (W ++ N) S t (omega (arith, wn, lt, room)) in
      let fifth : e ≡ put (length T) (K ++ R) a =
      fourth
      ∙ ap (λ (v : Bytes). put (length T + length K) v t) (append_assoc W N S)
      ∙ ap (put (length T + length K) R) q
      ∙ put-after (length T) K x R a (omega (arith, rest, ns, small)) (omega (arith, rest, ns, la, room)) in
      fifth
      ∙ ap (put (length T) (K ++ R)) p
      ∙ ap (λ (n : ℕ). put n (K ++ R) (put 0 T l)) (sym (zero-add (length T)))
      ∙ put-behind 0 T (K ++ R) l (omega (arith, behind, rest, ns, room))

-- a record's bytes and its operation's
module _ (b : Bytes) (long : length b ≡ rec_width) (few : key_length b ≤ max_key) (low : value_length b ≤ max_value) where
  abbrev key : Bytes
  key = part 1 (key_length b) b

  abbrev value : Bytes
  value = part 34 (value_length b) b

  key-long : length key ≡ key_length b
  key-long = length_part 1 (key_length b) b (omega arith)

  value-long : length value ≡ value_length b
  value-long = length_part 34 (value_length b) b (omega arith)

  pub record-width : size_of (KeyValueOp (decode_rec b).kv) ≡ beside_texts + key_length b + value_length b
  unfolding decode_rec
  record-width = size-record (decode_rec b).kv ∙ (λ i. beside_texts + key-long i + value-long i)

  module _ (l a t u d e : Bytes) (m n : ℕ) (k-least : key_length b ≤ m) (k-most : m ≤ key_length b + 7) (v-least : value_length b ≤ n) (v-most : n ≤ value_length b + 7)
      (room : beside_texts + key_length b + value_length b ≤ length l) where
    pub record-fields : a ≡ put 0 (bytes_of 1 1) l → t ≡ put 1 (bytes_of length_width (key_length b) ++ part 1 m b) a
        → u ≡ put (3 + key_length b) (bytes_of length_width (value_length b) ++ part 34 n b) t → d ≡ put (3 + key_length b + 2 + value_length b) (bytes_of 8 (version_of b)) u
        → e ≡ put (3 + key_length b + 2 + value_length b + 8) (bytes_of 1 (status_byte (status_of_byte (nat_of (part 106 1 b))))) d
        → e ≡ put 0 (op_bytes (KeyValueOp (decode_rec b).kv)) l
    unfolding decode_rec op_bytes
    record-fields p q r s w =
        let T : Bytes = bytes_of 1 1 in
        let K : Bytes = text_bytes key in
        let x : Bytes = part (1 + key_length b) (m - key_length b) b in
        let W : Bytes = text_bytes value in
        let y : Bytes = part (34 + value_length b) (n - value_length b) b in
        let N : Bytes = bytes_of 8 (version_of b) in
        let st : ℕ = status_byte (status_of_byte (nat_of (part 106 1 b))) in
        let S : Bytes = bytes_of 1 st in
        let l_t : length T ≡ 1 = length-bytes_of 1 1 in
        let l_k : length K ≡ 2 + key_length b = text-long key ∙ ap (λ (k : ℕ). 2 + k) key-long in
        let lx : length x ≡ m - key_length b = length_part (1 + key_length b) (m - key_length b) b (omega arith) in
        let l_w : length W ≡ 2 + value_length b = text-long value ∙ ap (λ (k : ℕ). 2 + k) value-long in
        let ly : length y ≡ n - value_length b = length_part (34 + value_length b) (n - value_length b) b (omega arith) in
        let l_n : length N ≡ 8 = length-bytes_of 8 (version_of b) in
        let l_s : length S ≡ 1 = length-bytes_of 1 st in
        let one : 1 ≡ length T = sym l_t in
        let two : 3 + key_length b ≡ length T + length K = omega (arith, l_t, l_k) in
        let three : 3 + key_length b + 2 + value_length b ≡ length T + length K + length W = omega (arith, l_t, l_k, l_w) in
        let four : 3 + key_length b + 2 + value_length b + 8 ≡ length T + length K + length W + length N = omega (arith, l_t, l_k, l_w, l_n) in
        five-fields T K x W y N S l a t u d e (omega (arith, lx, l_w, l_n, l_s)) (omega (arith, ly, l_n)) (omega (arith, l_t, l_k, l_w, l_n, l_s, room)) p
        (q ∙ (λ i. put (one i) (text-and-more 1 (key_length b) m b k-least (omega arith) i) a))
        (r ∙ (λ i. put (two i) (text-and-more 34 (value_length b) n b v-least (omega arith) i) t))
        (s ∙ ap (λ (k : ℕ). put k N u) three)
        (w ∙ ap (λ (k : ℕ). put k S d) four)
        ∙ (λ i. put 0 (one_byte 1 (omega arith) i ++ (K ++ (W ++ (N ++ one_byte st (status-byte (status_of_byte (nat_of (part 106 1 b)))) i)))) l)
