-- The stores of each writer, one after the other, on plain lists: what the last of them leaves is the changed node or table. Assumes nothing.
use Prim.Native.Nat.{ℕ, suc, ◌+◌, ◌*◌, ◌-◌, ◌≤◌, ◌<◌}
use mathlib.Core.Path.{◌≡◌, ap, ap₂, sym, ◌∙◌}
use mathlib.Core.List.{List, ◌++◌, append-nil, append_assoc}
use native.Mathlib.Omega.{arith}
use native.Mathlib.Nat.{zero-add}
use native.Mathlib.Numerals.{add-one}
use lib.ListN.{length, drop, length-append, drop_of_length-le}
use Rattle.fields.specs.Numbers.{bytes_of}
use Rattle.fields.specs.Parts.{part, put}
use Rattle.fields.specs.Blocks.{zeros, fit}
use Rattle.fields.specs.Widths.{joined, offset}
use Rattle.fields.proofs.Numbers.{length-bytes_of}
use Rattle.fields.proofs.Parts.{put-put, put-behind, put-further, length-put}
use Rattle.fields.proofs.Blocks.{length-zeros, zeros-add, drop-zeros, length-fit, fit-pad}
use Rattle.rules.specs.Sizes.{max_records, max_key, max_value}
use Rattle.rules.specs.Node.{Rec, fresh_header}
use Rattle.rules.specs.Delta.{status_byte}
use Rattle.rules.specs.Layout.{rec_place, rec_widths, rec_width, node_widths, node_width, encode_rec, encode_node, decode_node}
use Rattle.rules.specs.declared.Header.{Header}
use Rattle.rules.specs.declared.Status.{Status}
use Rattle.table.specs.Tests.{count_of}
use Rattle.table.specs.Fits.{LaidNode}
use Rattle.table.specs.Changes.{with_rec_at, with_new_rec, fresh_entry, rec_of}
use Rattle.table.proofs.Laid.{laid-rest}
use Rattle.table.proofs.Places.{length-recs}
use Rattle.table_write.specs.Rows.{blocks_in, block_place, behind_block, less_block, without_block}
use Rattle.table.proofs.Changed.{node-rec-set, node-rec-insert, fresh-bytes, put-beat, put-max, put-gc}

-- ---- a text in its room

put-zeros : (room : ℕ) (text : List ℕ) → length text ≤ room → put 0 text (zeros room) ≡ fit room text
unfolding put
put-zeros room text h =
    ap (λ (k : ℕ). text ++ drop k (zeros room)) (zero-add (length text))
    ∙ ap (λ (r : List ℕ). text ++ r) (drop-zeros (length text) room h)
    ∙ sym (fit-pad room text h)

pub text-steps : (l s1 s2 s3 text : List ℕ) (at room : ℕ) → length text ≤ room → at + 1 + room ≤ length l
    → s1 ≡ put at (bytes_of 1 (length text)) l → s2 ≡ put (at + 1) (zeros room) s1 → s3 ≡ put (at + 1) text s2
    → s3 ≡ put at (bytes_of 1 (length text) ++ fit room text) l
text-steps l s1 s2 s3 text at room h g e1 e2 e3 =
    let b : List ℕ = bytes_of 1 (length text) in
    let bl : length b ≡ 1 = length-bytes_of 1 (length text) in
    let long : length s1 ≡ length l = ap length e1 ∙ length-put at b l (rw bl (omega arith)) in
    e3
    ∙ ap (put (at + 1) text) e2
    ∙ put-put (at + 1) text (zeros room) s1 (rw length-zeros h) (rw length-zeros (omega arith))
    ∙ ap₂ (λ (v s : List ℕ). put (at + 1) v s) (put-zeros room text h) e1
    ∙ ap (λ (k : ℕ). put (at + k) (fit room text) (put at b l)) (sym bl)
    ∙ put-behind at b (fit room text) l (rw (bl, length-fit) (omega arith))

-- ---- a record

-- one more store right behind what is stored from the start
behind : (at n : ℕ) (vs ws l s t : List ℕ) → s ≡ put 0 vs l → length vs ≡ at → length ws ≡ n → at + n ≤ length l → t ≡ put at ws s → t ≡ put 0 (vs ++ ws) l
behind at n vs ws l s t e p q h f =
    f
    ∙ ap (put at ws) e
    ∙ ap (λ (k : ℕ). put k ws (put 0 vs l)) (sym p ∙ sym (zero-add (length vs)))
    ∙ put-behind 0 vs ws l (rw (p, q) (omega arith))

put_whole : (vs l : List ℕ) → length vs ≡ length l → put 0 vs l ≡ vs
unfolding put
put_whole vs l e = ap (λ (r : List ℕ). vs ++ r) (drop_of_length-le l {i = 0 + length vs} (omega arith)) ∙ append-nil vs

-- where field i of a record begins
abbrev place : ℕ → ℕ
place i = offset rec_widths i

pub record-steps : (l s1 s2 s3 s4 s5 k v : List ℕ) (n code start : ℕ) (s : Status) → length l ≡ rec_width → code ≡ status_byte s
    → s1 ≡ put (place 0) (bytes_of 1 (length k) ++ fit max_key k) l → s2 ≡ put (place 2) (bytes_of 1 (length v) ++ fit max_value v) s1 → s3 ≡ put (place 4) (bytes_of 8 n) s2
    → s4 ≡ put (place 5) (bytes_of 1 code) s3 → s5 ≡ put (place 6) (bytes_of 8 start) s4 → s5 ≡ encode_rec (rec_of k v n s start)
unfolding encode_rec joined
record-steps l s1 s2 s3 s4 s5 k v n code start s e c e1 e2 e3 e4 e5 =
    let a : List ℕ = bytes_of 1 (length k) ++ fit max_key k in
    let b : List ℕ = bytes_of 1 (length v) ++ fit max_value v in
    let al : length a ≡ place 2 = simp (length-append, length-bytes_of, length-fit) in
    let bl : length b ≡ 1 + max_value = simp (length-append, length-bytes_of, length-fit) in
    let w1 : List ℕ = a ++ b in
    let w1l : length w1 ≡ place 4 = length-append a b ∙ rw (al, bl) in
    let w2 : List ℕ = w1 ++ bytes_of 8 n in
    let w2l : length w2 ≡ place 5 = length-append w1 (bytes_of 8 n) ∙ rw (w1l, length-bytes_of 8 n) in
    let w3 : List ℕ = w2 ++ bytes_of 1 code in
    let w3l : length w3 ≡ place 6 = length-append w2 (bytes_of 1 code) ∙ rw (w2l, length-bytes_of 1 code) in
    let w4 : List ℕ = w3 ++ bytes_of 8 start in
    let w4l : length w4 ≡ rec_width = length-append w3 (bytes_of 8 start) ∙ rw (w3l, length-bytes_of 8 start) in
    let p2 = behind (place 2) (1 + max_value) a b l s1 s2 e1 al bl (omega arith) e2 in
    let p3 = behind (place 4) 8 w1 (bytes_of 8 n) l s2 s3 p2 w1l (length-bytes_of 8 n) (omega arith) e3 in
    let p4 = behind (place 5) 1 w2 (bytes_of 1 code) l s3 s4 p3 w2l (length-bytes_of 1 code) (omega arith) e4 in
    let p5 = behind (place 6) 8 w3 (bytes_of 8 start) l s4 s5 p4 w3l (length-bytes_of 8 start) (omega arith) e5 in
    p5 ∙ put_whole w4 l (w4l ∙ sym e) ∙ ap (λ (x : ℕ). w2 ++ bytes_of 1 x ++ bytes_of 8 start) c ∙ simp (encode_rec, joined, append_assoc, append-nil)

-- ---- a block that goes from a row

-- the blocks behind it end where the row ends
pub row-end : (at w i n : ℕ) → i < n → block_place at w i + w + behind_block w i n ≡ block_place at w n
row-end at w i n h =
    let e : i + 1 + (n - (i + 1)) ≡ n = omega arith in
    more (n - (i + 1)) ∙ ap (block_place at w) e
  where
    more : (k : ℕ) → at + 1 + i * w + w + k * w ≡ at + 1 + (i + 1 + k) * w
    more k = omega arith

pub gone-steps : (l s1 s2 s3 : List ℕ) (at w i n : ℕ) → n ≡ blocks_in at l
    → s1 ≡ put (block_place at w i) (part (block_place at w i + w) (behind_block w i n) l) l → s2 ≡ put (block_place at w i + behind_block w i n) (zeros w) s1
    → s3 ≡ put at (bytes_of 1 (n - 1)) s2 → s3 ≡ without_block at w i l
gone-steps l s1 s2 s3 at w i n en e1 e2 e3 =
    e3
    ∙ ap (put at (bytes_of 1 (n - 1))) (e2 ∙ ap (put (block_place at w i + behind_block w i n) (zeros w)) e1)
    ∙ ap (λ (k : ℕ). less_block at w i k l) en

-- as the laws of a node and of a table have it
pub less-suc : (at w i n : ℕ) (l : List ℕ)
    → let a : ℕ = block_place at w i in
    let m : ℕ = (n - suc i) * w in
    less_block at w i n l ≡ put at (bytes_of 1 (n - 1)) (put (a + m) (zeros w) (put a (part (a + w) m l) l))
less-suc at w i n l =
    let a : ℕ = block_place at w i in
    ap (λ (q : ℕ). put at (bytes_of 1 (n - 1)) (put (a + (n - q) * w) (zeros w) (put a (part (a + w) ((n - q) * w) l) l))) (add-one i)

-- ---- the records of a node

module _ (b : List ℕ) (o : LaidNode b) (j : ℕ) (r : Rec) where
  pub put-steps : (s : List ℕ) → j < count_of b → s ≡ put (rec_place j) (encode_rec r) b → s ≡ encode_node (with_rec_at j r (decode_node b))
  put-steps s h e =
      e ∙ ap (put (rec_place j) (encode_rec r)) (sym o.is) ∙ node-rec-set (decode_node b) o.fits.few j r (rw length-recs h)

  pub insert-steps : (s1 s2 s3 : List ℕ) (n : ℕ) → n ≡ count_of b → j ≤ count_of b → count_of b < max_records
      → s1 ≡ put (rec_place j + rec_width) (part (rec_place j) ((n - j) * rec_width) b) b → s2 ≡ put (rec_place j) (encode_rec r) s1 → s3 ≡ put (offset node_widths 4) (bytes_of 1 (n + 1)) s2
      → s3 ≡ encode_node (with_new_rec j r (decode_node b))
  insert-steps s1 s2 s3 n en h g e1 e2 e3 =
      let f : ℕ → List ℕ → List ℕ = λ m l. put (offset node_widths 4) (bytes_of 1 (m + 1)) (put (rec_place j) (encode_rec r) (put (rec_place j + rec_width) (part (rec_place j) ((m - j) * rec_width) l) l)) in
      let all : s3 ≡ f n b = e3 ∙ ap (put (offset node_widths 4) (bytes_of 1 (n + 1))) (e2 ∙ ap (put (rec_place j) (encode_rec r)) e1) in
      all
      ∙ ap₂ f (en ∙ sym (length-recs b)) (sym o.is)
      ∙ node-rec-insert (decode_node b) o.fits.few j r (rw length-recs h) (rw length-recs g)

-- ---- a fresh node

-- the three numbers of a header, stored in a node's bytes
abbrev put-header : Header → List ℕ → List ℕ
put-header h l =
    put (offset node_widths 3) (bytes_of 8 h.last_gc) (put (offset node_widths 2) (bytes_of 8 h.max) (put (offset node_widths 1) (bytes_of 8 h.heartbeat.0) l))

-- the bytes in use become zeros, and zeros stand behind them
pub cleared-steps : (b s : List ℕ) → LaidNode b → (n : ℕ) → n ≡ rec_place (count_of b) → s ≡ put 0 (zeros n) b → s ≡ zeros node_width
cleared-steps b s o n en e =
    let q : ℕ = node_width - rec_place (count_of b) in
    let z : List ℕ = zeros (rec_place (count_of b)) in
    let zl : length z ≡ rec_place (count_of b) = length-zeros (rec_place (count_of b)) in
    e
    ∙ ap (λ (k : ℕ). put 0 (zeros k) b) en
    ∙ put-further 0 q z b (rw zl (omega (arith, o.few, o.long)))
    ∙ ap (λ (k : ℕ). put 0 (z ++ part k q b) b) (zero-add (length z) ∙ zl)
    ∙ ap (λ (r : List ℕ). put 0 (z ++ r) b) (laid-rest b o)
    ∙ ap (λ (r : List ℕ). put 0 r b) (zeros-add (rec_place (count_of b)) q ∙ ap zeros (omega (arith, o.few)))
    ∙ put_whole (zeros node_width) b (length-zeros node_width ∙ sym o.long)

-- zeros, the number, and the header that `Header::new` gives
pub fresh-steps : (s1 s2 s3 s4 s5 : List ℕ) (k : ℕ) (h : Header) → h ≡ fresh_header → s1 ≡ zeros node_width
    → s2 ≡ put (offset node_widths 0) (bytes_of 8 k) s1 → s3 ≡ put (offset node_widths 1) (bytes_of 8 h.heartbeat.0) s2
    → s4 ≡ put (offset node_widths 2) (bytes_of 8 h.max) s3 → s5 ≡ put (offset node_widths 3) (bytes_of 8 h.last_gc) s4 → s5 ≡ encode_node (fresh_entry k)
fresh-steps s1 s2 s3 s4 s5 k h new e1 e2 e3 e4 e5 =
    let named : s2 ≡ encode_node (fresh_entry k) = e2 ∙ ap (put (offset node_widths 0) (bytes_of 8 k)) e1 ∙ fresh-bytes k in
    e5
    ∙ ap (put (offset node_widths 3) (bytes_of 8 h.last_gc)) (e4 ∙ ap (put (offset node_widths 2) (bytes_of 8 h.max)) e3)
    ∙ ap₂ put-header new named
    ∙ ap (λ (l : List ℕ). put (offset node_widths 3) (bytes_of 8 0) (put (offset node_widths 2) (bytes_of 8 0) l)) (put-beat (fresh_entry k) 0)
    ∙ ap (put (offset node_widths 3) (bytes_of 8 0)) (put-max (fresh_entry k) 0)
    ∙ put-gc (fresh_entry k) 0
