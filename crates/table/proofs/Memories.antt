-- The memory in a tail's bytes: removed node i and its fields, for bytes of the right length with any contents; one more behind the last, and one less.
-- Assumes nothing.
use Prim.Native.Nat.{ℕ, suc, ◌+◌, ◌*◌, ◌-◌, ◌≤◌, ◌<◌}
use mathlib.Core.Path.{◌≡◌, refl, ap, sym, ◌∙◌, subst}
use mathlib.Core.Bool.{true}
use mathlib.Core.List.{List, [], ◌∷◌, ◌++◌}
use native.Mathlib.Omega.{arith}
use native.Mathlib.Nat.{sub_self}
use lib.ListN.{length, drop, drop_of_length-le}
use lib.Seq.{take_all}
use Rattle.fields.specs.Choice.{◌∈◌}
use Rattle.fields.specs.Numbers.{Bytes, nat_of, bytes_of}
use Rattle.fields.specs.Parts.{part, put}
use Rattle.fields.specs.Blocks.{zeros, unblock, insert_at, remove_at}
use Rattle.fields.specs.Widths.{offset}
use Rattle.fields.proofs.Parts.{part-part, part-drop, put-nil}
use Rattle.fields.proofs.Blocks.{unblock-drop, length-unblock}
use Rattle.rules.specs.Sizes.{max_removed}
use Rattle.rules.specs.Memory.{Memory, Removed, removed_obeys}
use Rattle.rules.specs.Whole.{decode_memory, decode_removed, decode_whole, encode_removed, encode_tail, removed_place, removed_width, removed_widths, tail_fields, tail_of, tail_width, tail_widths, valid_whole}
use Rattle.rules.specs.Profile.{Kind}
use Rattle.rules.proofs.Refusing.{whole-bytes}
use Rattle.rules.proofs.Memories.{whole-memory}
use Rattle.table.specs.Fits.{LaidTail}
use Rattle.table.specs.Tests.{removed_in}
use Rattle.table.proofs.Rows.{row-insert, row-remove}
use Rattle.table.proofs.Wholes.{length_removed, length-tail, removed-in, tail-memory, tail-kind, tail-widths, whole-obeys, whole-tail}

-- ---- at a place

-- the bytes of removed node i, and what is read in them
abbrev pub removed_at : (i : ℕ) (tail : Bytes) → Removed
removed_at i b = decode_removed (part (removed_place i) removed_width b)

pub length-memory : (b : List ℕ) → length (decode_memory b) ≡ removed_in b
unfolding decode_memory
length-memory b = length-unblock removed_width decode_removed (removed_in b) (drop (removed_place 0) b)

pub memory-drop : (i : ℕ) (b : List ℕ) → i < removed_in b → drop i (decode_memory b) ≡ removed_at i b ∷ drop (suc i) (decode_memory b)
unfolding decode_memory
memory-drop i b h =
    unblock-drop removed_width decode_removed i (removed_in b) (drop (removed_place 0) b) h
    ∙ ap (λ (r : List ℕ). decode_removed r ∷ drop (suc i) (unblock removed_width decode_removed (removed_in b) (drop (removed_place 0) b)))
    (part-drop (i * removed_width) removed_width (removed_place 0) b)

module _ (i : ℕ) (b : List ℕ) (e : length b ≡ tail_width) (h : i < max_removed) where
  pub removed-number : (removed_at i b).number ≡ nat_of (part (removed_place i + offset removed_widths 0) 8 b)
  unfolding decode_removed
  removed-number = ap nat_of (part-part 0 8 (removed_place i) removed_width b (omega arith) (omega arith))

  pub removed-beat : (removed_at i b).heartbeat.0 ≡ nat_of (part (removed_place i + offset removed_widths 1) 8 b)
  unfolding decode_removed
  removed-beat = ap nat_of (part-part 8 8 (removed_place i) removed_width b (omega arith) (omega arith))

-- ---- laid out

pub laid-tail : (m : Kind) (mem : Memory) → length mem ≤ max_removed → ((r : Removed) → r ∈ mem → removed_obeys r ≡ true) → LaidTail (encode_tail m mem)
laid-tail m mem few each =
    let back = tail-memory m mem few each in
    record {
      long = length-tail m mem;
      few = subst (λ (n : ℕ). n ≤ max_removed) (sym (removed-in m mem few)) few;
      fits = subst (λ (l : Memory). (r : Removed) → r ∈ l → removed_obeys r ≡ true) (sym back) each;
      is = λ z. encode_tail (tail-kind m mem z) (back z);
    }

-- the tail of a valid table is
pub tail-laid : (l : List ℕ) → valid_whole l ≡ true → LaidTail (tail_of l)
tail-laid l v =
    let w = decode_whole l in
    let k = whole-memory w (whole-obeys l v) in
    subst LaidTail (sym (whole-tail w) ∙ ap tail_of (whole-bytes l v)) (laid-tail w.kind w.memory k.few k.each)

-- ---- one more, one less

module _ (m : Kind) (mem : Memory) (few : length mem ≤ max_removed) where
  -- one more behind the last
  pub tail-append : (r : Removed) → length mem < max_removed
      → put (offset tail_widths 2) (bytes_of 1 (length mem + 1)) (put (removed_place (length mem)) (encode_removed r) (encode_tail m mem)) ≡ encode_tail m (mem ++ (r ∷ []))
  unfolding encode_tail insert_at part
  tail-append r h =
      let n : ℕ = length mem in
      let a : ℕ = removed_place n in
      let b : List ℕ = encode_tail m mem in
      let none : part a ((n - n) * removed_width) b ≡ [] = rw (sub_self n) refl in
      let same : put (a + removed_width) (part a ((n - n) * removed_width) b) b ≡ b = ap (λ (x : List ℕ). put (a + removed_width) x b) none ∙ put-nil (a + removed_width) b in
      let last : insert_at n r mem ≡ mem ++ (r ∷ []) =
      (λ z. take_all n mem (omega arith) z ++ (r ∷ drop_of_length-le mem {i = n} (omega arith) z)) in
      ap (λ (x : List ℕ). put (offset tail_widths 2) (bytes_of 1 (n + 1)) (put a (encode_removed r) x)) (sym same)
      ∙ row-insert encode_removed removed_width length_removed max_removed mem few tail_widths (tail_fields m mem) (tail-widths m mem) 2 (omega arith) refl refl refl n r (omega arith) h
      ∙ ap (encode_tail m) last

  -- the one at i less
  pub tail-remove : (i : ℕ) (d : Removed) → i < length mem
      → let l : List ℕ = encode_tail m mem in
      let n : ℕ = length mem in
      let k : ℕ = (n - suc i) * removed_width in
      put (offset tail_widths 2) (bytes_of 1 (n - 1)) (put (removed_place i + k) (zeros removed_width) (put (removed_place i) (part (removed_place i + removed_width) k l) l))
      ≡ encode_tail m (remove_at i mem)
  unfolding encode_tail
  tail-remove = row-remove encode_removed removed_width length_removed max_removed mem few tail_widths (tail_fields m mem) (tail-widths m mem) 2 (omega arith) refl refl refl
