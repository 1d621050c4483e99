-- The whole of a lent table, area and tail, and back: a whole that obeys and its bytes determine each other (`decode-encode-whole`,
-- `encode-decode-whole`), the area of a valid whole is valid, what is put over the area leaves the tail (`area-changed`), and the tests of the bytes come
-- to `valid_whole` (`whole_is`). Assumes nothing.
use Prim.Native.Nat.{ℕ, zero, suc, ◌+◌, ◌*◌, ◌-◌, ◌≤◌, ◌<◌}
use mathlib.Core.Path.{◌≡◌, refl, ap, ap₂, sym, ◌∙◌}
use mathlib.Core.Bool.{Bool, true, false, ◌&&◌}
use mathlib.Core.List.{List, [], ◌∷◌, append-nil}
use native.Mathlib.Omega.{arith}
use lib.ListN.{length, drop, get_or, length-drop}
use lib.Seq.{take_all}
use lib.Dec.{eqb, leb, ltb}
use borrow.Author.Tests.{leb-true, le-leb, ltb-true, lt-ltb, eqb-true, eq-eqb}
use Rattle.fields.specs.Choice.{all, ◌∈◌}
use Rattle.fields.specs.Numbers.{AreBytes, nat_of, bytes_of}
use Rattle.fields.specs.Order.{same_bytes}
use Rattle.fields.specs.Parts.{part, put}
use Rattle.fields.specs.Blocks.{zeros, all_zero, flat, blocks, unblock}
use Rattle.fields.specs.Widths.{Widths, joined, offset}
use Rattle.fields.proofs.Choice.{every-at, same_test, and_left, and_right, and_intro, all_in, at_in}
use Rattle.fields.proofs.Numbers.{length-bytes_of, nat-bytes, nat-part, part-back, bytes-part, bytes_drop}
use Rattle.fields.proofs.Parts.{length_part, part-drop}
use Rattle.fields.proofs.Lent.{seen_first}
use Rattle.fields.proofs.Blocks.{zeros-add, bytes-zero, fit-zeros, blocks_is, blocks-read, blocks-back, length-blocks, length-flat, length-unblock, unblock-at}
use Rattle.fields.proofs.Widths.{field, field_put, field-set, length-joined, joined-whole}
use Rattle.fields.proofs.Ordered.{same_self}
use Rattle.rules.specs.Answers.{mode_of, profile_of}
use Rattle.rules.specs.Sizes.{max_removed, numbers}
use Rattle.rules.specs.Node.{beats}
use Rattle.rules.specs.Table.{Table, differ, numbers_of, obeys}
use Rattle.rules.specs.Memory.{Memory, Removed, apart, memory_obeys, removed, removed_numbers, removed_obeys}
use Rattle.rules.specs.Layout.{table_width, encode, decode, valid}
use Rattle.rules.specs.Profile.{Kind, kind, profile_obeys}
use Rattle.rules.specs.Whole.{Whole, with_table, with_memory, obeys_whole, mode_of_byte, profile_of_byte, removed_widths, removed_width, removed_place, removed_fields, encode_removed, decode_removed, tail_widths, tail_width, tail_fields, encode_tail, decode_tail, decode_memory, whole_widths, whole_width, whole_fields, area_of, tail_of, encode_whole, decode_whole, valid_whole}
use Rattle.rules.specs.declared.Mode.{Mode}
use Rattle.rules.specs.declared.Mode.TheVariants.{Plain, Fenced, Guarded}
use Rattle.rules.specs.declared.Profile.{Profile}
use Rattle.rules.specs.declared.Profile.TheVariants.{Free, Meter, Shared}
use Rattle.rules.proofs.Refusing.{whole-bytes}
use Rattle.rules.proofs.Memories.{OkMemory, facts-memory, no-memory, whole-memory, whole-profile, whole-table}
use Rattle.table.specs.Tests.{mode_in, profile_in, removed_in, tail_tests, tail_good, whole_good}
use Rattle.table.proofs.Tables.{length-table, decode-encode, valid-encode, valid-obeys, encode-decode}

-- ---- the rules of the memory

pub memory-apart : (held : List ℕ) (mem : Memory) → memory_obeys held mem ≡ true → apart held (removed_numbers mem) ≡ true
unfolding memory_obeys
memory-apart held mem e =
    every-at (leb (length mem) max_removed ∷ differ (removed_numbers mem) ∷ apart held (removed_numbers mem) ∷ all removed_obeys mem ∷ []) e 2

memory-of : (held : List ℕ) (mem : Memory) → length mem ≤ max_removed → differ (removed_numbers mem) ≡ true → apart held (removed_numbers mem) ≡ true
    → all removed_obeys mem ≡ true → memory_obeys held mem ≡ true
unfolding memory_obeys
memory-of held mem few d a o = rw (memory_obeys, le-leb (length mem) max_removed few, d, a, o)

-- the room for removed nodes is what stands behind their count
room-is : (b : List ℕ) → length b ≡ tail_width → drop (removed_place 0) b ≡ part (removed_place 0) (max_removed * removed_width) b
unfolding part
room-is b e = sym (take_all (max_removed * removed_width) (drop (removed_place 0) b) (rw length-drop (omega arith)))

-- ---- a removed node

removed-widths : (r : Removed) → Widths removed_widths (removed_fields r)
removed-widths r = (length-bytes_of 8 _, (length-bytes_of 8 _, tt))

pub length_removed : (r : Removed) → length (encode_removed r) ≡ removed_width
unfolding encode_removed
length_removed r = length-joined removed_widths (removed_fields r) (removed-widths r)

-- it is read again
removed-back : (r : Removed) → removed_obeys r ≡ true → decode_removed (encode_removed r) ≡ r
unfolding decode_removed encode_removed removed_obeys
removed-back r o =
    ap₂ (λ (i h : ℕ). removed i (beats h))
    (ap nat_of (field removed_widths (removed_fields r) (removed-widths r) 0 (omega arith)) ∙ nat-bytes 8 r.number (ltb-true r.number numbers (and_left _ (ltb r.heartbeat.0 numbers) o)))
    (ap nat_of (field removed_widths (removed_fields r) (removed-widths r) 1 (omega arith)) ∙ nat-bytes 8 r.heartbeat.0 (ltb-true r.heartbeat.0 numbers (and_right (ltb r.number numbers) _ o)))

-- 16 bytes are one
removed-is : (b : List ℕ) → AreBytes b → length b ≡ removed_width → (encode_removed (decode_removed b) ≡ b) × (removed_obeys (decode_removed b) ≡ true)
unfolding decode_removed encode_removed removed_obeys
removed-is b h e = (
  ap₂ (λ (x y : List ℕ). joined (x ∷ y ∷ [])) (part-back 0 8 b h (omega (arith, e))) (part-back 8 8 b h (omega (arith, e))) ∙ joined-whole removed_widths b e,
  and_intro (ltb (nat_of (part 0 8 b)) numbers) (ltb (nat_of (part 8 8 b)) numbers) (lt-ltb _ numbers (nat-part 0 8 b h (omega (arith, e)))) (lt-ltb _ numbers (nat-part 8 8 b h (omega (arith, e)))),
)

-- ---- the tail

module _ (m : Kind) (mem : Memory) where
  pub tail-widths : Widths tail_widths (tail_fields m mem)
  tail-widths =
      (length-bytes_of 1 _, (length-bytes_of 1 _, (length-bytes_of 1 _, (length-blocks encode_removed removed_width length_removed max_removed mem, tt))))

  pub length-tail : length (encode_tail m mem) ≡ tail_width
  unfolding encode_tail
  length-tail = length-joined tail_widths (tail_fields m mem) tail-widths

  tail-field : (k : ℕ) → k < 4 → part (offset tail_widths k) (get_or tail_widths k 0) (encode_tail m mem) ≡ get_or (tail_fields m mem) k []
  unfolding encode_tail
  tail-field k h = field tail_widths (tail_fields m mem) tail-widths k h

  -- its mode is read again
  mode-in : mode_in (encode_tail m mem) ≡ mode_of m.mode
  mode-in = ap nat_of (tail-field 0 (omega arith)) ∙ nat-bytes 1 (mode_of m.mode) (small m.mode)
    where
      small : (m : Mode) → mode_of m < 256
      small Plain = omega arith
      small Fenced = omega arith
      small Guarded = omega arith

  -- and its profile
  profile-in : profile_in (encode_tail m mem) ≡ profile_of m.profile
  profile-in = ap nat_of (tail-field 1 (omega arith)) ∙ nat-bytes 1 (profile_of m.profile) (small m.profile)
    where
      small : (p : Profile) → profile_of p < 256
      small Free = omega arith
      small Meter = omega arith
      small Shared = omega arith

  pub tail-kind : decode_tail (encode_tail m mem) ≡ m
  tail-kind = ap₂ kind (ap mode_of_byte mode-in ∙ back m.mode) (ap profile_of_byte profile-in ∙ again m.profile)
    where
      back : (m : Mode) → mode_of_byte (mode_of m) ≡ m
      back Plain = refl
      back Fenced = refl
      back Guarded = refl

      again : (p : Profile) → profile_of_byte (profile_of p) ≡ p
      again Free = refl
      again Meter = refl
      again Shared = refl

  module _ (few : length mem ≤ max_removed) where
    pub removed-in : removed_in (encode_tail m mem) ≡ length mem
    removed-in = ap nat_of (tail-field 2 (omega arith)) ∙ nat-bytes 1 (length mem) (omega arith)

    -- and so is its memory
    pub tail-memory : ((r : Removed) → r ∈ mem → removed_obeys r ≡ true) → decode_memory (encode_tail m mem) ≡ mem
    unfolding decode_memory
    tail-memory each =
        ap (λ (k : ℕ). unblock removed_width decode_removed k (drop (removed_place 0) (encode_tail m mem))) removed-in
        ∙ ap (unblock removed_width decode_removed (length mem)) (room-is (encode_tail m mem) length-tail ∙ tail-field 3 (omega arith))
        ∙ blocks-read encode_removed decode_removed removed_width length_removed max_removed mem few (λ r n. removed-back r (each r n))

    tail-free : all_zero (part (removed_place (length mem)) ((max_removed - length mem) * removed_width) (encode_tail m mem)) ≡ true
    unfolding blocks
    tail-free =
        let n : ℕ = length mem in
        let fl : length (flat encode_removed mem) ≡ n * removed_width = length-flat encode_removed removed_width length_removed mem in
        let rest : max_removed * removed_width - n * removed_width ≡ (max_removed - n) * removed_width = omega arith in
        rw (fl, rest) at
        (fit-zeros (max_removed * removed_width) 3 (flat encode_removed mem) (encode_tail m mem) (rw fl (omega arith)) (tail-field 3 (omega arith)) (rw length-tail (omega arith)))

  -- beside these nodes it is good
  tail-good : (held : List ℕ) → OkMemory held mem → tail_good held (encode_tail m mem) ≡ true
  unfolding tail_good
  tail-good held o =
      let back = tail-memory o.few o.each in
      let none-held : apart held (removed_numbers mem) ≡ true = memory-apart held mem (facts-memory held mem o) in
      rw (tail_good, mode-in, modes m.mode, profile-in, profiles m.profile, removed-in o.few, le-leb (length mem) max_removed o.few, tail-free o.few, back, o.differs, none-held)
    where
      modes : (m : Mode) → leb (mode_of m) 2 ≡ true
      modes Plain = refl
      modes Fenced = refl
      modes Guarded = refl

      profiles : (p : Profile) → leb (profile_of p) 2 ≡ true
      profiles Free = refl
      profiles Meter = refl
      profiles Shared = refl

-- a number that stands for a mode
mode-back : (n : ℕ) → n ≤ 2 → mode_of (mode_of_byte n) ≡ n
mode-back zero h = refl
mode-back (suc zero) h = refl
mode-back (suc (suc zero)) h = refl
mode-back (suc (suc (suc n))) h = absurd (omega arith)

-- and one that stands for a profile
profile-back : (n : ℕ) → n ≤ 2 → profile_of (profile_of_byte n) ≡ n
profile-back zero h = refl
profile-back (suc zero) h = refl
profile-back (suc (suc zero)) h = refl
profile-back (suc (suc (suc n))) h = absurd (omega arith)

-- ---- the whole

whole-widths : (w : Whole) → Widths whole_widths (whole_fields w)
whole-widths w = (length-table w.table, (length-tail w.kind w.memory, tt))

pub length_whole : (w : Whole) → length (encode_whole w) ≡ whole_width
unfolding encode_whole
length_whole w = length-joined whole_widths (whole_fields w) (whole-widths w)

pub whole-area : (w : Whole) → area_of (encode_whole w) ≡ encode w.table
unfolding encode_whole
whole-area w = seen_first table_width (encode_whole w) ∙ field whole_widths (whole_fields w) (whole-widths w) 0 (omega arith)

pub whole-tail : (w : Whole) → tail_of (encode_whole w) ≡ encode_tail w.kind w.memory
unfolding encode_whole
whole-tail w = field whole_widths (whole_fields w) (whole-widths w) 1 (omega arith)

-- what is put over the area leaves the tail
pub area-put : (t : Table) (w : Whole) → put 0 (encode t) (encode_whole w) ≡ encode_whole (with_table t w)
unfolding encode_whole
area-put t w = field-set whole_widths (whole_fields w) (whole-widths w) 0 (encode t) (omega arith) (length-table t)

-- and what is put over the mode leaves all else
pub mode-put : (m : Mode) (w : Whole)
    → put table_width (bytes_of 1 (mode_of m)) (encode_whole w) ≡ encode_whole (record { kind = kind m w.kind.profile; memory = w.memory; table = w.table })
unfolding encode_whole encode_tail
mode-put m w =
    field_put whole_widths (whole_fields w) (whole-widths w) 1 0 (bytes_of 1 (mode_of m)) (omega arith) (rw length-bytes_of (omega arith))
    ∙ ap (λ (b : List ℕ). joined (encode w.table ∷ b ∷ []))
    (field-set tail_widths (tail_fields w.kind w.memory) (tail-widths w.kind w.memory) 0 (bytes_of 1 (mode_of m)) (omega arith) (length-bytes_of 1 (mode_of m)))

-- or over the profile
pub profile-put : (p : Profile) (w : Whole)
    → put (table_width + 1) (bytes_of 1 (profile_of p)) (encode_whole w) ≡ encode_whole (record { kind = kind w.kind.mode p; memory = w.memory; table = w.table })
unfolding encode_whole encode_tail
profile-put p w =
    field_put whole_widths (whole_fields w) (whole-widths w) 1 1 (bytes_of 1 (profile_of p)) (omega arith) (rw length-bytes_of (omega arith))
    ∙ ap (λ (b : List ℕ). joined (encode w.table ∷ b ∷ []))
    (field-set tail_widths (tail_fields w.kind w.memory) (tail-widths w.kind w.memory) 1 (bytes_of 1 (profile_of p)) (omega arith) (length-bytes_of 1 (profile_of p)))

-- and what is put over the tail leaves the area
pub tail-put : (mem : Memory) (w : Whole) → put table_width (encode_tail w.kind mem) (encode_whole w) ≡ encode_whole (with_memory mem w)
unfolding encode_whole
tail-put mem w = field-set whole_widths (whole_fields w) (whole-widths w) 1 (encode_tail w.kind mem) (omega arith) (length-tail w.kind mem)

-- a plain tail without a memory is zeros
no-removed : blocks max_removed removed_width encode_removed [] ≡ zeros (max_removed * removed_width)
unfolding flat
no-removed = blocks_is encode_removed removed_width length_removed max_removed max_removed [] refl

pub plain-tail : encode_tail (kind Plain Free) [] ≡ zeros tail_width
unfolding encode_tail joined
plain-tail = rw (encode_tail, joined, no-removed, bytes-zero 1, append-nil) (simp zeros-add)

module _ (w : Whole) (o : obeys_whole w ≡ true) where
  -- a whole that obeys is read again from its bytes
  pub decode-encode-whole : decode_whole (encode_whole w) ≡ w
  decode-encode-whole =
      let k = whole-memory w o in
      let m = ap decode_tail (whole-tail w) ∙ tail-kind w.kind w.memory in
      let mem = ap decode_memory (whole-tail w) ∙ tail-memory w.kind w.memory k.few k.each in
      let t = ap decode (whole-area w) ∙ decode-encode w.table (whole-table w o) in
      λ z. record { kind = m z; memory = mem z; table = t z }

  -- and they are valid
  pub valid-encode-whole : valid_whole (encode_whole w) ≡ true
  unfolding valid_whole
  valid-encode-whole =
      and_intro (obeys_whole (decode_whole (encode_whole w))) (same_bytes (encode_whole (decode_whole (encode_whole w))) (encode_whole w))
      (ap obeys_whole decode-encode-whole ∙ o)
      (ap (λ (u : Whole). same_bytes (encode_whole u) (encode_whole w)) decode-encode-whole ∙ same_self (encode_whole w))

-- one that remembers nothing obeys where its table does
pub without-memory : (k : Kind) (t : Table) → obeys t ≡ true → profile_obeys k.profile t ≡ true → obeys_whole (record { kind = k; memory = []; table = t }) ≡ true
unfolding obeys_whole
without-memory k t o f =
    and_intro (obeys t) (memory_obeys (numbers_of t) [] && profile_obeys k.profile t) o
    (and_intro (memory_obeys (numbers_of t) []) (profile_obeys k.profile t) (no-memory (numbers_of t)) f)

-- ---- valid bytes

module _ (l : List ℕ) (v : valid_whole l ≡ true) where
  pub whole-obeys : obeys_whole (decode_whole l) ≡ true
  unfolding valid_whole
  whole-obeys = and_left (obeys_whole (decode_whole l)) (same_bytes (encode_whole (decode_whole l)) l) v

  pub whole_long : length l ≡ whole_width
  whole_long = ap length (sym (whole-bytes l v)) ∙ length_whole (decode_whole l)

  -- their area is valid
  pub area-valid : valid (area_of l) ≡ true
  area-valid = ap (λ (x : List ℕ). valid (area_of x)) (sym (whole-bytes l v)) ∙ ap valid (whole-area (decode_whole l)) ∙ valid-encode (decode_whole l).table (whole-table (decode_whole l) whole-obeys)

  -- their records are in form
  pub area-formed : profile_obeys (decode_whole l).kind.profile (decode (area_of l)) ≡ true
  area-formed = whole-profile (decode_whole l) whole-obeys

  -- other nodes in them: what the area becomes, and the tail stays
  pub area-changed : (t : Table) → put 0 (encode t) l ≡ encode_whole (with_table t (decode_whole l))
  area-changed t = ap (put 0 (encode t)) (sym (whole-bytes l v)) ∙ area-put t (decode_whole l)

-- ---- the tests

-- a tail that passes them is that of its kind and its memory
module _ (held b : List ℕ) (h : AreBytes b) (e : length b ≡ tail_width) (g : tail_good held b ≡ true) where
  at : (k : ℕ) → get_or (tail_tests held b) k true ≡ true
  unfolding tail_good
  at = every-at (tail_tests held b) g

  few-in : removed_in b ≤ max_removed
  few-in = leb-true _ _ (at 2)

  abbrev room : List ℕ
  room = drop (removed_place 0) b

  room-long : length room ≡ max_removed * removed_width
  room-long = rw (length-drop, e) refl

  block-is : (i : ℕ) → i < removed_in b → (encode_removed (decode_removed (part (i * removed_width) removed_width room)) ≡ part (i * removed_width) removed_width room) × (removed_obeys (decode_removed (part (i * removed_width) removed_width room)) ≡ true)
  block-is i l =
      removed-is (part (i * removed_width) removed_width room) (bytes-part (i * removed_width) removed_width room (bytes_drop (removed_place 0) b h))
      (length_part (i * removed_width) removed_width room (omega (arith, few-in, room-long)))

  tail-back : encode_tail (decode_tail b) (decode_memory b) ≡ b
  unfolding encode_tail decode_memory
  tail-back =
      let n : ℕ = removed_in b in
      let mode : bytes_of 1 (mode_of (decode_tail b).mode) ≡ part 0 1 b =
      ap (bytes_of 1) (mode-back (mode_in b) (leb-true _ _ (at 0))) ∙ part-back 0 1 b h (omega (arith, e)) in
      let profile : bytes_of 1 (profile_of (decode_tail b).profile) ≡ part 1 1 b =
      ap (bytes_of 1) (profile-back (profile_in b) (leb-true _ _ (at 1))) ∙ part-back 1 1 b h (omega (arith, e)) in
      let count : bytes_of 1 (length (unblock removed_width decode_removed n room)) ≡ part 2 1 b =
      ap (bytes_of 1) (length-unblock removed_width decode_removed n room) ∙ part-back 2 1 b h (omega (arith, e)) in
      let free : all_zero (part (n * removed_width) ((max_removed - n) * removed_width) room) ≡ true =
      ap all_zero (part-drop (n * removed_width) ((max_removed - n) * removed_width) 3 b) ∙ at 3 in
      let row : blocks max_removed removed_width encode_removed (unblock removed_width decode_removed n room) ≡ part 3 (max_removed * removed_width) b =
      blocks-back encode_removed decode_removed removed_width length_removed max_removed n room room-long few-in (λ i l. (block-is i l).0) free
      ∙ room-is b e in
      (λ z. joined (mode z ∷ profile z ∷ count z ∷ row z ∷ [])) ∙ joined-whole tail_widths b e

  tail-obeys : memory_obeys held (decode_memory b) ≡ true
  unfolding decode_memory
  tail-obeys =
      let n : ℕ = removed_in b in
      let mem : Memory = unblock removed_width decode_removed n room in
      let long : length mem ≡ n = length-unblock removed_width decode_removed n room in
      let d : Removed = decode_removed [] in
      let one : (i : ℕ) → i < length mem → removed_obeys (get_or mem i d) ≡ true =
      λ i l. ap removed_obeys (unblock-at removed_width decode_removed i n room d (omega arith)) ∙ (block-is i (omega arith)).1 in
      memory-of held mem (rw long few-in) (at 4) (at 5) (all_in removed_obeys mem (at_in (λ r. removed_obeys r ≡ true) mem d one))

-- the check of number 14 as plain tests
pub whole_is : (l : List ℕ) → AreBytes l → valid_whole l ≡ whole_good l
unfolding whole_good encode_whole obeys_whole
whole_is l h = same_test (valid_whole l) (whole_good l) passes comes
  where
    area : Bool
    area = valid (area_of l)

    held : List ℕ
    held = numbers_of (decode (area_of l))

    tail : Bool
    tail = tail_good held (tail_of l)

    forms : Bool
    forms = profile_obeys (decode_whole l).kind.profile (decode (area_of l))

    passes : valid_whole l ≡ true → whole_good l ≡ true
    passes v =
        let good : tail ≡ true =
        ap (λ (x : List ℕ). tail_good held (tail_of x)) (sym (whole-bytes l v))
        ∙ ap (tail_good held) (whole-tail (decode_whole l))
        ∙ tail-good (decode_whole l).kind (decode_whole l).memory held (whole-memory (decode_whole l) (whole-obeys l v)) in
        and_intro (eqb (length l) whole_width) (area && (tail && forms)) (eq-eqb (length l) whole_width (whole_long l v))
        (and_intro area (tail && forms) (area-valid l v) (and_intro tail forms good (area-formed l v)))

    comes : whole_good l ≡ true → valid_whole l ≡ true
    comes g =
        let long : length l ≡ whole_width = eqb-true (length l) whole_width (and_left _ (area && (tail && forms)) g) in
        let both : (area && (tail && forms)) ≡ true = and_right (eqb (length l) whole_width) (area && (tail && forms)) g in
        let v : area ≡ true = and_left area (tail && forms) both in
        let rest : (tail && forms) ≡ true = and_right area (tail && forms) both in
        let good : tail ≡ true = and_left tail forms rest in
        let bs = bytes-part table_width tail_width l h in
        let wide = length_part table_width tail_width l (omega (arith, long)) in
        let tail-is : encode_tail (decode_tail (tail_of l)) (decode_memory (tail_of l)) ≡ tail_of l = tail-back held (tail_of l) bs wide good in
        let fine : obeys_whole (decode_whole l) ≡ true =
        and_intro (obeys (decode (area_of l))) (memory_obeys held (decode_memory (tail_of l)) && forms) (valid-obeys (area_of l) v)
        (and_intro (memory_obeys held (decode_memory (tail_of l))) forms (tail-obeys held (tail_of l) bs wide good) (and_right tail forms rest)) in
        let back : encode_whole (decode_whole l) ≡ l =
        ap₂ (λ (a b : List ℕ). joined (a ∷ b ∷ [])) (encode-decode (area_of l) v ∙ seen_first table_width l) tail-is ∙ joined-whole whole_widths l long in
        ap valid_whole (sym back) ∙ valid-encode-whole (decode_whole l) fine

-- ---- the same test by test

-- a slice of another length
pub other_length : (l : List ℕ) → (length l ≡ whole_width → ⊥) → false ≡ valid_whole l
other_length l n = go (valid_whole l) refl
  where
    go : (t : Bool) → valid_whole l ≡ t → false ≡ t
    go true e = absurd (n (whole_long l e))
    go false e = refl

module _ (l : List ℕ) (h : AreBytes l) where
  -- a bad area
  pub area-stop : valid (area_of l) ≡ false → false ≡ valid_whole l
  unfolding whole_good
  area-stop e = sym (whole_is l h ∙ rw (whole_good, e) (never (eqb (length l) whole_width)))
    where
      never : (s : Bool) → s && false ≡ false
      never true = refl
      never false = refl

  -- where the area is good, the tail decides
  pub tail-stop : length l ≡ whole_width → valid (area_of l) ≡ true → tail_good (numbers_of (decode (area_of l))) (tail_of l) ≡ false → false ≡ valid_whole l
  unfolding whole_good
  tail-stop e v q = sym (whole_is l h ∙ rw (whole_good, eq-eqb (length l) whole_width e, v, q))

  -- and where both are good, the forms
  pub forms-decide : length l ≡ whole_width → valid (area_of l) ≡ true → tail_good (numbers_of (decode (area_of l))) (tail_of l) ≡ true
      → (t : Bool) → t ≡ profile_obeys (decode_whole l).kind.profile (decode (area_of l)) → t ≡ valid_whole l
  unfolding whole_good
  forms-decide e v g t q = q ∙ sym (whole_is l h ∙ rw (whole_good, eq-eqb (length l) whole_width e, v, g))
