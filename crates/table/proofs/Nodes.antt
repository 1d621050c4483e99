-- A node's bytes and back, as for a record: read again from its bytes where it obeys, written again from bytes that pass the tests, and the
-- tests passed by the bytes of a node that obeys. Assumes nothing.
use Prim.Native.Nat.{ℕ, ◌+◌, ◌*◌, ◌-◌, ◌≤◌, ◌<◌, ◌^◌}
use mathlib.Core.Path.{◌≡◌, refl, ap, sym, ◌∙◌, subst}
use mathlib.Core.Bool.{Bool, true, false}
use mathlib.Core.List.{List, [], ◌∷◌}
use native.Mathlib.Omega.{arith}
use lib.ListN.{length, drop, get_or, length-drop}
use lib.Seq.{take_all}
use lib.Dec.{leb, ltb}
use borrow.Author.Tests.{leb-true, ltb-true, le-leb, lt-ltb}
use Rattle.fields.specs.Choice.{every, all, ◌∈◌}
use Rattle.fields.specs.Numbers.{nat_of, bytes_of, AreBytes}
use Rattle.fields.specs.Parts.{part}
use Rattle.fields.specs.Blocks.{flat, blocks, unblock, all_zero, all_blocks}
use Rattle.fields.specs.Widths.{Widths, offset}
use Rattle.fields.proofs.Choice.{every-at, and_left, and_right, all_from, all_in, in-at, at_in}
use Rattle.fields.proofs.Numbers.{length-bytes_of, nat-bytes, part-back, nat-part, bytes-part, bytes_drop}
use Rattle.fields.proofs.Parts.{length_part, part-drop}
use Rattle.fields.proofs.Blocks.{length-flat, length-blocks, length-unblock, unblock-at, block, blocks-back, blocks-read, all-blocks-at, at-all-blocks, fit-zeros}
use Rattle.fields.proofs.Widths.{field, length-joined, joined-whole}
use Rattle.rules.specs.Sizes.{max_records, numbers}
use Rattle.rules.specs.Node.{Rec, Node, beats}
use Rattle.rules.specs.Table.{Entry, rec_obeys, node_obeys, entry_obeys, keys_rise, versions, differ}
use Rattle.rules.specs.Layout.{rec_place, rec_width, node_widths, node_width, node_fields, encode_rec, decode_rec, encode_node, decode_node}
use Rattle.table.specs.Fits.{FitsEntry, LaidNode}
use Rattle.table.specs.Tests.{rec_good, node_tests, node_good, count_of, max_in, recs_in}
use Rattle.table.proofs.Records.{ObeysRec, rec-obeys, obeys-rec, fits-rec, length-rec, decode-encode-rec, encode-decode-rec, obeys-decode-rec, rec-good, every-no}

-- ---- the fields of a node's bytes

pub node-widths : (e : Entry) → Widths node_widths (node_fields e)
node-widths e =
    (length-bytes_of 8 _, (length-bytes_of 8 _, (length-bytes_of 8 _, (length-bytes_of 8 _, (length-bytes_of 1 _, (length-blocks encode_rec rec_width length-rec max_records e.node.recs, tt))))))

pub length-node : (e : Entry) → length (encode_node e) ≡ node_width
unfolding encode_node
length-node e = length-joined node_widths (node_fields e) (node-widths e)

-- field k
pub node-field : (e : Entry) (k : ℕ) → k < 6 → part (offset node_widths k) (get_or node_widths k 0) (encode_node e) ≡ get_or (node_fields e) k []
unfolding encode_node
node-field e k h = field node_widths (node_fields e) (node-widths e) k h

-- a number of n bytes, in field k
pub node-number : (e : Entry) (k n v : ℕ) → k < 6 → get_or node_widths k 0 ≡ n → get_or (node_fields e) k [] ≡ bytes_of n v → v < 256 ^ n → nat_of (part (offset node_widths k) n (encode_node e)) ≡ v
node-number e k n v h p f g =
    ap (λ (m : ℕ). nat_of (part (offset node_widths k) m (encode_node e))) (sym p) ∙ ap nat_of (node-field e k h ∙ f) ∙ nat-bytes n v g

-- the room for records is what stands behind the header
pub behind-header : (b : List ℕ) → length b ≡ node_width → drop (offset node_widths 5) b ≡ part (offset node_widths 5) (max_records * rec_width) b
unfolding part
behind-header b p = sym (take_all (max_records * rec_width) (drop (offset node_widths 5) b) (rw length-drop (omega arith)))

-- ---- a node that obeys

pub record ObeysEntry (e : Entry) : Type 0 where
  pub number_high : e.number < numbers
  pub few : length e.node.recs ≤ max_records
  pub each : all (rec_obeys e.node.max) e.node.recs ≡ true
  pub rise : keys_rise e.node.recs ≡ true
  pub differing : differ (versions e.node.recs) ≡ true
  pub max_high : e.node.max < numbers
  pub gc_high : e.node.last_gc < numbers
  pub beat_high : e.node.heartbeat.0 < numbers

abbrev rules : Node → List Bool
rules n =
    leb (length n.recs) max_records
    ∷ all (rec_obeys n.max) n.recs
    ∷ keys_rise n.recs
    ∷ differ (versions n.recs)
    ∷ ltb n.max numbers
    ∷ ltb n.last_gc numbers
    ∷ ltb n.heartbeat.0 numbers
    ∷ []

pub entry-obeys : (e : Entry) → entry_obeys e ≡ true → ObeysEntry e
unfolding entry_obeys node_obeys
entry-obeys e t =
    let at : (k : ℕ) → get_or (rules e.node) k true ≡ true = every-at (rules e.node) (and_right (ltb e.number numbers) (every (rules e.node)) t) in
    record {
      number_high = ltb-true _ _ (and_left (ltb e.number numbers) (every (rules e.node)) t);
      few = leb-true _ _ (at 0);
      each = at 1;
      rise = at 2;
      differing = at 3;
      max_high = ltb-true _ _ (at 4);
      gc_high = ltb-true _ _ (at 5);
      beat_high = ltb-true _ _ (at 6);
    }

pub obeys-entry : (e : Entry) → ObeysEntry e → entry_obeys e ≡ true
unfolding entry_obeys node_obeys
obeys-entry e o =
    rw (entry_obeys, node_obeys, lt-ltb _ numbers o.number_high, le-leb _ max_records o.few, o.each, o.rise, o.differing, lt-ltb _ numbers o.max_high, lt-ltb _ numbers o.gc_high, lt-ltb _ numbers o.beat_high)

-- each of its records obeys
pub each-obeys : (e : Entry) → ObeysEntry e → (r : Rec) → r ∈ e.node.recs → ObeysRec e.node.max r
each-obeys e o r m = rec-obeys e.node.max r (all_from (rec_obeys e.node.max) e.node.recs o.each r m)

-- ---- a node that fits

-- one that obeys does
pub fits-entry : (e : Entry) → ObeysEntry e → FitsEntry e
fits-entry e o =
    record {
      number_high = o.number_high;
      beat_high = o.beat_high;
      max_high = o.max_high;
      gc_high = o.gc_high;
      few = o.few;
      each = λ r m. fits-rec e.node.max r (each-obeys e o r m) o.max_high;
    }

module _ (e : Entry) (o : FitsEntry e) where
  pub count-is : nat_of (part (offset node_widths 4) 1 (encode_node e)) ≡ length e.node.recs
  count-is = node-number e 4 1 (length e.node.recs) (omega arith) refl refl (omega (arith, o.few))

  pub max-is : nat_of (part (offset node_widths 2) 8 (encode_node e)) ≡ e.node.max
  max-is = node-number e 2 8 e.node.max (omega arith) refl refl o.max_high

  pub room-is : drop (offset node_widths 5) (encode_node e) ≡ blocks max_records rec_width encode_rec e.node.recs
  room-is = behind-header (encode_node e) (length-node e) ∙ node-field e 5 (omega arith)

  -- it is read again from its bytes
  pub decode-encode-node : decode_node (encode_node e) ≡ e
  unfolding decode_node
  decode-encode-node =
      let number = node-number e 0 8 e.number (omega arith) refl refl o.number_high in
      let beat = node-number e 1 8 e.node.heartbeat.0 (omega arith) refl refl o.beat_high in
      let gc = node-number e 3 8 e.node.last_gc (omega arith) refl refl o.gc_high in
      let recs : unblock rec_width decode_rec (nat_of (part (offset node_widths 4) 1 (encode_node e))) (drop (rec_place 0) (encode_node e)) ≡ e.node.recs =
      ap (λ (k : ℕ). unblock rec_width decode_rec k (drop (rec_place 0) (encode_node e))) count-is
      ∙ ap (unblock rec_width decode_rec (length e.node.recs)) room-is
      ∙ blocks-read encode_rec decode_rec rec_width length-rec max_records e.node.recs o.few (λ r m. decode-encode-rec r (o.each r m)) in
      λ i. record { number = number i; node = record { heartbeat = beats (beat i); max = max-is i; last_gc = gc i; recs = recs i } }

  -- its bytes are laid out
  pub laid-node : LaidNode (encode_node e)
  laid-node =
      record { long = length-node e; few = subst (λ (n : ℕ). n ≤ max_records) (sym count-is) o.few; fits = subst FitsEntry (sym decode-encode-node) o; is = ap encode_node decode-encode-node }

-- zeros stand behind its records
pub rest-zero : (e : Entry) → length e.node.recs ≤ max_records
    → let n : ℕ = length e.node.recs in all_zero (part (rec_place n) ((max_records - n) * rec_width) (encode_node e)) ≡ true
unfolding blocks
rest-zero e few =
    let n : ℕ = length e.node.recs in
    let fl : length (flat encode_rec e.node.recs) ≡ n * rec_width = length-flat encode_rec rec_width length-rec e.node.recs in
    let rest : max_records * rec_width - n * rec_width ≡ (max_records - n) * rec_width = omega arith in
    rw (fl, rest) at
    (fit-zeros (max_records * rec_width) (rec_place 0) (flat encode_rec e.node.recs) (encode_node e) (rw fl (omega arith)) (node-field e 5 (omega arith)) (rw length-node (omega arith)))

-- the bytes of a node that obeys pass the tests
pub node-good : (e : Entry) → ObeysEntry e → node_good (encode_node e) ≡ true
unfolding node_good blocks
node-good e o =
    let f : FitsEntry e = fits-entry e o in
    let n : ℕ = length e.node.recs in
    let d : Rec = decode_rec [] in
    let one : (i : ℕ) → i < n → rec_good e.node.max (part (i * rec_width) rec_width (blocks max_records rec_width encode_rec e.node.recs)) ≡ true =
    λ i h. let r : Rec = get_or e.node.recs i d in
    let m : r ∈ e.node.recs = in-at e.node.recs i d h in
    let p : ObeysRec e.node.max r = each-obeys e o r m in
    ap (rec_good e.node.max) (block encode_rec rec_width length-rec max_records e.node.recs o.few i d h)
    ∙ rec-good r (f.each r m) e.node.max p.version_low p.version_high in
    let goods : all_blocks (rec_good e.node.max) rec_width n (drop (rec_place 0) (encode_node e)) ≡ true =
    ap (all_blocks (rec_good e.node.max) rec_width n) (room-is e f) ∙ at-all-blocks (rec_good e.node.max) rec_width n _ one in
    let rise : keys_rise (recs_in (encode_node e)) ≡ true = ap (λ (x : Entry). keys_rise x.node.recs) (decode-encode-node e f) ∙ o.rise in
    let other : differ (versions (recs_in (encode_node e))) ≡ true = ap (λ (x : Entry). differ (versions x.node.recs)) (decode-encode-node e f) ∙ o.differing in
    rw (node_good, count-is e f, max-is e f, le-leb n max_records o.few, goods, rise, other, rest-zero e o.few)

-- ---- bytes that pass the tests

-- no test may fail
pub node-stop : (b : List ℕ) (k : ℕ) → get_or (node_tests b) k true ≡ false → false ≡ node_good b
unfolding node_good
node-stop b k e = sym (every-no (node_tests b) k e)

module _ (b : List ℕ) (long : length b ≡ node_width) (h : AreBytes b) (good : node_good b ≡ true) where
  at : (k : ℕ) → get_or (node_tests b) k true ≡ true
  unfolding node_good
  at k = every-at (node_tests b) good k

  few-records : count_of b ≤ max_records
  few-records = leb-true _ _ (at 0)

  room-long : length (drop (rec_place 0) b) ≡ max_records * rec_width
  room-long = rw (length-drop, long) refl

  room-bytes : (i : ℕ) → AreBytes (part (i * rec_width) rec_width (drop (rec_place 0) b))
  room-bytes i = bytes-part (i * rec_width) rec_width (drop (rec_place 0) b) (bytes_drop (rec_place 0) b h)

  block-long : (i : ℕ) → i < count_of b → length (part (i * rec_width) rec_width (drop (rec_place 0) b)) ≡ rec_width
  block-long i g = length_part (i * rec_width) rec_width (drop (rec_place 0) b) (omega (arith, few-records, room-long))

  each-good : (i : ℕ) → i < count_of b → rec_good (max_in b) (part (i * rec_width) rec_width (drop (rec_place 0) b)) ≡ true
  each-good i g = all-blocks-at (rec_good (max_in b)) rec_width (count_of b) (drop (rec_place 0) b) (at 1) i g

  -- they are those of the node that is read in them
  pub encode-decode-node : encode_node (decode_node b) ≡ b
  unfolding encode_node decode_node
  encode-decode-node =
      let n : ℕ = count_of b in
      let number : (a m : ℕ) → a + m ≤ node_width → bytes_of m (nat_of (part a m b)) ≡ part a m b = λ a m g. part-back a m b h (omega arith) in
      let rest : all_zero (part (n * rec_width) ((max_records - n) * rec_width) (drop (rec_place 0) b)) ≡ true =
      ap all_zero (part-drop (n * rec_width) ((max_records - n) * rec_width) (rec_place 0) b) ∙ at 4 in
      let room : blocks max_records rec_width encode_rec (unblock rec_width decode_rec n (drop (rec_place 0) b)) ≡ part (rec_place 0) (max_records * rec_width) b =
      blocks-back encode_rec decode_rec rec_width length-rec max_records n (drop (rec_place 0) b) room-long few-records
      (λ i g. encode-decode-rec (max_in b) (part (i * rec_width) rec_width (drop (rec_place 0) b)) (block-long i g) (room-bytes i) (each-good i g)) rest
      ∙ behind-header b long in
      rw (length-unblock rec_width decode_rec n (drop (rec_place 0) b), room, number (offset node_widths 0) 8 (omega arith), number (offset node_widths 1) 8 (omega arith), number (offset node_widths 2) 8 (omega arith), number (offset node_widths 3) 8 (omega arith), number (offset node_widths 4) 1 (omega arith))
      (joined-whole node_widths b long)

  -- and it obeys the rules
  pub obeys-decode-node : ObeysEntry (decode_node b)
  unfolding decode_node
  obeys-decode-node =
      let n : ℕ = count_of b in
      let l : List Rec = unblock rec_width decode_rec n (drop (rec_place 0) b) in
      let below : (a : ℕ) → a + 8 ≤ node_width → nat_of (part a 8 b) < numbers = λ a g. nat-part a 8 b h (omega arith) in
      let d : Rec = decode_rec [] in
      let ll : length l ≡ n = length-unblock rec_width decode_rec n (drop (rec_place 0) b) in
      let one : (i : ℕ) → i < length l → rec_obeys (max_in b) (get_or l i d) ≡ true =
      λ i g. ap (rec_obeys (max_in b)) (unblock-at rec_width decode_rec i n (drop (rec_place 0) b) d (omega arith))
      ∙ obeys-rec (max_in b) _
      (obeys-decode-rec (max_in b) (part (i * rec_width) rec_width (drop (rec_place 0) b)) (block-long i (omega arith)) (room-bytes i) (each-good i (omega arith))) in
      record {
        number_high = below 0 (omega arith);
        few = rw ll few-records;
        each = all_in (rec_obeys (max_in b)) l (at_in (λ r. rec_obeys (max_in b) r ≡ true) l d one);
        rise = at 2;
        differing = at 3;
        max_high = below 16 (omega arith);
        gc_high = below 24 (omega arith);
        beat_high = below 8 (omega arith);
      }
