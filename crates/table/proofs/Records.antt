-- A record's bytes and back. A record that keeps to the sizes is read again from its bytes; bytes that pass the tests are those of the record
-- that is read in them, and it obeys the rules; and the bytes of a record that obeys pass the tests. Assumes nothing.
use Prim.Native.Nat.{ℕ, zero, suc, ◌+◌, ◌≤◌, ◌<◌, ◌^◌}
use mathlib.Core.Path.{◌≡◌, refl, ap, sym, ◌∙◌}
use mathlib.Core.Bool.{Bool, true, false, ◌&&◌, true≢false}
use mathlib.Core.List.{List, [], ◌∷◌}
use native.Mathlib.Omega.{arith}
use lib.ListN.{length, get_or}
use lib.Dec.{leb, ltb}
use borrow.Author.Tests.{leb-true, ltb-true, le-leb, lt-ltb}
use Rattle.fields.specs.Choice.{every}
use Rattle.fields.specs.Numbers.{nat_of, bytes_of, AreBytes}
use Rattle.fields.specs.Parts.{part}
use Rattle.fields.specs.Widths.{Widths, offset}
use Rattle.fields.proofs.Choice.{every-at, and_no}
use Rattle.fields.proofs.Numbers.{length-bytes_of, nat-bytes, part-back, nat-part}
use Rattle.fields.proofs.Parts.{length_part}
use Rattle.fields.proofs.Blocks.{length-fit, fit-back, fit-front, fit-zeros}
use Rattle.fields.proofs.Widths.{field, length-joined, joined-whole}
use Rattle.rules.specs.Sizes.{max_key, max_value, numbers}
use Rattle.rules.specs.Node.{Rec}
use Rattle.rules.specs.Table.{rec_obeys}
use Rattle.rules.specs.Delta.{status_byte}
use Rattle.rules.specs.Layout.{rec_widths, rec_width, rec_fields, encode_rec, decode_rec, status_of_byte}
use Rattle.rules.specs.declared.Status.{Status}
use Rattle.rules.specs.declared.Status.TheVariants.{Set, Delete, Ttl}
use Rattle.table.specs.Fits.{FitsRec}
use Rattle.table.specs.Tests.{rec_tests, rec_good, clean, key_length, value_length, version_of}

-- ---- the fields of a record's bytes

pub rec-widths : (r : Rec) → Widths rec_widths (rec_fields r)
rec-widths r =
    (length-bytes_of 1 _, (length-fit max_key _, (length-bytes_of 1 _, (length-fit max_value _, (length-bytes_of 8 _, (length-bytes_of 1 _, (length-bytes_of 8 _, tt)))))))

pub length-rec : (r : Rec) → length (encode_rec r) ≡ rec_width
unfolding encode_rec
length-rec r = length-joined rec_widths (rec_fields r) (rec-widths r)

-- field k
pub rec-field : (r : Rec) (k : ℕ) → k < 7 → part (offset rec_widths k) (get_or rec_widths k 0) (encode_rec r) ≡ get_or (rec_fields r) k []
unfolding encode_rec
rec-field r k h = field rec_widths (rec_fields r) (rec-widths r) k h

-- a number of n bytes, in field k
rec-number : (r : Rec) (k n v : ℕ) → k < 7 → get_or rec_widths k 0 ≡ n → get_or (rec_fields r) k [] ≡ bytes_of n v → v < 256 ^ n → nat_of (part (offset rec_widths k) n (encode_rec r)) ≡ v
rec-number r k n v h e f g =
    ap (λ (m : ℕ). nat_of (part (offset rec_widths k) m (encode_rec r))) (sym e) ∙ ap nat_of (rec-field r k h ∙ f) ∙ nat-bytes n v g

-- ---- statuses

pub status-back : (s : Status) → status_of_byte (status_byte s) ≡ s
status-back Set = refl
status-back Delete = refl
status-back Ttl = refl

status-below : (s : Status) → status_byte s ≤ 2
status-below Set = omega arith
status-below Delete = omega arith
status-below Ttl = omega arith

pub status-byte : (n : ℕ) → n ≤ 2 → status_byte (status_of_byte n) ≡ n
status-byte zero h = refl
status-byte (suc zero) h = refl
status-byte (suc (suc zero)) h = refl
status-byte (suc (suc (suc n))) h = absurd (omega arith)

-- ---- a record that obeys, in a node with this max

pub record ObeysRec (max : ℕ) (r : Rec) : Type 0 where
  pub key_fits : length r.kv.key ≤ max_key
  pub value-fits : length r.kv.value ≤ max_value
  pub version_low : 1 ≤ r.kv.version
  pub version_high : r.kv.version ≤ max
  pub start_high : r.start < numbers

abbrev rules : ℕ → Rec → List Bool
rules max r =
    leb (length r.kv.key) max_key
    ∷ leb (length r.kv.value) max_value
    ∷ leb 1 r.kv.version
    ∷ leb r.kv.version max
    ∷ ltb r.start numbers
    ∷ []

pub rec-obeys : (max : ℕ) (r : Rec) → rec_obeys max r ≡ true → ObeysRec max r
unfolding rec_obeys
rec-obeys max r t =
    let at : (k : ℕ) → get_or (rules max r) k true ≡ true = every-at (rules max r) t in
    record {
      key_fits = leb-true _ _ (at 0);
      value-fits = leb-true _ _ (at 1);
      version_low = leb-true _ _ (at 2);
      version_high = leb-true _ _ (at 3);
      start_high = ltb-true _ _ (at 4);
    }

pub obeys-rec : (max : ℕ) (r : Rec) → ObeysRec max r → rec_obeys max r ≡ true
unfolding rec_obeys
obeys-rec max r o =
    rw (rec_obeys, le-leb _ max_key o.key_fits, le-leb _ max_value o.value-fits, le-leb 1 _ o.version_low, le-leb _ max o.version_high, lt-ltb _ numbers o.start_high)

-- ---- a record that fits

-- one that obeys does
pub fits-rec : (max : ℕ) (r : Rec) → ObeysRec max r → max < numbers → FitsRec r
fits-rec max r o h =
    record {
      key_fits = o.key_fits;
      value-fits = o.value-fits;
      version_high = omega (arith, o.version_high);
      start_high = o.start_high;
    }

module _ (r : Rec) (o : FitsRec r) where
  key-long : nat_of (part (offset rec_widths 0) 1 (encode_rec r)) ≡ length r.kv.key
  key-long = rec-number r 0 1 (length r.kv.key) (omega arith) refl refl (omega (arith, o.key_fits))

  value-long : nat_of (part (offset rec_widths 2) 1 (encode_rec r)) ≡ length r.kv.value
  value-long = rec-number r 2 1 (length r.kv.value) (omega arith) refl refl (omega (arith, o.value-fits))

  version-is : nat_of (part (offset rec_widths 4) 8 (encode_rec r)) ≡ r.kv.version
  version-is = rec-number r 4 8 r.kv.version (omega arith) refl refl o.version_high

  status-is : nat_of (part (offset rec_widths 5) 1 (encode_rec r)) ≡ status_byte r.kv.status
  status-is = rec-number r 5 1 (status_byte r.kv.status) (omega arith) refl refl (omega (arith, status-below r.kv.status))

  -- it is read again from its bytes
  pub decode-encode-rec : decode_rec (encode_rec r) ≡ r
  unfolding decode_rec
  decode-encode-rec =
      let key : part (offset rec_widths 1) (key_length (encode_rec r)) (encode_rec r) ≡ r.kv.key =
      ap (λ (n : ℕ). part (offset rec_widths 1) n (encode_rec r)) key-long
      ∙ fit-front max_key (offset rec_widths 1) r.kv.key (encode_rec r) o.key_fits (rec-field r 1 (omega arith)) (rw length-rec (omega arith)) in
      let value : part (offset rec_widths 3) (value_length (encode_rec r)) (encode_rec r) ≡ r.kv.value =
      ap (λ (n : ℕ). part (offset rec_widths 3) n (encode_rec r)) value-long
      ∙ fit-front max_value (offset rec_widths 3) r.kv.value (encode_rec r) o.value-fits (rec-field r 3 (omega arith)) (rw length-rec (omega arith)) in
      let status : status_of_byte (nat_of (part (offset rec_widths 5) 1 (encode_rec r))) ≡ r.kv.status = ap status_of_byte status-is ∙ status-back r.kv.status in
      let start : nat_of (part (offset rec_widths 6) 8 (encode_rec r)) ≡ r.start = rec-number r 6 8 r.start (omega arith) refl refl o.start_high in
      λ i. record { kv = record { key = key i; value = value i; version = version-is i; status = status i }; start = start i }

  -- its bytes pass the tests where its version is one of the node's
  pub rec-good : (max : ℕ) → 1 ≤ r.kv.version → r.kv.version ≤ max → rec_good max (encode_rec r) ≡ true
  unfolding rec_good
  rec-good max low high =
      let kz = fit-zeros max_key (offset rec_widths 1) r.kv.key (encode_rec r) o.key_fits (rec-field r 1 (omega arith)) (rw length-rec (omega arith)) in
      let vz = fit-zeros max_value (offset rec_widths 3) r.kv.value (encode_rec r) o.value-fits (rec-field r 3 (omega arith)) (rw length-rec (omega arith)) in
      rw (rec_good, key-long, value-long, version-is, status-is, le-leb _ max_key o.key_fits, le-leb _ max_value o.value-fits, le-leb 1 _ low, le-leb _ max high, le-leb _ 2 (status-below r.kv.status), kz, vz)

-- ---- bytes that pass the tests

-- no test may fail
pub every-no : (ts : List Bool) (k : ℕ) → get_or ts k true ≡ false → every ts ≡ false
every-no [] k e = absurd (true≢false e)
every-no (t ∷ ts) zero e = and_no t (every ts) e
every-no (t ∷ ts) (suc k) e = ap (λ (s : Bool). t && s) (every-no ts k e) ∙ never t
  where
    never : (s : Bool) → s && false ≡ false
    never true = refl
    never false = refl

pub rec-stop : (max : ℕ) (b : List ℕ) (k : ℕ) → get_or (rec_tests max b) k true ≡ false → false ≡ rec_good max b
unfolding rec_good
rec-stop max b k e = sym (every-no (rec_tests max b) k e)

record Tests (max : ℕ) (b : List ℕ) : Type 0 where
  pub key_fits : key_length b ≤ max_key
  pub value-fits : value_length b ≤ max_value
  pub version_low : 1 ≤ version_of b
  pub version_high : version_of b ≤ max
  pub status : nat_of (part (offset rec_widths 5) 1 b) ≤ 2
  pub key_clean : clean (offset rec_widths 1) max_key (key_length b) b ≡ true
  pub value_clean : clean (offset rec_widths 3) max_value (value_length b) b ≡ true

tests : (max : ℕ) (b : List ℕ) → rec_good max b ≡ true → Tests max b
unfolding rec_good
tests max b t =
    let at : (k : ℕ) → get_or (rec_tests max b) k true ≡ true = every-at (rec_tests max b) t in
    record {
      key_fits = leb-true _ _ (at 0);
      value-fits = leb-true _ _ (at 1);
      version_low = leb-true _ _ (at 2);
      version_high = leb-true _ _ (at 3);
      status = leb-true _ _ (at 4);
      key_clean = at 5;
      value_clean = at 6;
    }

pub good-key : (max : ℕ) (b : List ℕ) → rec_good max b ≡ true → key_length b ≤ max_key
good-key max b t = (tests max b t).key_fits

module _ (max : ℕ) (b : List ℕ) (long : length b ≡ rec_width) (h : AreBytes b) (good : rec_good max b ≡ true) where
  -- they are those of the record that is read in them
  pub encode-decode-rec : encode_rec (decode_rec b) ≡ b
  unfolding encode_rec decode_rec
  encode-decode-rec =
      let t : Tests max b = tests max b good in
      let number : (at n : ℕ) → at + n ≤ rec_width → bytes_of n (nat_of (part at n b)) ≡ part at n b = λ at n g. part-back at n b h (omega arith) in
      let kl : length (part (offset rec_widths 1) (key_length b) b) ≡ key_length b = length_part (offset rec_widths 1) _ b (omega arith) in
      let vl : length (part (offset rec_widths 3) (value_length b) b) ≡ value_length b = length_part (offset rec_widths 3) _ b (omega arith) in
      let key = fit-back _ max_key (offset rec_widths 1) b t.key_fits (omega arith) t.key_clean in
      let value = fit-back _ max_value (offset rec_widths 3) b t.value-fits (omega arith) t.value_clean in
      rw (kl, vl, number (offset rec_widths 0) 1 (omega arith), key, number (offset rec_widths 2) 1 (omega arith), value, number (offset rec_widths 4) 8 (omega arith), status-byte (nat_of (part (offset rec_widths 5) 1 b)) t.status, number (offset rec_widths 5) 1 (omega arith), number (offset rec_widths 6) 8 (omega arith))
      (joined-whole rec_widths b long)

  -- and it obeys the rules
  pub obeys-decode-rec : ObeysRec max (decode_rec b)
  unfolding decode_rec
  obeys-decode-rec =
      let t : Tests max b = tests max b good in
      record {
        key_fits = rw (length_part (offset rec_widths 1) (key_length b) b (omega arith)) t.key_fits;
        value-fits = rw (length_part (offset rec_widths 3) (value_length b) b (omega arith)) t.value-fits;
        version_low = t.version_low;
        version_high = t.version_high;
        start_high = nat-part (offset rec_widths 6) 8 b h (omega arith);
      }
