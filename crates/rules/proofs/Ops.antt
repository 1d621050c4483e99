-- One operation and its bytes: reading what was written gives it back, and what was read is what its bytes write. Assumes nothing.
-- ---- an operation whose numbers and texts have their sizes
use Prim.Native.Nat.{◌-◌, ◌<◌, ◌^◌, ◌≤◌, suc, zero, ℕ}
use mathlib.Core.Bool.{Bool, false, true}
use mathlib.Core.List.{List, [], ◌++◌, ◌∷◌, append_assoc}
use mathlib.Core.Path.{◌∙◌, ◌≡◌, ap, refl, subst, subst₂, sym}
use native.Mathlib.Nat.{mod-eq_of_lt}
use native.Mathlib.Omega.{arith}
use lib.Dec.{leb}
use lib.ListN.{drop, length, length-append, take, take-append-drop}
use lib.Seq.{drop_at, length-take-le, take_at}
use borrow.Author.Tests.{le-leb, leb-true}
use Rattle.fields.proofs.Numbers.{bytes_back, bytes_drop, bytes_take, length-bytes_of, nat-below, nat-bytes}
use Rattle.fields.specs.Choice.{pick}
use Rattle.fields.specs.Numbers.{AreBytes, bytes_of, nat_of}
use Rattle.rules.specs.Delta.{Bad, Got, KeyValueOp, NodeOp, Op, OpRead, SetMaxVersionOp, field, number, op_bytes, read_key_value, read_node, read_op, read_set_max_version, read_tagged, status_byte, status_or, text, text_bytes}
use Rattle.rules.specs.Node.{KeyValue}
use Rattle.rules.specs.Sizes.{max_key, max_value}
use Rattle.rules.specs.declared.Refusal.{Refusal}
use Rattle.rules.specs.declared.Refusal.TheVariants.{BadTag, Cut, TooLong}
use Rattle.rules.specs.declared.Status.{Status}
use Rattle.rules.specs.declared.Status.TheVariants.{Delete, Set, Ttl}

abbrev pub Number : ℕ → Type 0
Number n = n < 256 ^ 8

pub record SmallKeyValue (r : KeyValue) : Type 0 where
  pub key_fits : length r.key ≤ max_key
  pub value-fits : length r.value ≤ max_value
  pub version_fits : Number r.version

abbrev pub SmallOp : Op → Type 0
SmallOp (NodeOp n g f) = Number n × Number g × Number f
SmallOp (KeyValueOp r) = SmallKeyValue r
SmallOp (SetMaxVersionOp m) = Number m

-- ---- reading what was written

pub field-read : (w : ℕ) (next : List ℕ → List ℕ → OpRead) (b l : List ℕ) → length b ≡ w → field w next (b ++ l) ≡ next b l
field-read w next b l e =
    let h : w ≤ length (b ++ l) = simp length-append (omega arith) in
    rw (le-leb w (length (b ++ l)) h, take_at b l w e, drop_at b l w e)

pub number_read : (w v : ℕ) (next : ℕ → List ℕ → OpRead) (l : List ℕ) → v < 256 ^ w → number w next (bytes_of w v ++ l) ≡ next v l
number_read w v next l h =
    field-read w (λ b. next (nat_of b)) (bytes_of w v) l (length-bytes_of w v) ∙ ap (λ (n : ℕ). next n l) (nat-bytes w v h)

pub text-read : (most : ℕ) (next : List ℕ → List ℕ → OpRead) (s l : List ℕ) → length s ≤ most → most < 256 ^ 2 → text most next (text_bytes s ++ l) ≡ next s l
unfolding text_bytes
text-read most next s l h g =
    let k : length s < 256 ^ 2 = omega arith in
    ap (text most next) (append_assoc (bytes_of 2 (length s)) s l)
    ∙ number_read 2 (length s) (λ n rest. pick (leb n most) (field n next rest) (Bad TooLong)) (s ++ l) k
    ∙ ap (λ (b : Bool). pick b (field (length s) next (s ++ l)) (Bad TooLong)) (le-leb _ _ h)
    ∙ field-read (length s) next s l refl

status-read : (next : Status → OpRead) (st : Status) → status_or next (status_byte st) ≡ next st
status-read next Set = refl
status-read next Delete = refl
status-read next Ttl = refl

pub status-byte : (st : Status) → status_byte st < 256 ^ 1
status-byte Set = omega arith
status-byte Delete = omega arith
status-byte Ttl = omega arith

pub one_byte : (b : ℕ) → b < 256 → bytes_of 1 b ≡ b ∷ []
unfolding bytes_of
one_byte b h = ap (λ (n : ℕ). n ∷ []) (mod-eq_of_lt h)

tag_read : (tag : ℕ) (l : List ℕ) → tag < 256 → read_op (tag ∷ l) ≡ read_tagged tag l
unfolding read_op
tag_read tag l h =
    ap (λ (b : List ℕ). number 1 read_tagged (b ++ l)) (sym (one_byte tag h)) ∙ number_read 1 tag read_tagged l h

-- ---- the readers, field by field

abbrev pub after_number : ℕ → ℕ → List ℕ → OpRead
after_number n g = number 8 (λ f rest. Got (NodeOp n g f) rest)

abbrev pub after_tag : ℕ → List ℕ → OpRead
after_tag n = number 8 (after_number n)

abbrev pub after_version : List ℕ → List ℕ → ℕ → ℕ → List ℕ → OpRead
after_version k v ver st rest = status_or (λ s. Got (KeyValueOp (record { key = k; value = v; version = ver; status = s })) rest) st

abbrev pub after_value : List ℕ → List ℕ → ℕ → List ℕ → OpRead
after_value k v ver = number 1 (after_version k v ver)

abbrev pub after_key : List ℕ → List ℕ → List ℕ → OpRead
after_key k v = number 8 (after_value k v)

abbrev pub after_key_tag : List ℕ → List ℕ → OpRead
after_key_tag k = text max_value (after_key k)

read-node : (n g f : ℕ) (l : List ℕ) → SmallOp (NodeOp n g f) → read_op (op_bytes (NodeOp n g f) ++ l) ≡ Got (NodeOp n g f) l
unfolding op_bytes read_node
read-node n g f l s =
    tag_read 0 _ (omega arith)
    ∙ ap read_node (append_assoc (bytes_of 8 n) (bytes_of 8 g ++ bytes_of 8 f) l ∙ ap (λ (x : List ℕ). bytes_of 8 n ++ x) (append_assoc (bytes_of 8 g) (bytes_of 8 f) l))
    ∙ number_read 8 n after_tag (bytes_of 8 g ++ (bytes_of 8 f ++ l)) s.0
    ∙ number_read 8 g (after_number n) (bytes_of 8 f ++ l) s.1
    ∙ number_read 8 f (λ f rest. Got (NodeOp n g f) rest) l s.2

read-max : (m : ℕ) (l : List ℕ) → Number m → read_op (op_bytes (SetMaxVersionOp m) ++ l) ≡ Got (SetMaxVersionOp m) l
unfolding op_bytes read_set_max_version
read-max m l s = tag_read 2 _ (omega arith) ∙ number_read 8 m (λ m rest. Got (SetMaxVersionOp m) rest) l s

read-key-value : (r : KeyValue) (l : List ℕ) → SmallKeyValue r → read_op (op_bytes (KeyValueOp r) ++ l) ≡ Got (KeyValueOp r) l
unfolding op_bytes read_key_value
read-key-value r l s =
    let st : List ℕ = status_byte r.status ∷ [] in
    let ver : List ℕ = bytes_of 8 r.version in
    tag_read 1 _ (omega arith)
    ∙ ap read_key_value
    (append_assoc (text_bytes r.key) (text_bytes r.value ++ (ver ++ st)) l
    ∙ ap (λ (x : List ℕ). text_bytes r.key ++ x)
    (append_assoc (text_bytes r.value) (ver ++ st) l ∙ ap (λ (x : List ℕ). text_bytes r.value ++ x) (append_assoc ver st l)))
    ∙ text-read max_key after_key_tag r.key (text_bytes r.value ++ (ver ++ (st ++ l))) s.key_fits (omega arith)
    ∙ text-read max_value (after_key r.key) r.value (ver ++ (st ++ l)) s.value-fits (omega arith)
    ∙ number_read 8 r.version (after_value r.key r.value) (st ++ l) s.version_fits
    ∙ ap (λ (b : List ℕ). number 1 (after_version r.key r.value r.version) (b ++ l)) (sym (one_byte (status_byte r.status) (status-byte r.status)))
    ∙ number_read 1 (status_byte r.status) (after_version r.key r.value r.version) l (status-byte r.status)
    ∙ status-read (λ t. Got (KeyValueOp (record { key = r.key; value = r.value; version = r.version; status = t })) l) r.status

pub read-written : (o : Op) (l : List ℕ) → SmallOp o → read_op (op_bytes o ++ l) ≡ Got o l
read-written (NodeOp n g f) l s = read-node n g f l s
read-written (KeyValueOp r) l s = read-key-value r l s
read-written (SetMaxVersionOp m) l s = read-max m l s

-- ---- what was read

-- a number was read: it stood at the front, and reading went on behind it
pub record GotNumber (w : ℕ) (next : ℕ → List ℕ → OpRead) (l : List ℕ) (o : Op) (rest : List ℕ) : Type 0 where
  pub value : ℕ
  pub fits : value < 256 ^ w
  pub left : List ℕ
  pub is : bytes_of w value ++ left ≡ l
  pub bytes : AreBytes left
  pub went : next value left ≡ Got o rest

pub record GotText (most : ℕ) (next : List ℕ → List ℕ → OpRead) (l : List ℕ) (o : Op) (rest : List ℕ) : Type 0 where
  pub value : List ℕ
  pub fits : length value ≤ most
  pub left : List ℕ
  pub is : text_bytes value ++ left ≡ l
  pub bytes : AreBytes left
  pub went : next value left ≡ Got o rest

not-got : {A : Type 0} (r : Refusal) (o : Op) (rest : List ℕ) → Bad r ≡ Got o rest → A
not-got r o rest e = let z : ◌≡◌ {A = ℕ} 0 1 = cc in absurd (omega arith)

pub number-got : (w : ℕ) (next : ℕ → List ℕ → OpRead) (l : List ℕ) (o : Op) (rest : List ℕ) → AreBytes l → number w next l ≡ Got o rest → GotNumber w next l o rest
number-got w next l o rest b e = go (leb w (length l)) refl e
  where
    go : (t : Bool) → leb w (length l) ≡ t → pick t (next (nat_of (take w l)) (drop w l)) (Bad (Cut (w - length l))) ≡ Got o rest → GotNumber w next l o rest
    go true q e =
        let h : w ≤ length l = leb-true _ _ q in
        let long : length (take w l) ≡ w = length-take-le w l h in
        record {
          value = nat_of (take w l);
          fits = subst (λ (n : ℕ). nat_of (take w l) < 256 ^ n) long (nat-below (take w l) (bytes_take w l b));
          left = drop w l;
          is = ap (λ (x : List ℕ). x ++ drop w l) (bytes_back w (take w l) long (bytes_take w l b)) ∙ take-append-drop w l;
          bytes = bytes_drop w l b;
          went = e;
        }
    go false q e = not-got (Cut (w - length l)) o rest e

pub text-got : (most : ℕ) (next : List ℕ → List ℕ → OpRead) (l : List ℕ) (o : Op) (rest : List ℕ) → AreBytes l → text most next l ≡ Got o rest → GotText most next l o rest
unfolding text_bytes
text-got most next l o rest b e = first (number-got 2 (λ n r. pick (leb n most) (field n next r) (Bad TooLong)) l o rest b e)
  where
    first : GotNumber 2 (λ n r. pick (leb n most) (field n next r) (Bad TooLong)) l o rest → GotText most next l o rest
    first x = go (leb n most) refl (leb n (length m)) refl x.went
      where
        n : ℕ
        n = x.value

        m : List ℕ
        m = x.left

        go : (s : Bool) → leb n most ≡ s → (t : Bool) → leb n (length m) ≡ t → pick s (pick t (next (take n m) (drop n m)) (Bad (Cut (n - length m)))) (Bad TooLong) ≡ Got o rest → GotText most next l o rest
        go true p true q e =
            let h : n ≤ length m = leb-true _ _ q in
            let long : length (take n m) ≡ n = length-take-le n m h in
            record {
              value = take n m;
              fits = rw long (leb-true _ _ p);
              left = drop n m;
              is =
                  append_assoc (bytes_of 2 (length (take n m))) (take n m) (drop n m)
                  ∙ ap (λ (k : ℕ). bytes_of 2 k ++ (take n m ++ drop n m)) long
                  ∙ ap (λ (r : List ℕ). bytes_of 2 n ++ r) (take-append-drop n m)
                  ∙ x.is;
              bytes = bytes_drop n m x.bytes;
              went = e;
            }
        go true p false q e = not-got (Cut (n - length m)) o rest e
        go false p t q e = not-got TooLong o rest e

pub record GotStatus (next : Status → OpRead) (n : ℕ) (o : Op) (rest : List ℕ) : Type 0 where
  pub value : Status
  pub is : status_byte value ≡ n
  pub went : next value ≡ Got o rest

status-got : (next : Status → OpRead) (n : ℕ) (o : Op) (rest : List ℕ) → status_or next n ≡ Got o rest → GotStatus next n o rest
status-got next zero o rest e = record { value = Set; is = refl; went = e }
status-got next (suc zero) o rest e = record { value = Delete; is = refl; went = e }
status-got next (suc (suc zero)) o rest e = record { value = Ttl; is = refl; went = e }
status-got next (suc (suc (suc n))) o rest e = not-got BadTag o rest e

-- fields that stood one behind the other
join-two : (a b x y l : List ℕ) → a ++ x ≡ l → b ++ y ≡ x → (a ++ b) ++ y ≡ l
join-two a b x y l p q = append_assoc a b y ∙ ap (λ (r : List ℕ). a ++ r) q ∙ p

join-three : (a b c x y z l : List ℕ) → a ++ x ≡ l → b ++ y ≡ x → c ++ z ≡ y → (a ++ (b ++ c)) ++ z ≡ l
join-three a b c x y z l p q r = join-two a (b ++ c) x z l p (join-two b c y z x q r)

join-four : (a b c d x y z t l : List ℕ) → a ++ x ≡ l → b ++ y ≡ x → c ++ z ≡ y → d ++ t ≡ z → (a ++ (b ++ (c ++ d))) ++ t ≡ l
join-four a b c d x y z t l p q r s = join-two a (b ++ (c ++ d)) x t l p (join-three b c d y z t x q r s)

byte-front : (b n : ℕ) (x l : List ℕ) → b < 256 → b ≡ n → bytes_of 1 n ++ x ≡ l → b ∷ x ≡ l
byte-front b n x l h e q = ap (λ (r : List ℕ). r ++ x) (sym (one_byte b h) ∙ ap (bytes_of 1) e) ∙ q

-- an operation was read: its bytes stood at the front, and it has its sizes
pub record ReadAs (l : List ℕ) (o : Op) (rest : List ℕ) : Type 0 where
  pub is : op_bytes o ++ rest ≡ l
  pub small : SmallOp o
  pub bytes : AreBytes rest

-- the operation that a reader made
as_read : (l : List ℕ) (p : Op) (r : List ℕ) (o : Op) (rest : List ℕ) → ReadAs l p r → Got p r ≡ Got o rest → ReadAs l o rest
as_read l p r o rest x e =
    let a : p ≡ o = cc in
    let b : r ≡ rest = cc in
    subst₂ (λ (q : Op) (s : List ℕ). ReadAs l q s) a b x

module _ (o : Op) (rest : List ℕ) where
  node_is : (l : List ℕ) → AreBytes l → read_node l ≡ Got o rest → ReadAs (0 ∷ l) o rest
  unfolding read_node op_bytes
  node_is l b e =
      let x = number-got 8 after_tag l o rest b e in
      let y = number-got 8 (after_number x.value) x.left o rest x.bytes x.went in
      let z = number-got 8 (λ f r. Got (NodeOp x.value y.value f) r) y.left o rest y.bytes y.went in
      let n : List ℕ = bytes_of 8 x.value in
      let g : List ℕ = bytes_of 8 y.value in
      let f : List ℕ = bytes_of 8 z.value in
      as_read (0 ∷ l) (NodeOp x.value y.value z.value) z.left o rest
      (record {
        is = ap (λ (r : List ℕ). 0 ∷ r) (join-three n g f x.left y.left z.left l x.is y.is z.is);
        small = (x.fits, y.fits, z.fits);
        bytes = z.bytes;
      })
      z.went

  max-is : (l : List ℕ) → AreBytes l → read_set_max_version l ≡ Got o rest → ReadAs (2 ∷ l) o rest
  unfolding read_set_max_version op_bytes
  max-is l b e =
      let x = number-got 8 (λ m r. Got (SetMaxVersionOp m) r) l o rest b e in
      as_read (2 ∷ l) (SetMaxVersionOp x.value) x.left o rest
      (record { is = ap (λ (r : List ℕ). 2 ∷ r) x.is; small = x.fits; bytes = x.bytes })
      x.went

  key-value-is : (l : List ℕ) → AreBytes l → read_key_value l ≡ Got o rest → ReadAs (1 ∷ l) o rest
  unfolding read_key_value op_bytes
  key-value-is l b e =
      let x = text-got max_key after_key_tag l o rest b e in
      let y = text-got max_value (after_key x.value) x.left o rest x.bytes x.went in
      let z = number-got 8 (after_value x.value y.value) y.left o rest y.bytes y.went in
      let t = number-got 1 (after_version x.value y.value z.value) z.left o rest z.bytes z.went in
      let s = status-got (λ st. Got (KeyValueOp (record { key = x.value; value = y.value; version = z.value; status = st })) t.left) t.value o rest t.went in
      let k : List ℕ = text_bytes x.value in
      let v : List ℕ = text_bytes y.value in
      let ver : List ℕ = bytes_of 8 z.value in
      let st : List ℕ = status_byte s.value ∷ [] in
      let last : st ++ t.left ≡ z.left = byte-front (status_byte s.value) t.value t.left z.left (status-byte s.value) s.is t.is in
      as_read (1 ∷ l) (KeyValueOp (record { key = x.value; value = y.value; version = z.value; status = s.value })) t.left o rest
      (record {
        is = ap (λ (r : List ℕ). 1 ∷ r) (join-four k v ver st x.left y.left z.left t.left l x.is y.is z.is last);
        small = record { key_fits = x.fits; value-fits = y.fits; version_fits = z.fits };
        bytes = t.bytes;
      })
      s.went

  tagged_is : (tag : ℕ) (l : List ℕ) → AreBytes l → read_tagged tag l ≡ Got o rest → ReadAs (tag ∷ l) o rest
  tagged_is zero l b e = node_is l b e
  tagged_is (suc zero) l b e = key-value-is l b e
  tagged_is (suc (suc zero)) l b e = max-is l b e
  tagged_is (suc (suc (suc n))) l b e = not-got BadTag o rest e

  pub read_is : (l : List ℕ) → AreBytes l → read_op l ≡ Got o rest → ReadAs l o rest
  unfolding read_op
  read_is l b e =
      let x = number-got 1 read_tagged l o rest b e in
      let q : x.value ∷ x.left ≡ l = byte-front x.value x.value x.left l x.fits refl x.is in
      subst (λ (m : List ℕ). ReadAs m o rest) q (tagged_is x.value x.left x.bytes x.went)
