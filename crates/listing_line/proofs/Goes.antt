-- How reading a line goes on: by a word, a number, a key or a value, to the line's end, and what is answered then. Assumes nothing.
use Prim.Native.Nat.{ℕ, ◌+◌, ◌≤◌}
use mathlib.Core.Path.{◌≡◌, refl, ap, sym, ◌∙◌, subst}
use mathlib.Core.Bool.{Bool, true, false}
use mathlib.Core.List.{[], ◌∷◌, ◌++◌}
use native.Mathlib.Omega.{arith}
use lib.Dec.{T, leb}
use lib.ListN.{length, drop, take}
use lib.Seq.{length-take-le, take_at}
use borrow.Author.Tests.{le-leb}
use Rattle.fields.specs.Choice.{pick}
use Rattle.fields.specs.Numbers.{Bytes}
use Rattle.fields.specs.Order.{same_bytes, starts_with}
use Rattle.fields.specs.Parts.{put}
use Rattle.fields.proofs.Ordered.{same_false, same_true}
use Rattle.rules.specs.Delta.{NodeOp, Op, SetMaxVersionOp, op_bytes, size_of}
use Rattle.rules.specs.Given.{Gives, given}
use Rattle.rules.proofs.Sending.{size-max, size-node, size-record}
use Rattle.listing_read.proofs.Relisted.{starts-then}
use Rattle.rules.specs.Listing.{line_feed}
use Rattle.rules.specs.Sizes.{max_key, max_value}
use Rattle.rules.specs.declared.Status.{Status}
use Rattle.delta_write.specs.Written.{key_value, write_op}
use Rattle.std.specs.Prelude.{None, Option, Some}
use Rattle.listing_words.specs.declared.Numeral.{Numeral}
use Rattle.listing_words.specs.declared.Shown.{Shown}
use Rattle.listing_read.specs.Unlist.{Line, LineRead, NoLine, closed, number_form, printed, text_form, unshown, word}
use Rattle.listing_words.specs.Words.{Stored, number_at, piece_of, text_at}
use Rattle.listing_words.proofs.Read.{number-none, number-printed, text-none, text-printed}
use Rattle.listing_line.specs.Told.{LineTold, longest_op, size_told}

-- another way to say what was read
pub as_read : (a b : LineRead) (r : ℕ) (out : Bytes) → a ≡ b → LineTold b r out → LineTold a r out
as_read a b r out e h = subst (λ (x : LineRead). LineTold x r out) (sym e) h

-- ---- a word

module _ (name : Bytes) (other : LineRead) (next : Bytes → LineRead) (l : Bytes) (t : Bool) (e : t ≡ starts_with name l) where
  word-miss : t ≡ false → word name other next l ≡ other
  word-miss q = let f : starts_with name l ≡ false = cc in ap (λ (b : Bool). pick b (next (drop (length name) l)) other) f

  word-hit : (rest : Bytes) → rest ≡ drop (length name) l → t ≡ true → word name other next l ≡ next rest
  word-hit rest r q =
      let f : starts_with name l ≡ true = cc in
      ap (λ (b : Bool). pick b (next (drop (length name) l)) other) f ∙ ap next (sym r)

  pub goes_other : (r : ℕ) (out : Bytes) → t ≡ false → LineTold other r out → LineTold (word name other next l) r out
  goes_other r out q h = as_read (word name other next l) other r out (word-miss q) h

  pub goes-word : (rest : Bytes) (r : ℕ) (out : Bytes) → t ≡ true → rest ≡ drop (length name) l → LineTold (next rest) r out → LineTold (word name other next l) r out
  goes-word rest r out q p h = as_read (word name other next l) (next rest) r out (word-hit rest p q) h

not-word : (name : Bytes) (next : Bytes → LineRead) (l out : Bytes) (t : Bool) → t ≡ starts_with name l → t ≡ false → LineTold (word name NoLine next l) 0 out
not-word name next l out t e q = goes_other name NoLine next l t e 0 out q refl

-- ---- a number

module _ (next : ℕ → Bytes → LineRead) (l : Bytes) (read : Option Numeral) (e : read ≡ number_at l) where
  pub no_number : (out : Bytes) → read ≡ None → LineTold (printed number_form next l) 0 out
  no_number out h = as_read (printed number_form next l) NoLine 0 out (number-none l next read e h) refl

  pub goes_number : (x : Numeral) (rest : Bytes) (r : ℕ) (out : Bytes) → read ≡ Some x → rest ≡ drop x.len l → LineTold (next x.value rest) r out
      → LineTold (printed number_form next l) r out
  goes_number x rest r out q p h =
      as_read (printed number_form next l) (next x.value rest) r out (number-printed l next read e x q ∙ ap (next x.value) (sym p)) h

-- behind a word
module _ (name : Bytes) (next : ℕ → Bytes → LineRead) (l : Bytes) (t : Bool) (e : t ≡ starts_with name l) where
  pub no_word : (out : Bytes) → t ≡ false → LineTold (word name NoLine (printed number_form next) l) 0 out
  no_word out q = not-word name (printed number_form next) l out t e q

  module _ (rest : Bytes) (q : t ≡ true) (p : rest ≡ drop (length name) l) (read : Option Numeral) (f : read ≡ number_at rest) where
    pub word-no-number : (out : Bytes) → read ≡ None → LineTold (word name NoLine (printed number_form next) l) 0 out
    word-no-number out h = goes-word name NoLine (printed number_form next) l t e rest 0 out q p (no_number next rest read f out h)

    pub word_number : (x : Numeral) (tail : Bytes) (r : ℕ) (out : Bytes) → read ≡ Some x → tail ≡ drop x.len rest → LineTold (next x.value tail) r out
        → LineTold (word name NoLine (printed number_form next) l) r out
    word_number x tail r out g k h =
        goes-word name NoLine (printed number_form next) l t e rest r out q p (goes_number next rest read f x tail r out g k h)

-- ---- a key or a value, behind a word

module _ (name : Bytes) (most : ℕ) (next : Bytes → Bytes → LineRead) (l : Bytes) (t : Bool) (e : t ≡ starts_with name l) where
  pub no-text-word : (out : Bytes) → t ≡ false → LineTold (word name NoLine (printed (text_form most) next) l) 0 out
  no-text-word out q = not-word name (printed (text_form most) next) l out t e q

  module _ (rest left : Bytes) (q : t ≡ true) (p : rest ≡ drop (length name) l) (read : Option Shown)
      (f : (read ≡ text_at most rest) × Stored most (unshown (piece_of rest)) left) where
    pub word-no-text : (out : Bytes) → read ≡ None → LineTold (word name NoLine (printed (text_form most) next) l) 0 out
    word-no-text out h =
        goes-word name NoLine (printed (text_form most) next) l t e rest 0 out q p
        (as_read (printed (text_form most) next rest) NoLine 0 out (text-none most rest left next read f.0 f.1 h) refl)

    module _ (x : Shown) (g : read ≡ Some x) where
      few : x.len ≤ most
      few = (text-printed most rest left next read f.0 f.1 x g).1

      pub text-held : length left ≡ most → x.len ≤ length left
      text-held s = omega (arith, few)

      pub text-few : length left ≡ most → length (take x.len left) ≤ most
      text-few s = omega (arith, few, length-take-le x.len left (text-held s))

      pub word-text : (tail : Bytes) (r : ℕ) (out : Bytes) → tail ≡ drop x.took rest → LineTold (next (take x.len left) tail) r out
          → LineTold (word name NoLine (printed (text_form most) next) l) r out
      word-text tail r out b h =
          goes-word name NoLine (printed (text_form most) next) l t e rest r out q p
          (as_read (printed (text_form most) next rest) (next (take x.len left) tail) r out
          ((text-printed most rest left next read f.0 f.1 x g).0 ∙ ap (next (take x.len left)) (sym b)) h)

-- ---- the end of a line

-- what stands at the front when an operation was written
written : (o : Op) (out left : Bytes) (w : Option ℕ) → size_of o ≤ length out → Gives (write_op o out) w left
    → (size_told w ≡ size_of o) × (take (size_told w) left ≡ op_bytes o)
unfolding write_op size_of put
written o out left w h g = go (leb (length (op_bytes o)) (length out)) (le-leb (length (op_bytes o)) (length out) h) g.0 g.1
  where
    bytes : Bytes
    bytes = op_bytes o

    go : (t : Bool) → t ≡ true → w ≡ (pick t (given (Some (length bytes)) (put 0 bytes out)) (given None out)).answer
        → left ≡ (pick t (given (Some (length bytes)) (put 0 bytes out)) (given None out)).lent
        → (size_told w ≡ length bytes) × (take (size_told w) left ≡ bytes)
    go true q a b =
        let size : size_told w ≡ length bytes = ap size_told a in
        (size, ap (λ (k : ℕ). take k left) size ∙ ap (take (length bytes)) b ∙ take_at bytes (drop (0 + length bytes) out) (length bytes) refl)
    go false q a b = absurd (subst T (sym q) tt)

closed_is : (o : Op) (l : Bytes) → same_bytes line_feed l ≡ true → closed o l ≡ Line o []
unfolding starts_with
closed_is o l e = ap (closed o) (sym (same_true line_feed l e))

not-closed : (o : Op) (l : Bytes) (out : Bytes) → same_bytes line_feed l ≡ false → LineTold (closed o l) 0 out
not-closed o l out e = go (starts_with line_feed l) refl
  where
    rest_some : (rest : Bytes) → (rest ≡ [] → ⊥) → LineTold (Line o rest) 0 out
    rest_some [] h = absurd (h refl)
    rest_some (b ∷ rest) h = refl

    go : (t : Bool) → starts_with line_feed l ≡ t → LineTold (pick t (Line o (drop 1 l)) NoLine) 0 out
    go true q = rest_some (drop 1 l) (λ z. same_false line_feed l e (ap (λ (r : Bytes). line_feed ++ r) (sym z) ∙ starts-then line_feed l q))
    go false q = refl

module _ (o : Op) (l : Bytes) (t : Bool) (e : t ≡ same_bytes line_feed l) where
  pub no_end : (out : Bytes) → t ≡ false → LineTold (closed o l) 0 out
  no_end out q = let f : same_bytes line_feed l ≡ false = cc in not-closed o l out f

  pub ends : (out left : Bytes) (w : Option ℕ) (r : ℕ) → t ≡ true → size_of o ≤ length out → Gives (write_op o out) w left → r ≡ size_told w
      → LineTold (closed o l) r left
  ends out left w r q h g p =
      let f : same_bytes line_feed l ≡ true = cc in
      let is = written o out left w h g in
      as_read (closed o l) (Line o []) r left (closed_is o l f) (p ∙ is.0, ap (λ (k : ℕ). take k left) p ∙ is.1)

-- ---- sizes

pub node-fits : (n g f k : ℕ) → longest_op ≤ k → size_of (NodeOp n g f) ≤ k
node-fits n g f k h = omega (arith, size-node n g f)

pub max-fits : (m k : ℕ) → longest_op ≤ k → size_of (SetMaxVersionOp m) ≤ k
max-fits m k h = omega (arith, size-max m)

pub record-fits : (key value : Bytes) (n : ℕ) (st : Status) (k : ℕ) → length key ≤ max_key → length value ≤ max_value → longest_op ≤ k
    → size_of (key_value key value n st) ≤ k
record-fits key value n st k p q h = omega (arith, size-record (record { key = key; value = value; version = n; status = st }))
