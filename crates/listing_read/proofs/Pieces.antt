-- What was printed is read back, piece by piece: a word, a number, a key or a value. Assumes nothing.
use Prim.Native.Nat.{ℕ, zero, suc, ◌+◌, ◌/◌, ◌%◌, ◌^◌, ◌≤◌, ◌<◌}
use mathlib.Core.Path.{◌≡◌, refl, ap, sym, ◌∙◌, subst}
use mathlib.Core.Bool.{Bool, true, false}
use mathlib.Core.List.{[], ◌∷◌, ◌++◌}
use native.Mathlib.Decide.{dec_le}
use native.Mathlib.Omega.{arith}
use native.Mathlib.Nat.{div-lt_iff_lt-mul, pow-suc}
use lib.Dec.{T, eqb, leb, lit<}
use lib.ListN.{length}
use lib.Seq.{drop_at}
use borrow.Author.Tests.{le-leb, le-ltb, lt-ltb, ne_eqb}
use Rattle.fields.specs.Choice.{all, here, later, pick}
use Rattle.fields.specs.Numbers.{AreBytes, Bytes}
use Rattle.fields.proofs.Choice.{all_in, and_intro, and_left, and_right}
use Rattle.fields.proofs.Ordered.{same_self, starts-own}
use Rattle.rules.specs.Listing.{decimal, digits, hex_digit, plain, shown_byte, shown_bytes}
use Rattle.listing_read.specs.Unlist.{Form, LineRead, front, hex_value, is_byte, is_digit, is_graphic, number_form, printed, text_form, unshown, value_from, word}

-- ---- at the front of a text

-- a word is found, and what stands behind it is left
pub word_read : {R : Type 0} (name : Bytes) (other : R) (next : Bytes → R) (l : Bytes) → word name other next (name ++ l) ≡ next l
word_read name other next l = rw (starts-own name l, drop_at name l (length name) refl)

-- the text goes on with a byte that the test refuses, or ends
abbrev pub Stops : (p : ℕ → Bool) (l : Bytes) → Type 0
Stops p [] = Unit {0}
Stops p (b ∷ l) = p b ≡ false

front-all : (p : ℕ → Bool) (w l : Bytes) → all p w ≡ true → Stops p l → front p (w ++ l) ≡ w
unfolding front all
front-all p [] [] a s = refl
front-all p [] (b ∷ l) a s = rw s
front-all p (b ∷ w) l a s = rw (and_left (p b) (all p w) a) (ap (λ (r : Bytes). b ∷ r) (front-all p w l (and_right (p b) (all p w) a) s))

-- what a value must have to be read back: its bytes belong to the form, stand for it, and it is one that is printed
pub record Readable {A : Type 0} (form : Form A) (a : A) : Type 0 where
  pub own : all form.within (form.print a) ≡ true
  pub back : form.value (form.print a) ≡ a
  pub fit : form.fits a ≡ true

pub printed-read : {A : Type 0} (form : Form A) (a : A) (next : A → Bytes → LineRead) (l : Bytes) → Readable form a → Stops form.within l
    → printed form next (form.print a ++ l) ≡ next a l
printed-read form a next l r s =
    let w : Bytes = form.print a in
    rw (front-all form.within w l r.own s, r.back, r.fit, same_self w, drop_at w l (length w) refl)

-- ---- numbers

digits-all : (m n : ℕ) (b : Bytes) → all is_digit b ≡ true → all is_digit (digits m n b) ≡ true
unfolding digits all
digits-all zero n b h = h
digits-all (suc m) n b h = elim (dec_le 10 n) [
  | no g ↦ rw (lt-ltb n 10 (omega arith), le-leb 48 (48 + n) (omega arith), le-leb (48 + n) 57 (omega arith)) h
  | yes g ↦
      let x : ℕ = 48 + n % 10 in
      let one : all is_digit (x ∷ b) ≡ true = rw (le-leb 48 x (omega arith), le-leb x 57 (omega arith)) h in
      rw (le-ltb n 10 g) (digits-all m (n / 10) (x ∷ b) one)
]

-- one digit more
goes_on : (n : ℕ) (b : Bytes) → value_from (n / 10) ((48 + n % 10) ∷ b) ≡ value_from n b
unfolding value_from
goes_on n b = ap (λ (k : ℕ). value_from k b) (omega arith)

one-digit : (n : ℕ) (b : Bytes) → value_from 0 ((48 + n) ∷ b) ≡ value_from n b
unfolding value_from
one-digit n b = ap (λ (k : ℕ). value_from k b) (omega arith)

digits-back : (m n : ℕ) (b : Bytes) → n < 10 ^ suc m → value_from 0 (digits (suc m) n b) ≡ value_from n b
unfolding digits
digits-back zero n b h = let g : n < 10 = h in rw (lt-ltb n 10 g) (one-digit n b)
digits-back (suc m) n b h = elim (dec_le 10 n) [
  | no g ↦ rw (lt-ltb n 10 (omega arith)) (one-digit n b)
  | yes g ↦
      let small : n / 10 < 10 ^ suc m = (div-lt_iff_lt-mul (lit< tt)).1 (rw (pow-suc 10 (suc m)) at h) in
      rw (le-ltb n 10 g) (digits-back m (n / 10) ((48 + n % 10) ∷ b) small ∙ goes_on n b)
]

pub number-readable : (n : ℕ) → n < 256 ^ 8 → Readable number_form n
unfolding decimal value_from all
number-readable n h =
    record { own = digits-all 20 n [] refl; back = digits-back 19 n [] (omega arith); fit = lt-ltb n (256 ^ 8) h }

-- ---- keys and values

-- a digit and its value
module _ (n : ℕ) (h : n < 16) where
  hex-back : hex_value (hex_digit n) ≡ n
  unfolding hex_value hex_digit
  hex-back = elim (dec_le 10 n) [
    | no g ↦ rw (lt-ltb n 10 (omega arith), lt-ltb (48 + n) 58 (omega arith)) (omega arith)
    | yes g ↦ rw (le-ltb n 10 g, le-ltb (55 + n) 58 (omega arith)) (omega arith)
  ]

  hex-graphic : is_graphic (hex_digit n) ≡ true
  unfolding hex_digit
  hex-graphic = elim (dec_le 10 n) [
    | no g ↦ rw (lt-ltb n 10 (omega arith), le-leb 33 (48 + n) (omega arith), le-leb (48 + n) 126 (omega arith))
    | yes g ↦ rw (le-ltb n 10 g, le-leb 33 (55 + n) (omega arith), le-leb (55 + n) 126 (omega arith))
  ]

-- a byte that is shown as itself is no `%`
plain_other : (b : ℕ) → plain b ≡ true → eqb b 37 ≡ false
unfolding plain
plain_other b h = ne_eqb b 37 (λ e. let f : plain 37 ≡ true = subst (λ (k : ℕ). plain k ≡ true) e h in absurd (subst T (sym f) tt))

plain-graphic : (b : ℕ) → plain b ≡ true → is_graphic b ≡ true
unfolding plain
plain-graphic b h =
    let behind = and_right (leb 33 b) _ h in
    and_intro (leb 33 b) (leb b 126) (and_left (leb 33 b) _ h) (and_left (leb b 126) _ behind)

unshown-itself : (b : ℕ) (l : Bytes) → eqb b 37 ≡ false → unshown (b ∷ l) ≡ b ∷ unshown l
unfolding unshown
unshown-itself b [] h = refl
unshown-itself b (c ∷ []) h = refl
unshown-itself b (c ∷ d ∷ l) h = rw h

-- one byte
module _ (b : ℕ) (h : b < 256) (l : Bytes) where
  byte-back : unshown (shown_byte b ++ l) ≡ b ∷ unshown l
  unfolding unshown
  byte-back = go (plain b) refl
    where
      go : (t : Bool) → plain b ≡ t → unshown (pick t (b ∷ []) (37 ∷ hex_digit (b / 16) ∷ hex_digit (b % 16) ∷ []) ++ l) ≡ b ∷ unshown l
      go true p = unshown-itself b l (plain_other b p)
      go false p = rw (hex-back (b / 16) (omega arith), hex-back (b % 16) (omega arith)) (ap (λ (k : ℕ). k ∷ unshown l) (omega arith))

  byte-graphic : all is_graphic l ≡ true → all is_graphic (shown_byte b ++ l) ≡ true
  unfolding all
  byte-graphic a = go (plain b) refl
    where
      go : (t : Bool) → plain b ≡ t → all is_graphic (pick t (b ∷ []) (37 ∷ hex_digit (b / 16) ∷ hex_digit (b % 16) ∷ []) ++ l) ≡ true
      go true p = and_intro (is_graphic b) (all is_graphic l) (plain-graphic b p) a
      go false p =
          let low : all is_graphic (hex_digit (b % 16) ∷ l) ≡ true = and_intro (is_graphic (hex_digit (b % 16))) _ (hex-graphic (b % 16) (omega arith)) a in
          and_intro (is_graphic (hex_digit (b / 16))) _ (hex-graphic (b / 16) (omega arith)) low

shown-back : (t : Bytes) → AreBytes t → unshown (shown_bytes t) ≡ t
unfolding unshown shown_bytes
shown-back [] h = refl
shown-back (b ∷ t) h = byte-back b (h b (here refl)) (shown_bytes t) ∙ ap (λ (r : Bytes). b ∷ r) (shown-back t (λ x m. h x (later m)))

shown-graphic : (t : Bytes) → AreBytes t → all is_graphic (shown_bytes t) ≡ true
unfolding all shown_bytes
shown-graphic [] h = refl
shown-graphic (b ∷ t) h = byte-graphic b (h b (here refl)) (shown_bytes t) (shown-graphic t (λ x m. h x (later m)))

pub text-readable : (most : ℕ) (t : Bytes) → AreBytes t → length t ≤ most → Readable (text_form most) t
text-readable most t h g = record { own = shown-graphic t h; back = shown-back t h; fit = and_intro (leb (length t) most) (all is_byte t) (le-leb (length t) most g) (all_in is_byte t (λ x m. lt-ltb x 256 (h x m))) }
