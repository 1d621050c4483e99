-- Laws of texts in a buffer and of decimal digits: one text behind another is the two joined; a number's digits are those of its tenth and one
-- more, and at most twenty. Assumes nothing.
use Prim.Native.Nat.{ℕ, zero, suc, ◌+◌, ◌-◌, ◌*◌, ◌/◌, ◌%◌, ◌^◌, ◌≤◌, ◌<◌}
use mathlib.Core.Path.{◌≡◌, refl, ap, sym, ◌∙◌, subst}
use native.Mathlib.Decide.{dec_le}
use mathlib.Core.Bool.{Bool, true, false}
use mathlib.Core.List.{List, [], ◌∷◌, ◌++◌, append_assoc}
use native.Mathlib.Omega.{arith}
use native.Mathlib.Nat.{div-lt_iff_lt-mul, pow-suc}
use native.Mathlib.Numerals.{add-one}
use lib.ListN.{length, get_or, drop, set, length-append}
use lib.Seq.{drop-cons}
use lib.Dec.{lit<}
use borrow.Author.Tests.{lt-ltb, le-ltb}
use Rattle.fields.specs.Choice.{pick}
use Rattle.fields.specs.Numbers.{Bytes}
use Rattle.fields.specs.Parts.{put}
use Rattle.fields.proofs.Parts.{put-behind, put-nil, put-snoc, length-put}
use Rattle.rules.specs.Given.{Gives}
use Rattle.rules.specs.Listing.{digits, decimal, hex_digit, plain, shown_byte, shown_bytes}
use Rattle.listing_text.specs.Texts.{TextFits, put_text}

-- ---- one text behind another

-- what is promised of a text that was put: `after` is the buffer then, and r the place behind the text
abbrev pub Put : (at : ℕ) (text before after : Bytes) (r : ℕ) → Type 0
Put at text before after r = Gives (put_text at text before) r after

pub then : (at : ℕ) (vs ws l m n : Bytes) (r q : ℕ) → TextFits at (vs ++ ws) l → Put at vs l m r → Put r ws m n q → Put at (vs ++ ws) l n q
then at vs ws l m n r q h a b =
    let long : length (vs ++ ws) ≡ length vs + length ws = length-append vs ws in (
      omega (arith, a.0, b.0, long),
      b.1 ∙ ap (λ (k : ℕ). put k ws m) a.0 ∙ ap (put (at + length vs) ws) a.1 ∙ put-behind at vs ws l (omega (arith, long)),
    )

-- room for both is room for the first, and for the second behind it
pub fits-first : (at : ℕ) (vs ws l : Bytes) → TextFits at (vs ++ ws) l → TextFits at vs l
fits-first at vs ws l h = omega (arith, length-append vs ws)

-- a buffer stays as long
pub put-long : (at : ℕ) (vs l m : Bytes) (r : ℕ) → TextFits at vs l → Put at vs l m r → length m ≡ length l
put-long at vs l m r h a = ap length a.1 ∙ length-put at vs l h

pub fits-second : (at : ℕ) (vs ws l m : Bytes) (r : ℕ) → TextFits at (vs ++ ws) l → Put at vs l m r → TextFits r ws m
fits-second at vs ws l m r h a = omega (arith, put-long at vs l m r (fits-first at vs ws l h) a, length-append vs ws, a.0)

-- three texts, one behind the other, and the room of each
module _ (at : ℕ) (a b c l l₁ : Bytes) (r₁ : ℕ) (fits : TextFits at (a ++ (b ++ c)) l) (w₁ : Put at a l l₁ r₁) where
  pub fits-two : TextFits r₁ b l₁
  fits-two = fits-first r₁ b c l₁ (fits-second at a (b ++ c) l l₁ r₁ fits w₁)

  module _ (l₂ : Bytes) (r₂ : ℕ) (w₂ : Put r₁ b l₁ l₂ r₂) where
    pub fits-three : TextFits r₂ c l₂
    fits-three = fits-second r₁ b c l₁ l₂ r₂ (fits-second at a (b ++ c) l l₁ r₁ fits w₁) w₂

    pub three : (l₃ : Bytes) (r₃ : ℕ) → Put r₂ c l₂ l₃ r₃ → Put at (a ++ (b ++ c)) l l₃ r₃
    three l₃ r₃ w₃ =
        then at a (b ++ c) l l₁ l₃ r₁ r₃ fits w₁ (then r₁ b c l₁ l₂ l₃ r₂ r₃ (fits-second at a (b ++ c) l l₁ r₁ fits w₁) w₂ w₃)

-- ---- digits

digits-behind : (m n : ℕ) (b : List ℕ) → digits m n b ≡ digits m n [] ++ b
unfolding digits
digits-behind zero n b = refl
digits-behind (suc m) n b = elim (dec_le 10 n) [
  | no h ↦ rw (lt-ltb n 10 (omega arith))
  | yes h ↦
      let x : ℕ = 48 + n % 10 in
      rw (le-ltb n 10 h)
      (digits-behind m (n / 10) (x ∷ b)
      ∙ sym (append_assoc (digits m (n / 10) []) (x ∷ []) b)
      ∙ ap (λ (r : List ℕ). r ++ b) (sym (digits-behind m (n / 10) (x ∷ []))))
]

-- a bound that is enough may be one more
digits-enough : (m n : ℕ) (b : List ℕ) → n < 10 ^ suc m → digits (suc m) n b ≡ digits (suc (suc m)) n b
unfolding digits
digits-enough zero n b h = let g : n < 10 = h in rw (lt-ltb n 10 g)
digits-enough (suc m) n b h = elim (dec_le 10 n) [
  | no g ↦ rw (lt-ltb n 10 (omega arith))
  | yes g ↦
      rw (le-ltb n 10 g) (digits-enough m (n / 10) ((48 + n % 10) ∷ b) ((div-lt_iff_lt-mul (lit< tt)).1 (rw (pow-suc 10 (suc m)) at h)))
]

pub decimal-one : (n : ℕ) → n < 10 → decimal n ≡ (48 + n) ∷ []
unfolding decimal digits
decimal-one n h = rw (lt-ltb n 10 h)

digits_more : (m n : ℕ) (b : List ℕ) → 10 ≤ n → digits (suc m) n b ≡ digits m (n / 10) ((48 + n % 10) ∷ b)
unfolding digits
digits_more m n b h = rw (le-ltb n 10 h)

-- of a number of eight bytes
pub decimal-more : (n : ℕ) → 10 ≤ n → n < 2 ^ 64 → decimal n ≡ decimal (n / 10) ++ ((48 + n % 10) ∷ [])
unfolding decimal
decimal-more n h g =
    let x : List ℕ = (48 + n % 10) ∷ [] in
    let small : n / 10 < 10 ^ 19 = omega arith in
    digits_more 19 n [] h ∙ digits-enough 18 (n / 10) x small ∙ digits-behind 20 (n / 10) x

digits_long : (m n : ℕ) (b : List ℕ) → length (digits m n b) ≤ m + length b
unfolding digits
digits_long zero n b = omega arith
digits_long (suc m) n b = elim (dec_le 10 n) [
  | no h ↦ rw (lt-ltb n 10 (omega arith)) (omega arith)
  | yes h ↦ rw (le-ltb n 10 h) (omega (arith, digits_long m (n / 10) ((48 + n % 10) ∷ b)))
]

pub decimal-long : (n : ℕ) → length (decimal n) ≤ 20
unfolding decimal
decimal-long n = digits_long 20 n []

digits-some : (m n : ℕ) (b : List ℕ) → length b < length (digits (suc m) n b)
unfolding digits
digits-some zero n b = elim (dec_le 10 n) [
  | no h ↦ rw (lt-ltb n 10 (omega arith)) (omega arith)
  | yes h ↦ rw (le-ltb n 10 h) (omega arith)
]
digits-some (suc m) n b = elim (dec_le 10 n) [
  | no h ↦ rw (lt-ltb n 10 (omega arith)) (omega arith)
  | yes h ↦ subst (λ (r : List ℕ). length b < length r) (sym (digits_more (suc m) n b h)) (omega (arith, digits-some m (n / 10) ((48 + n % 10) ∷ b)))
]

pub decimal-some : (n : ℕ) → 0 < length (decimal n)
unfolding decimal
decimal-some n = digits-some 19 n []

-- the last digits of a number, as many as are asked for; all of them are its decimal
unfoldable pub last_digits : (many n : ℕ) → Bytes
last_digits zero n = []
last_digits (suc k) n = last_digits k (n / 10) ++ ((48 + n % 10) ∷ [])

pub last-all : (k n : ℕ) → n < 2 ^ 64 → k ≡ length (decimal n) → last_digits k n ≡ decimal n
unfolding last_digits
last-all zero n g e = absurd (omega (arith, decimal-some n))
last-all (suc k) n g e = elim (dec_le 10 n) [
  | yes h ↦
      let more : decimal n ≡ decimal (n / 10) ++ ((48 + n % 10) ∷ []) = decimal-more n h g in
      let few : k ≡ length (decimal (n / 10)) = omega (arith, ap length more, length-append (decimal (n / 10)) ((48 + n % 10) ∷ [])) in
      ap (λ (r : List ℕ). r ++ ((48 + n % 10) ∷ [])) (last-all k (n / 10) (omega arith) few) ∙ sym more
  | no h ↦
      let one : decimal n ≡ (48 + n) ∷ [] = decimal-one n (omega arith) in
      let none : k ≡ 0 = omega (arith, ap length one) in
      let same : n % 10 ≡ n = omega arith in
      rw (none, same, one)
]

long-last : (k n : ℕ) → length (last_digits k n) ≡ k
unfolding last_digits
long-last zero n = refl
long-last (suc k) n = omega (arith, length-append (last_digits k (n / 10)) ((48 + n % 10) ∷ []), long-last k (n / 10))

-- the last of them stored, the others are those of the tenth
pub put-last : (at i n b : ℕ) (l t : Bytes) → at < i → i ≤ length l → b ≡ 48 + n % 10 → put at (last_digits (i - at) n) l ≡ t
    → put at (last_digits (i - 1 - at) (n / 10)) (set l (i - 1) b) ≡ t
unfolding last_digits
put-last at i n b l t h g q p =
    let k : ℕ = i - 1 - at in
    let place : i - 1 ≡ at + length (last_digits k (n / 10)) = omega (arith, long-last k (n / 10)) in
    let next : i - at ≡ suc k = omega arith in
    ap (λ (j : ℕ). put at (last_digits k (n / 10)) (set l j b)) place
    ∙ put-snoc at b (last_digits k (n / 10)) l (omega (arith, place))
    ∙ ap (λ (x : ℕ). put at (last_digits k (n / 10) ++ (x ∷ [])) l) q
    ∙ ap (λ (j : ℕ). put at (last_digits j n) l) (sym next)
    ∙ p

-- none is left
pub put-none : (at i n : ℕ) (l t : Bytes) → i ≤ at → put at (last_digits (i - at) n) l ≡ t → l ≡ t
unfolding last_digits
put-none at i n l t e p =
    let z : i - at ≡ 0 = omega arith in
    sym (put-nil at l) ∙ ap (λ (j : ℕ). put at (last_digits j n) l) (sym z) ∙ p

-- ---- bytes as they are shown

-- of the bytes that are left, the first one, then the others
pub shown-next : (l : List ℕ) (i : ℕ) → i < length l → shown_bytes (drop i l) ≡ shown_byte (get_or l i 0) ++ shown_bytes (drop (i + 1) l)
unfolding shown_bytes
shown-next l i h = ap shown_bytes (drop-cons l i 0 h) ∙ ap (λ (k : ℕ). shown_byte (get_or l i 0) ++ shown_bytes (drop k l)) (sym (add-one i))

-- at most three for each
byte-long : (b : ℕ) → length (shown_byte b) ≤ 3
byte-long b = go (plain b)
  where
    go : (t : Bool) → length (pick t (b ∷ []) (37 ∷ hex_digit (b / 16) ∷ hex_digit (b % 16) ∷ [])) ≤ 3
    go true = omega arith
    go false = omega arith

pub shown-long : (l : List ℕ) → length (shown_bytes l) ≤ 3 * length l
unfolding shown_bytes
shown-long [] = omega arith
shown-long (b ∷ l) = omega (arith, length-append (shown_byte b) (shown_bytes l), byte-long b, shown-long l)
