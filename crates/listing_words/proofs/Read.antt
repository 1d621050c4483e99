-- Laws of what stands at the front of a text: how far a test goes, what digits are worth, what a shown text stands for, and that what code answers is what
-- the reader of listings goes by. Assumes nothing.
use Prim.Native.Nat.{ℕ, suc, ◌+◌, ◌-◌, ◌*◌, ◌^◌, ◌≤◌, ◌<◌}
use mathlib.Core.Path.{◌≡◌, refl, ap, sym, ◌∙◌, subst}
use mathlib.Core.Bool.{Bool, true, false, ◌&&◌}
use mathlib.Core.List.{[], ◌∷◌, ◌++◌, append_assoc, append-nil}
use native.Mathlib.Numerals.{add-one}
use native.Mathlib.Omega.{arith}
use lib.Dec.{eqb, leb, ltb}
use lib.ListN.{length, drop, take, get_or, set, length-append, drop_of_length-le, length-drop}
use lib.Seq.{drop-cons, length-take-le, take_at, take-suc-set}
use borrow.Author.Tests.{eqb-true, le-leb, le-ltb, leb-true, lt-ltb, ltb-false, ltb-true}
use Rattle.fields.specs.Choice.{◌∈◌, all, here, pick}
use Rattle.fields.specs.Numbers.{Bytes}
use Rattle.fields.specs.Order.{same_bytes}
use Rattle.fields.specs.Parts.{put}
use Rattle.fields.proofs.Parts.{length-put}
use Rattle.rules.specs.Given.{Gives}
use Rattle.listing_text.specs.Texts.{put_text}
use Rattle.fields.proofs.Choice.{all_from, and_assoc, and_intro, and_left, and_right, in_right}
use Rattle.rules.specs.Listing.{decimal, shown_bytes}
use Rattle.listing_read.specs.Unlist.{LineRead, NoLine, front, hex_value, is_byte, is_digit, is_graphic, number_form, printed, text_form, unshown, value_from}
use Rattle.listing_words.specs.Words.{Stored, TextRead, Unshows, count_of, digits_at, grown, number_at, numeral_of, piece_of, text_at, text_fits}
use Rattle.std.specs.Prelude.{None, Option, Some}
use Rattle.std.specs.Bool.{then_some}
use Rattle.std.proofs.lemmas.Option.{none-some}
use Rattle.rules.proofs.Results.{some-is}
use Rattle.listing_words.specs.declared.Numeral.{Numeral}
use Rattle.listing_words.specs.declared.Shown.{Shown}

-- ---- what an answer that was picked holds

picked : {X : Type 0} (t : Bool) (x y : X) → Some x ≡ pick t (Some y) None → (t ≡ true) × (x ≡ y)
picked true x y e = (refl, some-is x y e)
picked false x y e = absurd (none-some x (sym e))

not-picked : {X : Type 0} (t : Bool) (y : X) → None ≡ pick t (Some y) None → t ≡ false
not-picked true y e = absurd (none-some y e)
not-picked false y e = refl

then-picked : {X : Type 0} (t : Bool) (x : X) → then_some t x ≡ pick t (Some x) None
then-picked true x = refl
then-picked false x = refl

-- ---- a text that was put to the front of a buffer

front-put : (t own : Bytes) → take (length t) (put 0 t own) ≡ t
unfolding put
front-put t own = take_at t (drop (0 + length t) own) (length t) refl

module _ (t own left : Bytes) (n : ℕ) (room : length t ≤ length own) (w : Gives (put_text 0 t own) n left) where
  pub put-within : n ≤ length left
  put-within = omega (arith, w.0, ap length w.1, length-put 0 t own (omega arith))

  pub put_front : take n left ≡ t
  put_front =
      ap (λ (k : ℕ). take k left) w.0
      ∙ ap (take (0 + length t)) w.1
      ∙ ap (λ (k : ℕ). take k (put 0 t own)) (let e : 0 + length t ≡ length t = omega arith in e)
      ∙ front-put t own

-- ---- how far a test goes

module _ (p : ℕ → Bool) (l : Bytes) (i : ℕ) where
  pub front-more : (t : Bool) → i < length l → t ≡ p (get_or l i 0) → t ≡ true → front p (drop i l) ≡ get_or l i 0 ∷ front p (drop (i + 1) l)
  unfolding front
  front-more t h e q =
      let yes : p (get_or l i 0) ≡ true = cc in
      ap (front p) (drop-cons l i 0 h)
      ∙ ap (λ (x : Bool). pick x (get_or l i 0 ∷ front p (drop (suc i) l)) []) yes
      ∙ ap (λ (k : ℕ). get_or l i 0 ∷ front p (drop k l)) (sym (add-one i))

  pub front-stops : (t : Bool) → i < length l → t ≡ p (get_or l i 0) → t ≡ false → front p (drop i l) ≡ []
  unfolding front
  front-stops t h e q =
      let no : p (get_or l i 0) ≡ false = cc in
      ap (front p) (drop-cons l i 0 h) ∙ ap (λ (x : Bool). pick x (get_or l i 0 ∷ front p (drop (suc i) l)) []) no

  pub front_ends : length l ≤ i → front p (drop i l) ≡ []
  unfolding front
  front_ends h = ap (front p) (drop_of_length-le l h)

pub front_long : (p : ℕ → Bool) (l : Bytes) → length (front p l) ≤ length l
unfolding front
front_long p [] = omega arith
front_long p (b ∷ l) = go (p b) (front_long p l)
  where
    go : (t : Bool) → length (front p l) ≤ length l → length (pick t (b ∷ front p l) []) ≤ suc (length l)
    go true h = omega arith
    go false h = omega arith

pub front-take : (p : ℕ → Bool) (l : Bytes) → take (length (front p l)) l ≡ front p l
unfolding front
front-take p [] = refl
front-take p (b ∷ l) = go (p b) (front-take p l)
  where
    go : (t : Bool) → take (length (front p l)) l ≡ front p l → take (length (pick t (b ∷ front p l) [])) (b ∷ l) ≡ pick t (b ∷ front p l) []
    go true h = ap (λ (r : Bytes). b ∷ r) h
    go false h = refl

-- ---- numbers

-- digits only make a number greater
value_grows : (l : Bytes) (n : ℕ) → n ≤ value_from n l
unfolding value_from
value_grows [] n = omega arith
value_grows (b ∷ l) n = omega (arith, value_grows l (n * 10 + (b - 48)))

module _ (l : Bytes) (v i whole b : ℕ) (e : front is_digit (drop i l) ≡ b ∷ front is_digit (drop (i + 1) l)) where
  pub value-next : value_from v (front is_digit (drop i l)) ≡ whole → value_from (v * 10 + (b - 48)) (front is_digit (drop (i + 1) l)) ≡ whole
  unfolding value_from
  value-next h = ap (value_from v) (sym e) ∙ h

  pub length-next : (n : ℕ) → i + length (front is_digit (drop i l)) ≡ n → i + 1 + length (front is_digit (drop (i + 1) l)) ≡ n
  length-next n h = omega (arith, ap length e)

-- too large with some of the digits is too large with all
pub value-over : (l d : Bytes) (w : ℕ) → 256 ^ 8 ≤ w → value_from w d ≡ value_from 0 l → None ≡ numeral_of l
unfolding numeral_of
value-over l d w h e =
    let big : 256 ^ 8 ≤ value_from 0 l = omega (arith, value_grows d w) in
    rw (le-ltb (value_from 0 l) (256 ^ 8) big)

pub value-all : (l : Bytes) (v n : ℕ) → v < 256 ^ 8 → v ≡ value_from 0 l → n ≡ length l → Some (record { value = v; len = n }) ≡ numeral_of l
unfolding numeral_of
value-all l v n h e g =
    let small : value_from 0 l < 256 ^ 8 = omega arith in
    rw (lt-ltb (value_from 0 l) (256 ^ 8) small, e, g)

-- one digit more
module _ (v b : ℕ) (r : Option ℕ) (e : r ≡ grown v b) where
  pub grown-is : (m : ℕ) → r ≡ Some m → (m ≡ v * 10 + (b - 48)) × (m < 256 ^ 8)
  unfolding grown
  grown-is m q =
      let next : ℕ = v * 10 + (b - 48) in
      let p : (ltb next (256 ^ 8) ≡ true) × (m ≡ next) = picked _ _ _ (sym q ∙ e) in
      (p.1, omega (arith, p.1, ltb-true next (256 ^ 8) p.0))

  pub grown-not : r ≡ None → 256 ^ 8 ≤ v * 10 + (b - 48)
  unfolding grown
  grown-not q = ltb-false (v * 10 + (b - 48)) (256 ^ 8) (not-picked _ _ (sym q ∙ e))

pub digits-next : (l : Bytes) (v i b : ℕ) (r : Option ℕ) → front is_digit (drop i l) ≡ b ∷ front is_digit (drop (i + 1) l)
    → value_from v (front is_digit (drop i l)) ≡ value_from 0 (front is_digit l) → i + length (front is_digit (drop i l)) ≡ length (front is_digit l) → r ≡ grown v b
    → (m : ℕ) → r ≡ Some m
    → (value_from m (front is_digit (drop (i + 1) l)) ≡ value_from 0 (front is_digit l))
    × (i + 1 + length (front is_digit (drop (i + 1) l)) ≡ length (front is_digit l))
    × (m < 256 ^ 8)
digits-next l v i b r e h k g m q =
    let grew = grown-is v b r g m q in
    let all : ℕ = value_from 0 (front is_digit l) in (
      ap (λ (n : ℕ). value_from n (front is_digit (drop (i + 1) l))) grew.0 ∙ value-next l v i all b e h,
      length-next l v i all b e (length (front is_digit l)) k,
      grew.1,
    )

pub digits-over : (l : Bytes) (v i b : ℕ) (r : Option ℕ) → front is_digit (drop i l) ≡ b ∷ front is_digit (drop (i + 1) l)
    → value_from v (front is_digit (drop i l)) ≡ value_from 0 (front is_digit l) → r ≡ grown v b → r ≡ None → None ≡ digits_at l
digits-over l v i b r e h g q =
    value-over (front is_digit l) (front is_digit (drop (i + 1) l)) (v * 10 + (b - 48)) (grown-not v b r g q) (value-next l v i _ b e h)

pub digits-all : (l : Bytes) (v i : ℕ) → front is_digit (drop i l) ≡ [] → value_from v (front is_digit (drop i l)) ≡ value_from 0 (front is_digit l)
    → i + length (front is_digit (drop i l)) ≡ length (front is_digit l) → v < 256 ^ 8 → Some (record { value = v; len = i }) ≡ digits_at l
unfolding value_from
digits-all l v i e h g s = value-all (front is_digit l) v i s (ap (value_from v) (sym e) ∙ h) (omega (arith, ap length e))

-- what was read by its digits, as it is printed
module _ (l : Bytes) (r : Option Numeral) (e : r ≡ digits_at l) where
  pub number-not : r ≡ None → None ≡ number_at l
  unfolding numeral_of number_at
  number-not q = rw (not-picked _ _ (sym q ∙ e))

  module _ (x : Numeral) (q : r ≡ Some x) where
    numeral-is : (ltb (value_from 0 (front is_digit l)) (256 ^ 8) ≡ true)
        × (x ≡ record { value = value_from 0 (front is_digit l); len = length (front is_digit l) })
    unfolding numeral_of
    numeral-is = picked _ _ _ (sym q ∙ e)

    pub numeral-within : x.len ≤ length l
    numeral-within = omega (arith, ap (λ (y : Numeral). y.len) numeral-is.1, front_long is_digit l)

    same-piece : (s : Bool) → s ≡ same_bytes (decimal x.value) (take x.len l) → s ≡ same_bytes (decimal (value_from 0 (front is_digit l))) (front is_digit l)
    same-piece s g =
        g
        ∙ ap (λ (y : Numeral). same_bytes (decimal y.value) (take y.len l)) numeral-is.1
        ∙ ap (same_bytes (decimal (value_from 0 (front is_digit l)))) (front-take is_digit l)

    pub number-is : (s : Bool) → s ≡ same_bytes (decimal x.value) (take x.len l) → then_some s x ≡ number_at l
    unfolding number_at
    number-is s g =
        then-picked s x ∙ ap (λ (y : Numeral). pick s (Some y) None) numeral-is.1 ∙ rw (numeral-is.0, sym (same-piece s g))

-- what the reader of listings does then
module _ (l : Bytes) (next : ℕ → Bytes → LineRead) (r : Option Numeral) (e : r ≡ number_at l) where
  pub number-printed : (x : Numeral) → r ≡ Some x → printed number_form next l ≡ next x.value (drop x.len l)
  unfolding number_at
  number-printed x q =
      let p = picked _ _ _ (sym q ∙ e) in
      rw p.0 (ap (λ (y : Numeral). next y.value (drop y.len l)) (sym p.1))

  pub number-none : r ≡ None → printed number_form next l ≡ NoLine
  unfolding number_at
  number-none q = rw (not-picked _ _ (sym q ∙ e))

-- ---- keys and values

-- what the byte at `i` stands for
unshown-one : (a : ℕ) (l : Bytes) → (eqb a 37 ≡ true → length l < 2) → unshown (a ∷ l) ≡ a ∷ unshown l
unfolding unshown
unshown-one a [] h = refl
unshown-one a (b ∷ []) h = refl
unshown-one a (b ∷ c ∷ l) h = go (eqb a 37) refl
  where
    go : (t : Bool) → eqb a 37 ≡ t → pick t ((hex_value b * 16 + hex_value c) ∷ unshown l) (a ∷ unshown (b ∷ c ∷ l)) ≡ a ∷ unshown (b ∷ c ∷ l)
    go true q = let k = h q in absurd (omega arith)
    go false q = refl

module _ (l : Bytes) (i : ℕ) (h : i < length l) where
  pub one_last : (b : ℕ) → b ≡ get_or l i 0 → length l - i < 3 → unshown (drop i l) ≡ b ∷ unshown (drop (i + 1) l)
  one_last b e g =
      ap unshown (drop-cons l i 0 h)
      ∙ unshown-one (get_or l i 0) (drop (suc i) l) (λ q. omega (arith, length-drop (suc i) l))
      ∙ ap (λ (k : ℕ). get_or l i 0 ∷ unshown (drop k l)) (sym (add-one i))
      ∙ ap (λ (k : ℕ). k ∷ unshown (drop (i + 1) l)) (sym e)

  pub one-itself : (b : ℕ) → b ≡ get_or l i 0 → (get_or l i 0 ≡ 37 → ⊥) → unshown (drop i l) ≡ b ∷ unshown (drop (i + 1) l)
  one-itself b e g =
      ap unshown (drop-cons l i 0 h)
      ∙ unshown-one (get_or l i 0) (drop (suc i) l) (λ q. absurd (g (eqb-true _ _ q)))
      ∙ ap (λ (k : ℕ). get_or l i 0 ∷ unshown (drop k l)) (sym (add-one i))
      ∙ ap (λ (k : ℕ). k ∷ unshown (drop (i + 1) l)) (sym e)

  pub one-escaped : (x y : ℕ) → 3 ≤ length l - i → get_or l i 0 ≡ 37 → x ≡ hex_value (get_or l (i + 1) 0) → y ≡ hex_value (get_or l (i + 2) 0)
      → unshown (drop i l) ≡ (x * 16 + y) ∷ unshown (drop (i + 3) l)
  unfolding unshown
  one-escaped x y g e p q =
      let one : drop i l ≡ get_or l i 0 ∷ drop (suc i) l = drop-cons l i 0 h in
      let two : drop (suc i) l ≡ get_or l (suc i) 0 ∷ drop (suc (suc i)) l = drop-cons l (suc i) 0 (omega arith) in
      let three : drop (suc (suc i)) l ≡ get_or l (suc (suc i)) 0 ∷ drop (suc (suc (suc i))) l = drop-cons l (suc (suc i)) 0 (omega arith) in
      let j : i + 1 ≡ suc i = omega arith in
      let k : i + 2 ≡ suc (suc i) = omega arith in
      let m : i + 3 ≡ suc (suc (suc i)) = omega arith in
      rw (p, q, j, k, m, one, two, three, e)

pub none-bytes : all is_byte [] ≡ true
unfolding all
none-bytes = refl

all_append : (a c : Bytes) → all is_byte (a ++ c) ≡ (all is_byte a && all is_byte c)
unfolding all
all_append [] c = refl
all_append (b ∷ a) c = ap (λ (t : Bool). is_byte b && t) (all_append a c) ∙ sym (and_assoc (is_byte b) (all is_byte a) (all is_byte c))

-- one byte more is stored
pub one_more : (piece out : Bytes) (n i v k : ℕ) → take n out ++ unshown (drop i piece) ≡ unshown piece → all is_byte (take n out) ≡ true
    → unshown (drop i piece) ≡ v ∷ unshown (drop (i + k) piece) → v < 256 → n < length out
    → (take (n + 1) (set out n v) ++ unshown (drop (i + k) piece) ≡ unshown piece) × (all is_byte (take (n + 1) (set out n v)) ≡ true)
unfolding all
one_more piece out n i v k e a u h g =
    let stored : take (n + 1) (set out n v) ≡ take n out ++ (v ∷ []) = ap (λ (j : ℕ). take j (set out n v)) (add-one n) ∙ take-suc-set out n v g in
    let rest : Bytes = unshown (drop (i + k) piece) in (
      ap (λ (x : Bytes). x ++ rest) stored
          ∙ append_assoc (take n out) (v ∷ []) rest
          ∙ ap (λ (x : Bytes). take n out ++ x) (sym u)
          ∙ e,
      ap (all is_byte) stored ∙ all_append (take n out) (v ∷ []) ∙ and_intro (all is_byte (take n out)) (all is_byte (v ∷ [])) a (rw (lt-ltb v 256 h)),
    )

-- what is answered where the text does not fit
unfit : (most : ℕ) (t : Bytes) (X : Type 0) → (text_fits most t ≡ true → ⊥) → (None ≡ count_of most t) × (text_fits most t ≡ true → X)
unfolding count_of
unfit most t X h = (go (text_fits most t) refl, λ e. absurd (h e))
  where
    go : (b : Bool) → text_fits most t ≡ b → None ≡ pick b (Some (length t)) None
    go true e = absurd (h e)
    go false e = refl

module _ (piece out left : Bytes) (v k : ℕ) where
  pub not-bytes : (n i : ℕ) → take n out ++ unshown (drop i piece) ≡ unshown piece → unshown (drop i piece) ≡ v ∷ unshown (drop (i + k) piece) → 256 ≤ v
      → (None ≡ count_of (length left) (unshown piece))
      × (text_fits (length left) (unshown piece) ≡ true → take (length (unshown piece)) out ≡ unshown piece)
  not-bytes n i e u h =
      unfit (length left) (unshown piece) _
      (λ f.
      let bytes : all is_byte (unshown piece) ≡ true = and_right (leb (length (unshown piece)) (length left)) _ f in
      let whole : unshown piece ≡ take n out ++ (v ∷ unshown (drop (i + k) piece)) = sym e ∙ ap (λ (x : Bytes). take n out ++ x) u in
      let small : is_byte v ≡ true = all_from is_byte (unshown piece) bytes v (subst (λ (x : Bytes). v ∈ x) (sym whole) (in_right (take n out) (here refl))) in
      let less = ltb-true v 256 small in
      omega arith)

  pub no_room : (n i : ℕ) → length out ≡ length left → n ≤ length out → take n out ++ unshown (drop i piece) ≡ unshown piece
      → unshown (drop i piece) ≡ v ∷ unshown (drop (i + k) piece) → length out ≤ n
      → (None ≡ count_of (length left) (unshown piece))
      × (text_fits (length left) (unshown piece) ≡ true → take (length (unshown piece)) out ≡ unshown piece)
  no_room n i s m e u h =
      unfit (length left) (unshown piece) _
      (λ f.
      let short = leb-true (length (unshown piece)) (length left) (and_left (leb (length (unshown piece)) (length left)) _ f) in
      let long : length (unshown piece) ≡ length (take n out) + suc (length (unshown (drop (i + k) piece))) =
      ap length (sym e ∙ ap (λ (x : Bytes). take n out ++ x) u) ∙ length-append (take n out) (v ∷ unshown (drop (i + k) piece)) in
      omega (arith, long, length-take-le n out m))

pub all_shown : (piece out left : Bytes) (n i : ℕ) → length out ≡ length left → n ≤ length out → take n out ++ unshown (drop i piece) ≡ unshown piece
    → all is_byte (take n out) ≡ true → length piece ≤ i
    → (Some n ≡ count_of (length left) (unshown piece))
    × (text_fits (length left) (unshown piece) ≡ true → take (length (unshown piece)) out ≡ unshown piece)
unfolding count_of unshown
all_shown piece out left n i s m e a h =
    let whole : take n out ≡ unshown piece =
    sym (append-nil (take n out)) ∙ ap (λ (x : Bytes). take n out ++ unshown x) (sym (drop_of_length-le piece {i = i} h)) ∙ e in
    let long : length (unshown piece) ≡ n = sym (ap length whole) ∙ length-take-le n out m in
    let fits : text_fits (length left) (unshown piece) ≡ true =
    and_intro (leb (length (unshown piece)) (length left)) (all is_byte (unshown piece)) (le-leb (length (unshown piece)) (length left) (omega arith)) (ap (all is_byte) (sym whole) ∙ a) in
    (rw (fits, long), λ f. ap (λ (k : ℕ). take k out) long ∙ whole)

-- the text at the front
module _ (l out left : Bytes) (took : ℕ) (k : took ≡ length (piece_of l)) (r : Option ℕ) (u : Unshows (take took l) out r left) where
  piece_is : take took l ≡ piece_of l
  piece_is = ap (λ (j : ℕ). take j l) k ∙ front-take is_graphic l

  told : Unshows (piece_of l) out r left
  told = subst (λ (p : Bytes). Unshows p out r left) piece_is u

  pub text-not : r ≡ None → TextRead l out None left
  unfolding count_of text_at
  text-not q = (rw (not-picked _ _ (sym q ∙ told.0)), told.1)

  module _ (n : ℕ) (q : r ≡ Some n) where
    count-is : (text_fits (length out) (unshown (piece_of l)) ≡ true) × (n ≡ length (unshown (piece_of l)))
    unfolding count_of
    count-is = picked _ _ _ (sym q ∙ told.0)

    count-within : n ≤ length out
    count-within =
        let t : Bytes = unshown (piece_of l) in
        omega (arith, count-is.1, leb-true (length t) (length out) (and_left (leb (length t) (length out)) _ count-is.0))

    pub count-held : length left ≡ length out → n ≤ length left
    count-held s = omega (arith, count-within)

    pub count-short : length left ≡ length out → length out ≤ 64 → length (take n left) ≤ 64
    count-short s h = omega (arith, count-within, length-take-le n left (count-held s))

    same-shown : (s : Bool) → s ≡ same_bytes (shown_bytes (take n left)) (take took l)
        → s ≡ same_bytes (shown_bytes (unshown (piece_of l))) (piece_of l)
    same-shown s g =
        g
        ∙ ap (λ (x : Bytes). same_bytes (shown_bytes x) (take took l)) (ap (λ (j : ℕ). take j left) count-is.1 ∙ told.1 count-is.0)
        ∙ ap (same_bytes (shown_bytes (unshown (piece_of l)))) piece_is

    pub text-is : (s : Bool) → s ≡ same_bytes (shown_bytes (take n left)) (take took l)
        → TextRead l out (then_some s (record { len = n; took = took })) left
    unfolding text_at
    text-is s g = (then-picked s _ ∙ rw (count-is.0, sym (same-shown s g), count-is.1, k), told.1)

-- what the reader of listings does then
module _ (most : ℕ) (l out : Bytes) (next : Bytes → Bytes → LineRead) (r : Option Shown) (e : r ≡ text_at most l)
    (w : Stored most (unshown (piece_of l)) out) where
  pub text-printed : (x : Shown) → r ≡ Some x → (printed (text_form most) next l ≡ next (take x.len out) (drop x.took l)) × (x.len ≤ most)
  unfolding text_at
  text-printed x q =
      let t : Bytes = unshown (piece_of l) in
      let p = picked _ _ _ (sym q ∙ e) in
      let fits : text_fits most t ≡ true = and_left (text_fits most t) _ p.0 in
      let len : x.len ≡ length t = ap (λ (y : Shown). y.len) p.1 in
      let stored : take x.len out ≡ t = ap (λ (j : ℕ). take j out) len ∙ w fits in
      let took : x.took ≡ length (piece_of l) = ap (λ (y : Shown). y.took) p.1 in
      (rw (p.0, stored, took), omega (arith, len, leb-true (length t) most (and_left (leb (length t) most) _ fits)))

  pub text-none : r ≡ None → printed (text_form most) next l ≡ NoLine
  unfolding text_at
  text-none q = rw (not-picked _ _ (sym q ∙ e))
