-- Bytes that all pass a test, of which i are passed; digits, and the number that they state. Assumes nothing.
use Prim.Native.Nat.{ℕ, zero, suc, ◌+◌, ◌*◌, ◌-◌, ◌≤◌, ◌<◌}
use mathlib.Core.Path.{◌≡◌, ◌∙◌, ap, refl, sym}
use mathlib.Core.Bool.{Bool, true, ◌&&◌}
use mathlib.Core.List.{List, [], ◌∷◌}
use native.Mathlib.Numerals.{add-one}
use native.Mathlib.Omega.{arith}
use lib.Dec.{leb}
use lib.ListN.{length, drop, get_or, drop_of_length-le}
use lib.Seq.{drop-cons}
use borrow.Author.Tests.{leb-true, ne_eqb}
use Rattle.std.specs.List.{list_all}
use Rattle.fields.specs.Choice.{pick, all}
use Rattle.fields.proofs.Choice.{and_left, and_right}
use Rattle.rules.specs.Node.{scheduled}
use Rattle.rules.specs.Profile.{is_digit, max_digits, meter_value, numeral}
use Rattle.rules.specs.declared.Status.{Status}

-- ---- all bytes

-- all, as the library says it
pub list_all-all : (p : ℕ → Bool) (l : List ℕ) → list_all p l ≡ all p l
unfolding all
list_all-all p [] = refl
list_all-all p (b ∷ l) = ap (λ (t : Bool). p b && t) (list_all-all p l)

module _ (p : ℕ → Bool) (l : List ℕ) (i : ℕ) where
  module _ (h : i < length l) where
    first : all p (drop i l) ≡ (p (get_or l i 0) && all p (drop (i + 1) l))
    unfolding all
    first = ap (all p) (drop-cons l i 0 h) ∙ rw add-one refl

    pub all_here : all p (drop i l) ≡ true → (p (get_or l i 0) ≡ true) × (all p (drop (i + 1) l) ≡ true)
    all_here e = (and_left (p (get_or l i 0)) (all p (drop (i + 1) l)) (sym first ∙ e), and_right (p (get_or l i 0)) (all p (drop (i + 1) l)) (sym first ∙ e))

-- ---- bytes

module _ (b : ℕ) where
  pub digit-is : is_digit b ≡ true → (48 ≤ b) × (b ≤ 57)
  digit-is e = (leb-true 48 b (and_left (leb 48 b) (leb b 57) e), leb-true b 57 (and_right (leb 48 b) (leb b 57) e))

pub digit-here : (l : List ℕ) (i : ℕ) → i < length l → all is_digit (drop i l) ≡ true → (48 ≤ get_or l i 0) × (get_or l i 0 ≤ 57)
digit-here l i h e = digit-is (get_or l i 0) (all_here is_digit l i h e).0

-- ---- keys and values

-- a value in form: at most ten digits
pub value-digits : (st : Status) (l : List ℕ) → meter_value st l ≡ true → (length l ≤ max_digits) × (all is_digit l ≡ true)
unfolding meter_value all
value-digits st [] e = (omega arith, refl)
value-digits st (b ∷ l) e =
    let q : (leb (length (b ∷ l)) max_digits && all is_digit (b ∷ l)) ≡ true =
    sym (ap (λ (x : Bool). pick x (scheduled st) (leb (length (b ∷ l)) max_digits && all is_digit (b ∷ l))) (ne_eqb (length (b ∷ l)) 0 (λ z. omega arith))) ∙ e in
    (leb-true (length (b ∷ l)) max_digits (and_left (leb (length (b ∷ l)) max_digits) (all is_digit (b ∷ l)) q), and_right (leb (length (b ∷ l)) max_digits) (all is_digit (b ∷ l)) q)

-- ---- numbers

-- ten of ten, n times
unfoldable pub tens : ℕ → ℕ
tens zero = 1
tens (suc n) = tens n * 10

tens-next : (n : ℕ) → tens (n + 1) ≡ tens n * 10
unfolding tens
tens-next n = ap tens (add-one n)

-- a number of fewer than ten digits
pub tens-few : (n : ℕ) → n ≤ 9 → tens n ≤ 1000000000
unfolding tens
tens-few n h = let i : (9 - n) + n ≡ 9 = omega arith in let e : tens ((9 - n) + n) ≡ tens 9 = ap tens i in let g = grows (9 - n) in omega arith
  where
    grows : (k : ℕ) → tens n ≤ tens (k + n)
    grows zero = let z : 0 + n ≡ n = omega arith in let e : tens (0 + n) ≡ tens n = ap tens z in omega arith
    grows (suc k) = let g = grows k in let z : suc k + n ≡ suc (k + n) = omega arith in let e : tens (suc k + n) ≡ tens (k + n) * 10 = ap tens z in omega arith

module _ (l : List ℕ) (n i : ℕ) (h : i < length l) where
  pub next-digit : {m : ℕ} → m ≡ n * 10 → numeral (m + (get_or l i 0 - 48)) (drop (i + 1) l) ≡ numeral n (drop i l)
  unfolding numeral
  next-digit {m} e =
      ap (λ (k : ℕ). numeral (k + (get_or l i 0 - 48)) (drop (i + 1) l)) e
      ∙ sym (ap (numeral n) (drop-cons l i 0 h) ∙ rw add-one refl)

  pub next_fits : {m : ℕ} → m ≡ n * 10 → n < tens i → is_digit (get_or l i 0) ≡ true → m + (get_or l i 0 - 48) < tens (i + 1)
  next_fits e f d = let t = tens-next i in let x = digit-is (get_or l i 0) d in omega arith

pub no_digit : (l : List ℕ) (n i : ℕ) → length l ≤ i → numeral n (drop i l) ≡ n
unfolding numeral
no_digit l n i h = ap (numeral n) (drop_of_length-le l h)

pub one-digit : 0 < tens 0
unfolding tens
one-digit = omega arith
