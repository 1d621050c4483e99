-- Laws of numbers as bytes, over the count of bytes: a number of n bytes is written and read back, some bytes are read and written back, and
-- the bounds of both. A list of bytes (`AreBytes`) stays one when it is cut, joined or put together. Assumes nothing.
use Prim.Native.Nat.{ℕ, zero, suc, ◌+◌, ◌*◌, ◌/◌, ◌%◌, ◌^◌, ◌≤◌, ◌<◌}
use mathlib.Core.Path.{◌≡◌, refl, ap, ap₂, sym, ◌∙◌, subst}
use mathlib.Core.List.{List, [], ◌∷◌, ◌++◌}
use native.Mathlib.Omega.{arith}
use native.Mathlib.Nat.{div-lt_iff_lt-mul, div-add-mod', pow-suc, zero-add, mul-one, mul_assoc, div-one, div-div-eq-div-mul}
use lib.Dec.{lit<}
use lib.ListN.{length, take, drop, get_or}
use Rattle.std.specs.Int.{w64, from_le_bytes, to_le_bytes, bytes_low_first, byte_at}
use Rattle.fields.specs.Choice.{here, later}
use Rattle.fields.specs.Numbers.{nat_of, bytes_of, AreBytes}
use Rattle.fields.specs.Parts.{part}
use Rattle.fields.proofs.Choice.{in_take, in-drop, at_in}
use Rattle.fields.proofs.Parts.{part-cons, part-add, length_part}

-- ---- a list of bytes

pub at-bytes : (l : List ℕ) → ((i : ℕ) → get_or l i 0 < 256) → AreBytes l
at-bytes l h = at_in (λ b. b < 256) l 0 (λ i g. h i)

pub bytes_take : (n : ℕ) (l : List ℕ) → AreBytes l → AreBytes (take n l)
bytes_take n l h b m = h b (in_take n l m)

pub bytes_drop : (n : ℕ) (l : List ℕ) → AreBytes l → AreBytes (drop n l)
bytes_drop n l h b m = h b (in-drop n l m)

pub bytes-part : (at n : ℕ) (l : List ℕ) → AreBytes l → AreBytes (part at n l)
unfolding part
bytes-part at n l h = bytes_take n (drop at l) (bytes_drop at l h)

-- ---- numbers

pub length-bytes_of : (n v : ℕ) → length (bytes_of n v) ≡ n
unfolding bytes_of
length-bytes_of zero v = refl
length-bytes_of (suc n) v = ap suc (length-bytes_of n (v / 256))

-- a number of n bytes, written and read
pub nat-bytes : (n v : ℕ) → v < 256 ^ n → nat_of (bytes_of n v) ≡ v
unfolding nat_of bytes_of
nat-bytes zero v h = omega arith
nat-bytes (suc n) v h =
    rw (nat-bytes n (v / 256) ((div-lt_iff_lt-mul (lit< tt)).1 (rw (pow-suc 256 n) at h))) (div-add-mod' v 256)

-- some bytes, read and written
pub bytes-nat : (bs : List ℕ) → AreBytes bs → bytes_of (length bs) (nat_of bs) ≡ bs
unfolding bytes_of nat_of
bytes-nat [] h = refl
bytes-nat (b ∷ bs) h =
    let g : b < 256 = h b (here refl) in
    let low : (nat_of bs * 256 + b) % 256 ≡ b = omega arith in
    let high : (nat_of bs * 256 + b) / 256 ≡ nat_of bs = omega arith in
    rw (low, high, bytes-nat bs (λ x m. h x (later m)))

-- the same of n bytes
pub bytes_back : (n : ℕ) (bs : List ℕ) → length bs ≡ n → AreBytes bs → bytes_of n (nat_of bs) ≡ bs
bytes_back n bs e h = subst (λ (k : ℕ). bytes_of k (nat_of bs) ≡ bs) e (bytes-nat bs h)

-- one byte more
pub nat-grow : (k v b : ℕ) → v < 256 ^ k → b < 256 → v * 256 + b < 256 ^ suc k
nat-grow k v b h g = rw (pow-suc 256 k) (omega arith)

pub nat-below : (bs : List ℕ) → AreBytes bs → nat_of bs < 256 ^ length bs
unfolding nat_of
nat-below [] h = lit< tt
nat-below (b ∷ bs) h = nat-grow (length bs) (nat_of bs) b (nat-below bs (λ x m. h x (later m))) (h b (here refl))

-- a number of two pieces: the first is the lower one
pub nat-append : (xs ys : List ℕ) → nat_of (xs ++ ys) ≡ nat_of ys * 256 ^ length xs + nat_of xs
unfolding nat_of
nat-append [] ys = omega (arith, mul-one (nat_of ys))
nat-append (x ∷ xs) ys =
    let e : nat_of ys * 256 ^ suc (length xs) ≡ nat_of ys * 256 ^ length xs * 256 =
    ap (λ (k : ℕ). nat_of ys * k) (pow-suc 256 (length xs)) ∙ sym (mul_assoc (nat_of ys) (256 ^ length xs) 256) in
    rw (nat-append xs ys, e) (omega arith)

-- ---- numbers in a list

pub nat-add : (at n m : ℕ) (l : List ℕ) → at + n ≤ length l → nat_of (part at (n + m) l) ≡ nat_of (part (at + n) m l) * 256 ^ n + nat_of (part at n l)
nat-add at n m l h =
    ap nat_of (part-add at n m l)
    ∙ nat-append (part at n l) (part (at + n) m l)
    ∙ ap (λ (k : ℕ). nat_of (part (at + n) m l) * 256 ^ k + nat_of (part at n l)) (length_part at n l h)

-- the number of n bytes from `at` is below 256 ^ n
pub nat-part : (at n : ℕ) (l : List ℕ) → AreBytes l → at + n ≤ length l → nat_of (part at n l) < 256 ^ n
nat-part at n l h g =
    subst (λ (k : ℕ). nat_of (part at n l) < 256 ^ k) (length_part at n l g) (nat-below (part at n l) (bytes-part at n l h))

-- read and written: the part itself
pub part-back : (at n : ℕ) (l : List ℕ) → AreBytes l → at + n ≤ length l → bytes_of n (nat_of (part at n l)) ≡ part at n l
part-back at n l h g = bytes_back n (part at n l) (length_part at n l g) (bytes-part at n l h)

-- the lowest byte, and the others
pub nat-step : (s : List ℕ) (j k : ℕ) → j < length s → nat_of (part j (suc k) s) ≡ nat_of (part (suc j) k s) * 256 + get_or s j 0
unfolding nat_of
nat-step s j k h = rw (part-cons s j k h)

pub nat-one : (s : List ℕ) (at : ℕ) → at < length s → nat_of (part at 1 s) ≡ get_or s at 0
unfolding nat_of part
nat-one s at h = nat-step s at 0 h ∙ zero-add (get_or s at 0)

pub nat_two : (s : List ℕ) (at : ℕ) → at + 2 ≤ length s → nat_of (part at 2 s) ≡ get_or s (at + 1) 0 * 256 + get_or s at 0
nat_two s at h = omega (arith, nat-add at 1 1 s (omega arith), nat-one s at (omega arith), nat-one s (at + 1) (omega arith))

-- ---- std's words for the same

-- what holds of each n numbers holds of a list of n
abbrev pub each : (n : ℕ) (P : List ℕ → Type 0) → Type 0
each zero P = P []
each (suc n) P = (a : ℕ) → each n (λ l. P (a ∷ l))

pub each-of : (n : ℕ) (P : List ℕ → Type 0) → each n P → (l : List ℕ) → length l ≡ n → P l
each-of zero P h [] e = h
each-of zero P h (a ∷ l) e = absurd (omega arith)
each-of (suc n) P h [] e = absurd (omega arith)
each-of (suc n) P h (a ∷ l) e = each-of n (λ r. P (a ∷ r)) (h a) l (omega arith)

pub nat-eight : (bs : List ℕ) → length bs ≡ 8 → from_le_bytes w64 bs ≡ nat_of bs
unfolding nat_of
nat-eight = each-of 8 (λ bs. from_le_bytes w64 bs ≡ nat_of bs) (λ a b c d e f g h. omega arith)

low_bytes : (k i v : ℕ) → bytes_low_first i k v ≡ bytes_of k (v / 256 ^ i)
unfolding bytes_of
low_bytes zero i v = refl
low_bytes (suc k) i v =
    ap₂ (λ (b : ℕ) (r : List ℕ). b ∷ r) (this i)
    (low_bytes k (suc i) v ∙ ap (bytes_of k) (ap (λ (m : ℕ). v / m) (pow-suc 256 i) ∙ sym (div-div-eq-div-mul v (256 ^ i) 256)))
  where
    this : (j : ℕ) → byte_at j v ≡ v / 256 ^ j % 256
    this zero = ap (λ (m : ℕ). m % 256) (sym (div-one v))
    this (suc j) = refl

pub bytes-eight : (v : ℕ) → to_le_bytes w64 v ≡ bytes_of 8 v
bytes-eight v = low_bytes 8 0 v ∙ ap (bytes_of 8) (div-one v)
