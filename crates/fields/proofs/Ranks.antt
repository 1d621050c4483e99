-- Laws of `rank_of`: among strings of one length the smaller rank comes first, whatever stands
-- behind them. Assumes nothing.
use Prim.Native.Nat.{ℕ, suc, ◌+◌, ◌*◌, ◌^◌, ◌≤◌, ◌<◌}
use mathlib.Core.Path.{◌≡◌, refl, ap, ap₂, sym, ◌∙◌, subst}
use mathlib.Core.List.{List, [], ◌∷◌, ◌++◌}
use native.Mathlib.Omega.{arith}
use native.Mathlib.Nat.{pow-succ', mul-le-mul_right, suc-mul}
use native.Mathlib.Decide.{dec_lt}
use lib.Dec.{lit<}
use lib.ListN.{length, take, drop, take-append-drop}
use lib.Seq.{drop-drop}
use Rattle.std.specs.Int.{w64, from_be_bytes}
use Rattle.fields.specs.Choice.{here, later}
use Rattle.fields.specs.Numbers.{AreBytes}
use Rattle.fields.specs.Order.{order_of, rank_of}
use Rattle.fields.specs.Parts.{part}
use Rattle.std.specs.declared.cmp.Ordering.TheVariants.{Less, Greater}
use Rattle.fields.proofs.Ordered.{order-first-same, order-first-less, order-less, more-order}
use Rattle.fields.proofs.Parts.{length_part}
use Rattle.fields.proofs.Numbers.{bytes-part, each-of}

one_more : (y x p : ℕ) → y < x → y * p + p ≤ x * p
one_more y x p h = subst (λ (k : ℕ). k ≤ x * p) (suc-mul y p) (mul-le-mul_right {m = suc y} {n = x} p h)

pub rank_below : (bs : List ℕ) → AreBytes bs → rank_of bs < 256 ^ length bs
unfolding rank_of
rank_below [] h = lit< tt
rank_below (b ∷ bs) h =
    let g : b < 256 = h b (here refl) in
    rw (pow-succ' 256 (length bs)) (omega (arith, rank_below bs (λ x p. h x (later p)), one_more b 256 (256 ^ length bs) g))

-- std's word for the same, of eight bytes
pub rank-eight : (bs : List ℕ) → length bs ≡ 8 → from_be_bytes w64 bs ≡ rank_of bs
unfolding rank_of
rank-eight = each-of 8 (λ bs. from_be_bytes w64 bs ≡ rank_of bs) (λ a b c d e f g h. omega arith)

-- ---- the smaller rank comes first

tail-bytes : (x : ℕ) (xs : List ℕ) → AreBytes (x ∷ xs) → AreBytes xs
tail-bytes x xs h b m = h b (later m)

module _ (x y : ℕ) (xs ys : List ℕ) where
  -- a first byte that is above the other's is above all that can follow that one
  above-all : length xs ≡ length ys → AreBytes ys → y < x → y * 256 ^ length ys + rank_of ys < x * 256 ^ length xs + rank_of xs
  above-all e q g =
      rw e (omega (arith, one_more y x (256 ^ length ys) g, rank_below ys q))

  first-same : length xs ≡ length ys → AreBytes ys → y ≤ x → x * 256 ^ length xs + rank_of xs < y * 256 ^ length ys + rank_of ys → x ≡ y
  first-same e q g h =
      elim (dec_lt y x) [
        | yes p ↦ absurd (omega (arith, above-all e q p, h))
        | no p ↦ omega arith
      ]

  rest-less : x ≡ y → length xs ≡ length ys → x * 256 ^ length xs + rank_of xs < y * 256 ^ length ys + rank_of ys → rank_of xs < rank_of ys
  rest-less e d h = let f : x * 256 ^ length xs ≡ y * 256 ^ length ys = ap₂ (λ (a b : ℕ). a * 256 ^ b) e d in omega (arith, f, h)

  rest-same : x ≡ y → length xs ≡ length ys → x * 256 ^ length xs + rank_of xs ≡ y * 256 ^ length ys + rank_of ys → rank_of xs ≡ rank_of ys
  rest-same e d h = let f : x * 256 ^ length xs ≡ y * 256 ^ length ys = ap₂ (λ (a b : ℕ). a * 256 ^ b) e d in omega (arith, f, h)

one-first : (x y : ℕ) (xs ys : List ℕ) → length xs ≡ length ys → AreBytes xs → AreBytes ys
    → x * 256 ^ length xs + rank_of xs ≡ y * 256 ^ length ys + rank_of ys → x ≡ y
one-first x y xs ys d p q h =
    elim (dec_lt y x) [
      | yes g ↦ absurd (omega (arith, above-all x y xs ys d q g, h))
      | no g ↦ elim (dec_lt x y) [
        | yes f ↦ absurd (omega (arith, above-all y x ys xs (sym d) p f, h))
        | no f ↦ omega arith
      ]
    ]

module _ (j k : List ℕ) where
  pub rank_less : (xs ys : List ℕ) → length xs ≡ length ys → AreBytes xs → AreBytes ys → rank_of xs < rank_of ys → order_of (xs ++ j) (ys ++ k) ≡ Less
  unfolding rank_of
  rank_less [] [] e p q h = absurd (omega arith)
  rank_less [] (y ∷ ys) e p q h = absurd (omega arith)
  rank_less (x ∷ xs) [] e p q h = absurd (omega arith)
  rank_less (x ∷ xs) (y ∷ ys) e p q h =
      let d : length xs ≡ length ys = omega arith in
      elim (dec_lt x y) [
        | yes g ↦ order-first-less x y (xs ++ j) (ys ++ k) g
        | no g ↦ let s = first-same x y xs ys d (tail-bytes y ys q) (omega arith) h in order-first-same x y (xs ++ j) (ys ++ k) s
            ∙ rank_less xs ys d (tail-bytes x xs p) (tail-bytes y ys q) (rest-less x y xs ys s d h)
      ]

  pub rank_same : (xs ys : List ℕ) → length xs ≡ length ys → AreBytes xs → AreBytes ys → rank_of xs ≡ rank_of ys → order_of (xs ++ j) (ys ++ k) ≡ order_of j k
  unfolding rank_of
  rank_same [] [] e p q h = refl
  rank_same [] (y ∷ ys) e p q h = absurd (omega arith)
  rank_same (x ∷ xs) [] e p q h = absurd (omega arith)
  rank_same (x ∷ xs) (y ∷ ys) e p q h =
      let d : length xs ≡ length ys = omega arith in
      let s = one-first x y xs ys d (tail-bytes x xs p) (tail-bytes y ys q) h in
      order-first-same x y (xs ++ j) (ys ++ k) s ∙ rank_same xs ys d (tail-bytes x xs p) (tail-bytes y ys q) (rest-same x y xs ys s d h)

-- What is left of two strings from i on, where both have n bytes there. The rank of these decides, or the n bytes are the same.
pub part-rest : (i n : ℕ) (l : List ℕ) → part i n l ++ drop (i + n) l ≡ drop i l
unfolding part
part-rest i n l = ap (λ (r : List ℕ). take n (drop i l) ++ r) (sym (drop-drop n i l)) ∙ take-append-drop n (drop i l)

module _ (i n : ℕ) (j k : List ℕ) (b : AreBytes j) (d : AreBytes k) (h : i + n ≤ length j) (g : i + n ≤ length k) where
  ranked-apart : order_of (drop i j) (drop i k) ≡ order_of (part i n j ++ drop (i + n) j) (part i n k ++ drop (i + n) k)
  ranked-apart = ap₂ order_of (sym (part-rest i n j)) (sym (part-rest i n k))

  one-length : length (part i n j) ≡ length (part i n k)
  one-length = length_part i n j h ∙ sym (length_part i n k g)

  pub ranked-less : rank_of (part i n j) < rank_of (part i n k) → order_of (drop i j) (drop i k) ≡ Less
  ranked-less p =
      ranked-apart ∙ rank_less (drop (i + n) j) (drop (i + n) k) (part i n j) (part i n k) one-length (bytes-part i n j b) (bytes-part i n k d) p

  pub ranked-more : rank_of (part i n k) < rank_of (part i n j) → order_of (drop i j) (drop i k) ≡ Greater
  ranked-more p =
      ranked-apart
      ∙ more-order _ _
      (order-less _ _
      (rank_less (drop (i + n) k) (drop (i + n) j) (part i n k) (part i n j) (sym one-length) (bytes-part i n k d) (bytes-part i n j b) p))

  pub ranked-same : rank_of (part i n j) ≡ rank_of (part i n k) → order_of (drop i j) (drop i k) ≡ order_of (drop (i + n) j) (drop (i + n) k)
  ranked-same p =
      ranked-apart ∙ rank_same (drop (i + n) j) (drop (i + n) k) (part i n j) (part i n k) one-length (bytes-part i n j b) (bytes-part i n k d) p
