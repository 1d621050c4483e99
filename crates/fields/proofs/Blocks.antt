-- Laws of blocks of one width, over the width, the count and the encoding: each block stands at its place, one is replaced, put in or taken
-- out, blocks are read and written back, and a test of every block is one of each. Before them, laws of zeros and of a list filled up with zeros.
-- Assumes nothing.
use Prim.Native.Nat.{ℕ, zero, suc, ◌+◌, ◌*◌, ◌-◌, ◌≤◌, ◌<◌}
use mathlib.Core.Path.{◌≡◌, refl, ap, ap₂, sym, ◌∙◌}
use mathlib.Core.Bool.{Bool, true, ◌&&◌}
use mathlib.Core.List.{List, [], ◌∷◌, ◌++◌, append_assoc, append-nil}
use native.Mathlib.Omega.{arith}
use native.Mathlib.Numerals.{add-one}
use native.Mathlib.Nat.{suc-mul, zero-mul, add-mul, add-sub_cancel_left, le_of_suc-le-suc, not-suc-le-zero, add-zero, zero-add}
use lib.Dec.{eqb}
use lib.ListN.{length, take, drop, get_or, set, length-append, length-take, length-drop, length-replicate, take-append-drop, drop_of_length-le, replicate-append-replicate}
use lib.Seq.{take_at, drop_at, length-take-le, drop-drop, take-append-add, take-add, take_all, split_at, set_split}
use borrow.Author.Tests.{eqb-true}
use Rattle.fields.specs.Choice.{◌∈◌, here, later}
use Rattle.fields.specs.Numbers.{bytes_of}
use Rattle.fields.specs.Parts.{part, put}
use Rattle.fields.specs.Blocks.{zeros, all_zero, fit, flat, blocks, unblock, all_blocks, insert_at, remove_at}
use Rattle.fields.proofs.Choice.{and_left, and_right, and_intro}
use Rattle.fields.proofs.Parts.{part_right, part-add, part-part, part-drop, part-whole, part_at, put-at, put-mid, length_part}

-- ---- zeros

pub length-zeros : (n : ℕ) → length (zeros n) ≡ n
unfolding zeros
length-zeros n = length-replicate n 0

pub zeros-add : (n m : ℕ) → zeros n ++ zeros m ≡ zeros (n + m)
unfolding zeros
zeros-add n m = replicate-append-replicate n m 0

-- one step of a loop over i below n
pub zeros-next : (i n : ℕ) → i < n → zeros (n - i) ≡ 0 ∷ zeros (n - (i + 1))
unfolding zeros
zeros-next i n h =
    let p : n - i ≡ suc (n - (i + 1)) = omega arith in
    rw p refl

pub zero-all : (xs : List ℕ) → all_zero xs ≡ true → xs ≡ zeros (length xs)
unfolding all_zero zeros
zero-all [] h = refl
zero-all (x ∷ xs) h =
    ap₂ (λ (y : ℕ) (ys : List ℕ). y ∷ ys) (eqb-true x 0 (and_left (eqb x 0) (all_zero xs) h)) (zero-all xs (and_right (eqb x 0) (all_zero xs) h))

pub all-zero : (n : ℕ) → all_zero (zeros n) ≡ true
unfolding all_zero zeros
all-zero zero = refl
all-zero (suc n) = all-zero n

pub bytes-zero : (n : ℕ) → bytes_of n 0 ≡ zeros n
unfolding bytes_of zeros
bytes-zero zero = refl
bytes-zero (suc n) = ap (λ (r : List ℕ). 0 ∷ r) (bytes-zero n)

-- ---- a list in n places, the others zero

pub length-fit : (n : ℕ) (xs : List ℕ) → length (fit n xs) ≡ n
unfolding fit
length-fit n xs = simp (length-take, length-append, length-zeros) (omega arith)

take-zeros : (n m : ℕ) → n ≤ m → take n (zeros m) ≡ zeros n
take-zeros n m h =
    let e : m ≡ n + (m - n) = omega arith in
    rw (e, ← zeros-add n (m - n)) (take_at (zeros n) (zeros (m - n)) n (length-zeros n))

pub drop-zeros : (k n : ℕ) → k ≤ n → drop k (zeros n) ≡ zeros (n - k)
drop-zeros k n h =
    let e : n ≡ k + (n - k) = omega arith in
    ap (λ (m : ℕ). drop k (zeros m)) e
    ∙ ap (drop k) (sym (zeros-add k (n - k)))
    ∙ drop_at (zeros k) (zeros (n - k)) k (length-zeros k)

-- a part of zeros
part-zeros : (a n m : ℕ) → a + n ≤ m → part a n (zeros m) ≡ zeros n
unfolding part
part-zeros a n m h = ap (take n) (drop-zeros a m (omega arith)) ∙ take-zeros n (m - a) (omega arith)

-- and of a part that is zeros
pub zeros_within : (at n a m : ℕ) (l : List ℕ) → part a m l ≡ zeros m → a ≤ at → at + n ≤ a + m → a + m ≤ length l → part at n l ≡ zeros n
zeros_within at n a m l z h g f =
    let e : at ≡ a + (at - a) = omega arith in
    ap (λ (k : ℕ). part k n l) e
    ∙ sym (part-part (at - a) n a m l (omega arith) f)
    ∙ ap (part (at - a) n) z
    ∙ part-zeros (at - a) n m (omega arith)

-- as is one whose elements are all zero
pub zero-part : (a m : ℕ) (l : List ℕ) → all_zero (part a m l) ≡ true → a + m ≤ length l → part a m l ≡ zeros m
zero-part a m l z f = zero-all (part a m l) z ∙ ap zeros (length_part a m l f)

-- what is short enough stands whole
pub fit-pad : (n : ℕ) (xs : List ℕ) → length xs ≤ n → fit n xs ≡ xs ++ zeros (n - length xs)
unfolding fit
fit-pad n xs h =
    let e : n ≡ length xs + (n - length xs) = omega arith in
    ap (λ (k : ℕ). take k (xs ++ zeros n)) e
    ∙ take-append-add xs (zeros n) (n - length xs)
    ∙ ap (λ (z : List ℕ). xs ++ z) (take-zeros (n - length xs) n (omega arith))

-- fewer elements with zeros behind them are the whole part
pub fit-back : (k n at : ℕ) (l : List ℕ) → k ≤ n → at + n ≤ length l → all_zero (part (at + k) (n - k) l) ≡ true → fit n (part at k l) ≡ part at n l
fit-back k n at l h g z =
    let e : k + (n - k) ≡ n = omega arith in
    let p : List ℕ = part at k l in
    let q : List ℕ = part (at + k) (n - k) l in
    let pl : length p ≡ k = length_part at k l (omega arith) in
    let ql : length q ≡ n - k = length_part (at + k) (n - k) l (omega arith) in
    fit-pad n p (rw pl h)
    ∙ ap (λ (j : ℕ). p ++ zeros j) (ap (λ (j : ℕ). n - j) pl ∙ sym ql)
    ∙ ap (λ (r : List ℕ). p ++ r) (sym (zero-all q z))
    ∙ sym (part-add at k (n - k) l)
    ∙ ap (λ (j : ℕ). part at j l) e

-- a list in n places, of which its own length is taken again
pub fit-front : (n at : ℕ) (xs l : List ℕ) → length xs ≤ n → part at n l ≡ fit n xs → at + n ≤ length l → part at (length xs) l ≡ xs
fit-front n at xs l h e g =
    ap (λ (k : ℕ). part k (length xs) l) (sym (add-zero at))
    ∙ sym (part-part 0 (length xs) at n l (omega arith) g)
    ∙ ap (part 0 (length xs)) (e ∙ fit-pad n xs h)
    ∙ part_at 0 (length xs) [] xs (zeros (n - length xs)) refl refl

-- behind a list in n places stand zeros
pub fit-zeros : (n at : ℕ) (xs l : List ℕ) → length xs ≤ n → part at n l ≡ fit n xs → at + n ≤ length l → all_zero (part (at + length xs) (n - length xs) l) ≡ true
fit-zeros n at xs l h e g =
    let k : ℕ = length xs in
    let z : List ℕ = zeros (n - k) in
    let p : part (at + k) (n - k) l ≡ z =
    sym (part-part k (n - k) at n l (omega arith) g)
    ∙ ap (part k (n - k)) (e ∙ fit-pad n xs h)
    ∙ ap (λ (j : ℕ). part j (n - k) (xs ++ z)) (sym (add-zero k))
    ∙ part_right k 0 (n - k) xs z refl
    ∙ part-whole (n - k) z (length-zeros (n - k)) in
    ap all_zero p ∙ all-zero (n - k)

-- ---- room made and closed, in a list of pieces

-- a block put in before t, where w places are free behind t
pub gap_up : (m w : ℕ) (pre t g post b : List ℕ) → length pre ≡ m → length g ≡ w → length b ≡ w
    → put m b (put (m + w) t (pre ++ (t ++ (g ++ post)))) ≡ pre ++ (b ++ (t ++ post))
unfolding put
gap_up m w pre t g post b e f h =
    let x : List ℕ = take w (t ++ g) in
    let long : length x ≡ w = simp (length-take, length-append, f) (omega arith) in
    let none : drop (w + length t) (t ++ g) ≡ [] = drop_of_length-le (t ++ g) {i = w + length t} (simp (length-append, f) (omega arith)) in
    let moved : put (m + w) t (pre ++ (t ++ (g ++ post))) ≡ pre ++ (x ++ (t ++ post)) =
    ap (λ (r : List ℕ). put (m + w) t (pre ++ r)) (sym (append_assoc t g post))
    ∙ put-mid m w t pre (t ++ g) post e (simp (length-append, f) (omega arith))
    ∙ ap (λ (r : List ℕ). pre ++ ((x ++ (t ++ r)) ++ post)) none
    ∙ simp (append-nil, append_assoc) in
    ap (put m b) moved ∙ put-at m b pre x (t ++ post) e (h ∙ sym long)

-- a block taken out before t, and w zeros behind t
pub gap_down : (m w : ℕ) (pre b t post z : List ℕ) → length pre ≡ m → length b ≡ w → length z ≡ w
    → put (m + length t) z (put m t (pre ++ (b ++ (t ++ post)))) ≡ pre ++ (t ++ (z ++ post))
unfolding put
gap_down m w pre b t post z e f h =
    let y : List ℕ = drop (length t) (b ++ t) in
    let long : length y ≡ w = simp (length-drop, length-append, f) (omega arith) in
    let both : length (pre ++ t) ≡ m + length t = simp (length-append, e) in
    let moved : put m t (pre ++ (b ++ (t ++ post))) ≡ (pre ++ t) ++ (y ++ post) =
    ap (λ (r : List ℕ). put m t (pre ++ r)) (sym (append_assoc b t post))
    ∙ ap (λ (k : ℕ). put k t (pre ++ ((b ++ t) ++ post))) (sym (add-zero m))
    ∙ put-mid m 0 t pre (b ++ t) post e (simp length-append (omega arith))
    ∙ ap (λ (k : ℕ). pre ++ ((t ++ drop k (b ++ t)) ++ post)) (zero-add (length t))
    ∙ simp append_assoc in
    ap (put (m + length t) z) moved ∙ put-at (m + length t) z (pre ++ t) y post both (h ∙ sym long) ∙ append_assoc pre t (z ++ post)

-- ---- blocks

module _ {A : Type 0} (enc : A → List ℕ) (w : ℕ) (wide : (a : A) → length (enc a) ≡ w) where
  pub length-flat : (es : List A) → length (flat enc es) ≡ length es * w
  unfolding flat
  length-flat [] = sym (zero-mul w)
  length-flat (a ∷ es) = simp (length-append, wide, length-flat es, suc-mul) (omega arith)

  pub flat_append : (es bs : List A) → flat enc (es ++ bs) ≡ flat enc es ++ flat enc bs
  unfolding flat
  flat_append [] bs = refl
  flat_append (a ∷ es) bs = rw (flat_append es bs, append_assoc)

  -- the elements before i take i * w bytes
  pub length-flat-take : (i : ℕ) (es : List A) → i ≤ length es → length (flat enc (take i es)) ≡ i * w
  length-flat-take i es h = rw (length-flat (take i es), length-take-le i es h)

  -- the blocks are the encodings and then zeros
  pub blocks_is : (n k : ℕ) (es : List A) → length es + k ≡ n → blocks n w enc es ≡ flat enc es ++ zeros (k * w)
  unfolding blocks
  blocks_is n k es h =
      let e : n * w ≡ length es * w + k * w = ap (λ (j : ℕ). j * w) (sym h) ∙ add-mul (length es) k w in
      let f : n * w - length (flat enc es) ≡ k * w = rw (length-flat es, e, add-sub_cancel_left) in
      fit-pad (n * w) (flat enc es) (rw (length-flat es, e) (omega arith)) ∙ rw f refl

  pub length-blocks : (n : ℕ) (es : List A) → length (blocks n w enc es) ≡ n * w
  unfolding blocks
  length-blocks n es = length-fit (n * w) (flat enc es)

  -- the blocks of two lists joined, and with an element between them
  pub blocks-two : (n k : ℕ) (xs ys : List A) → length xs + length ys + k ≡ n → blocks n w enc (xs ++ ys) ≡ flat enc xs ++ (flat enc ys ++ zeros (k * w))
  blocks-two n k xs ys h =
      blocks_is n k (xs ++ ys) (rw length-append h)
      ∙ ap (λ (r : List ℕ). r ++ zeros (k * w)) (flat_append xs ys)
      ∙ append_assoc (flat enc xs) (flat enc ys) (zeros (k * w))

  pub blocks-three : (n k : ℕ) (xs : List A) (a : A) (ys : List A) → length xs + suc (length ys) + k ≡ n
      → blocks n w enc (xs ++ (a ∷ ys)) ≡ flat enc xs ++ (enc a ++ (flat enc ys ++ zeros (k * w)))
  unfolding flat
  blocks-three n k xs a ys h =
      blocks-two n k xs (a ∷ ys) h ∙ ap (λ (r : List ℕ). flat enc xs ++ r) (append_assoc (enc a) (flat enc ys) (zeros (k * w)))

  one_more : (k : ℕ) → zeros (suc k * w) ≡ zeros w ++ zeros (k * w)
  one_more k =
      let e : suc k * w ≡ w + k * w = suc-mul k w ∙ omega arith in
      ap zeros e ∙ sym (zeros-add w (k * w))

  -- putting in and taking out, at a list in two or three parts
  insert-two : (n k : ℕ) (xs : List A) (a : A) (ys : List A) (m j : ℕ) → length xs + length ys + suc k ≡ n → m ≡ length xs * w → j ≡ length ys * w
      → let l : List ℕ = blocks n w enc (xs ++ ys) in put m (enc a) (put (m + w) (part m j l) l) ≡ blocks n w enc (xs ++ (a ∷ ys))
  insert-two n k xs a ys m j h em ej =
      let l : List ℕ = blocks n w enc (xs ++ ys) in
      let xl : length (flat enc xs) ≡ m = length-flat xs ∙ sym em in
      let is : l ≡ flat enc xs ++ (flat enc ys ++ (zeros w ++ zeros (k * w))) =
      blocks-two n (suc k) xs ys h ∙ ap (λ (r : List ℕ). flat enc xs ++ (flat enc ys ++ r)) (one_more k) in
      let t : part m j l ≡ flat enc ys =
      ap (part m j) is ∙ part_at m j (flat enc xs) (flat enc ys) _ xl (length-flat ys ∙ sym ej) in
      ap (λ (r : List ℕ). put m (enc a) (put (m + w) r l)) t
      ∙ ap (λ (r : List ℕ). put m (enc a) (put (m + w) (flat enc ys) r)) is
      ∙ gap_up m w (flat enc xs) (flat enc ys) (zeros w) (zeros (k * w)) (enc a) xl (length-zeros w) (wide a)
      ∙ sym (blocks-three n k xs a ys (omega arith))

  remove-two : (n k : ℕ) (xs : List A) (a : A) (ys : List A) (m j : ℕ) → length xs + suc (length ys) + k ≡ n → m ≡ length xs * w → j ≡ length ys * w
      → let l : List ℕ = blocks n w enc (xs ++ (a ∷ ys)) in put (m + j) (zeros w) (put m (part (m + w) j l) l) ≡ blocks n w enc (xs ++ ys)
  remove-two n k xs a ys m j h em ej =
      let l : List ℕ = blocks n w enc (xs ++ (a ∷ ys)) in
      let p : List ℕ = flat enc xs in
      let q : List ℕ = flat enc ys in
      let xl : length p ≡ m = length-flat xs ∙ sym em in
      let yl : length q ≡ j = length-flat ys ∙ sym ej in
      let is : l ≡ p ++ (enc a ++ (q ++ zeros (k * w))) = blocks-three n k xs a ys h in
      let both : length (p ++ enc a) ≡ m + w = simp (length-append, wide, xl) in
      let t : part (m + w) j l ≡ q =
      ap (part (m + w) j) (is ∙ sym (append_assoc p (enc a) (q ++ zeros (k * w)))) ∙ part_at (m + w) j (p ++ enc a) q _ both yl in
      ap (λ (r : List ℕ). put (m + j) (zeros w) (put m r l)) t
      ∙ ap (λ (r : List ℕ). put (m + j) (zeros w) (put m q r)) is
      ∙ ap (λ (d : ℕ). put (m + d) (zeros w) (put m q (p ++ (enc a ++ (q ++ zeros (k * w)))))) (sym yl)
      ∙ gap_down m w p (enc a) q (zeros (k * w)) (zeros w) xl (wide a) (length-zeros w)
      ∙ ap (λ (r : List ℕ). p ++ (q ++ r)) (sym (one_more k))
      ∙ sym (blocks-two n (suc k) xs ys (omega arith))

  module _ (n : ℕ) (es : List A) (room : length es ≤ n) where
    -- block i as it stands
    pub block : (i : ℕ) (d : A) → i < length es → part (i * w) w (blocks n w enc es) ≡ enc (get_or es i d)
    block i d h =
        ap (λ (xs : List A). part (i * w) w (blocks n w enc xs)) (split_at es i d h)
        ∙ ap (part (i * w) w) (blocks-three n (n - length es) (take i es) (get_or es i d) (drop (suc i) es) (simp (length-take, length-drop) (omega arith)))
        ∙ part_at (i * w) w (flat enc (take i es)) (enc (get_or es i d)) _ (length-flat-take i es (omega arith)) (wide (get_or es i d))

    -- block i replaced
    pub block-set : (i : ℕ) (a : A) → i < length es → put (i * w) (enc a) (blocks n w enc es) ≡ blocks n w enc (set es i a)
    block-set i a h =
        let k : ℕ = n - length es in
        let long : length (take i es) + suc (length (drop (suc i) es)) + k ≡ n = simp (length-take, length-drop) (omega arith) in
        ap (λ (xs : List A). put (i * w) (enc a) (blocks n w enc xs)) (split_at es i a h)
        ∙ ap (put (i * w) (enc a)) (blocks-three n k (take i es) (get_or es i a) (drop (suc i) es) long)
        ∙ put-at (i * w) (enc a) (flat enc (take i es)) (enc (get_or es i a)) _ (length-flat-take i es (omega arith)) (wide a ∙ sym (wide (get_or es i a)))
        ∙ sym (blocks-three n k (take i es) a (drop (suc i) es) long)
        ∙ ap (blocks n w enc) (sym (set_split es i a h))

    -- a block put in at i: those from i on move up by one
    pub block-insert : (i : ℕ) (a : A) → i ≤ length es → length es < n
        → let l : List ℕ = blocks n w enc es in
        put (i * w) (enc a) (put (i * w + w) (part (i * w) ((length es - i) * w) l) l) ≡ blocks n w enc (insert_at i a es)
    unfolding insert_at
    block-insert i a h g =
        let f : List A → List ℕ = λ xs. let l : List ℕ = blocks n w enc xs in put (i * w) (enc a) (put (i * w + w) (part (i * w) ((length es - i) * w) l) l) in
        ap f (sym (take-append-drop i es))
        ∙ insert-two n (n - suc (length es)) (take i es) a (drop i es) (i * w) ((length es - i) * w)
        (simp (length-take, length-drop) (omega arith)) (ap (λ (z : ℕ). z * w) (sym (length-take-le i es h))) (ap (λ (z : ℕ). z * w) (sym (length-drop i es)))

    -- block i taken out: those behind it move down by one, and the last is zeroed
    pub block-remove : (i : ℕ) (d : A) → i < length es
        → let l : List ℕ = blocks n w enc es in
        let k : ℕ = (length es - suc i) * w in
        put (i * w + k) (zeros w) (put (i * w) (part (i * w + w) k l) l) ≡ blocks n w enc (remove_at i es)
    unfolding remove_at
    block-remove i d h =
        let k : ℕ = (length es - suc i) * w in
        let f : List A → List ℕ = λ xs. let l : List ℕ = blocks n w enc xs in put (i * w + k) (zeros w) (put (i * w) (part (i * w + w) k l) l) in
        ap f (split_at es i d h)
        ∙ remove-two n (n - length es) (take i es) (get_or es i d) (drop (suc i) es) (i * w) k
        (simp (length-take, length-drop) (omega arith)) (ap (λ (z : ℕ). z * w) (sym (length-take-le i es (omega arith)))) (ap (λ (z : ℕ). z * w) (sym (length-drop (suc i) es)))

-- ---- elements out of blocks

module _ {A : Type 0} (w : ℕ) (dec : List ℕ → A) where
  pub length-unblock : (n : ℕ) (l : List ℕ) → length (unblock w dec n l) ≡ n
  unfolding unblock
  length-unblock zero l = refl
  length-unblock (suc n) l = ap suc (length-unblock n (drop w l))

  -- element i
  pub unblock-at : (i n : ℕ) (l : List ℕ) (d : A) → i < n → get_or (unblock w dec n l) i d ≡ dec (part (i * w) w l)
  unfolding unblock part
  unblock-at i zero l d h = absurd (not-suc-le-zero h)
  unblock-at zero (suc n) l d h = rw zero-mul refl
  unblock-at (suc i) (suc n) l d h =
      let e : suc i * w ≡ w + i * w = suc-mul i w ∙ omega arith in
      unblock-at i n (drop w l) d (le_of_suc-le-suc h) ∙ ap (λ (r : List ℕ). dec (take w r)) (drop-drop (i * w) w l ∙ ap (λ (k : ℕ). drop k l) (sym e))

  -- from element i on
  pub unblock-drop : (i n : ℕ) (l : List ℕ) → i < n → drop i (unblock w dec n l) ≡ dec (part (i * w) w l) ∷ drop (suc i) (unblock w dec n l)
  unfolding unblock part
  unblock-drop i zero l h = absurd (not-suc-le-zero h)
  unblock-drop zero (suc n) l h = rw zero-mul refl
  unblock-drop (suc i) (suc n) l h =
      let e : suc i * w ≡ w + i * w = suc-mul i w ∙ omega arith in
      unblock-drop i n (drop w l) (le_of_suc-le-suc h)
      ∙ ap (λ (r : List ℕ). dec (take w r) ∷ drop (suc i) (unblock w dec n (drop w l))) (drop-drop (i * w) w l ∙ ap (λ (k : ℕ). drop k l) (sym e))

-- ---- a test of each block

block-first : (w : ℕ) (l : List ℕ) → part (0 * w) w l ≡ take w l
unfolding part
block-first w l = rw zero-mul refl

block-next : (i w : ℕ) (l : List ℕ) → part (i * w) w (drop w l) ≡ part (suc i * w) w l
block-next i w l =
    let e : w + i * w ≡ suc i * w = omega (arith, suc-mul i w) in
    part-drop (i * w) w w l ∙ ap (λ (k : ℕ). part k w l) e

pub all-blocks-at : (f : List ℕ → Bool) (w n : ℕ) (l : List ℕ) → all_blocks f w n l ≡ true → (i : ℕ) → i < n → f (part (i * w) w l) ≡ true
unfolding all_blocks part
all-blocks-at f w zero l t i h = absurd (not-suc-le-zero h)
all-blocks-at f w (suc n) l t zero h = rw zero-mul (and_left (f (take w l)) (all_blocks f w n (drop w l)) t)
all-blocks-at f w (suc n) l t (suc i) h =
    let e : suc i * w ≡ w + i * w = suc-mul i w ∙ omega arith in
    rw (e, ← drop-drop (i * w) w l) (all-blocks-at f w n (drop w l) (and_right (f (take w l)) (all_blocks f w n (drop w l)) t) i (le_of_suc-le-suc h))

pub at-all-blocks : (f : List ℕ → Bool) (w n : ℕ) (l : List ℕ) → ((i : ℕ) → i < n → f (part (i * w) w l) ≡ true) → all_blocks f w n l ≡ true
unfolding all_blocks
at-all-blocks f w zero l h = refl
at-all-blocks f w (suc n) l h =
    and_intro (f (take w l)) (all_blocks f w n (drop w l)) (rw block-first at (h 0 (omega arith)))
    (at-all-blocks f w n (drop w l) (λ i g. rw (block-next i w l) (h (suc i) (omega arith))))

-- one block of those that are left, in a loop over i below n from `base` on
pub blocks-turn : (f : List ℕ → Bool) (w base n i : ℕ) (l : List ℕ) → i < n
    → all_blocks f w (n - i) (drop (base + i * w) l) ≡ (f (part (base + i * w) w l) && all_blocks f w (n - (i + 1)) (drop (base + (i + 1) * w) l))
unfolding all_blocks part
blocks-turn f w base n i l h =
    let p : n - i ≡ suc (n - (i + 1)) = omega arith in
    let q : base + (i + 1) * w ≡ base + i * w + w = ap (λ (j : ℕ). base + j * w) (add-one i) ∙ ap (λ (j : ℕ). base + j) (suc-mul i w) ∙ omega arith in
    rw (p, q, ← drop-drop w (base + i * w) l)

-- ---- read and written

module _ {A : Type 0} (enc : A → List ℕ) (dec : List ℕ → A) (w : ℕ) (wide : (a : A) → length (enc a) ≡ w) where
  -- blocks that are read and written again are as they were
  flat_back : (k : ℕ) (l : List ℕ) → k * w ≤ length l → ((i : ℕ) → i < k → enc (dec (part (i * w) w l)) ≡ part (i * w) w l) → flat enc (unblock w dec k l) ≡ take (k * w) l
  unfolding flat unblock
  flat_back zero l h f = rw zero-mul refl
  flat_back (suc k) l h f =
      let e : suc k * w ≡ w + k * w = suc-mul k w ∙ omega arith in
      let head : enc (dec (take w l)) ≡ take w l = rw block-first at (f 0 (omega arith)) in
      let rest = flat_back k (drop w l) (rw length-drop (omega arith)) (λ i g. rw (block-next i w l) (f (suc i) (omega arith))) in
      ap₂ (λ (x y : List ℕ). x ++ y) head rest ∙ sym (take-add w (k * w) l) ∙ ap (λ (j : ℕ). take j l) (sym e)

  pub blocks-back : (n k : ℕ) (l : List ℕ) → length l ≡ n * w → k ≤ n → ((i : ℕ) → i < k → enc (dec (part (i * w) w l)) ≡ part (i * w) w l)
      → all_zero (part (k * w) ((n - k) * w) l) ≡ true → blocks n w enc (unblock w dec k l) ≡ l
  unfolding part
  blocks-back n k l e h f z =
      let sum : k * w + (n - k) * w ≡ n * w = sym (add-mul k (n - k) w) ∙ ap (λ (j : ℕ). j * w) (omega arith) in
      let rest : List ℕ = part (k * w) ((n - k) * w) l in
      let long : length rest ≡ (n - k) * w = length_part (k * w) ((n - k) * w) l (omega arith) in
      let all : rest ≡ drop (k * w) l = take_all ((n - k) * w) (drop (k * w) l) (rw length-drop (omega arith)) in
      blocks_is enc w wide n (n - k) (unblock w dec k l) (rw length-unblock (omega arith))
      ∙ ap₂ (λ (x y : List ℕ). x ++ y) (flat_back k l (omega arith) f) (ap zeros (sym long) ∙ sym (zero-all rest z) ∙ all)
      ∙ take-append-drop (k * w) l

  -- elements that are written and read again are as they were
  flat-read : (es : List A) (z : List ℕ) → ((a : A) → a ∈ es → dec (enc a) ≡ a) → unblock w dec (length es) (flat enc es ++ z) ≡ es
  unfolding flat unblock
  flat-read [] z back = refl
  flat-read (a ∷ es) z back =
      let e : enc a ++ flat enc es ++ z ≡ enc a ++ (flat enc es ++ z) = append_assoc (enc a) (flat enc es) z in
      let head : dec (take w (enc a ++ flat enc es ++ z)) ≡ a =
      ap dec (ap (take w) e ∙ take_at (enc a) (flat enc es ++ z) w (wide a)) ∙ back a (here refl) in
      let rest : drop w (enc a ++ flat enc es ++ z) ≡ flat enc es ++ z = ap (drop w) e ∙ drop_at (enc a) (flat enc es ++ z) w (wide a) in
      ap₂ (λ (x : A) (xs : List A). x ∷ xs) head (ap (unblock w dec (length es)) rest ∙ flat-read es z (λ x m. back x (later m)))

  pub blocks-read : (n : ℕ) (es : List A) → length es ≤ n → ((a : A) → a ∈ es → dec (enc a) ≡ a) → unblock w dec (length es) (blocks n w enc es) ≡ es
  blocks-read n es h back =
      ap (unblock w dec (length es)) (blocks_is enc w wide n (n - length es) es (omega arith)) ∙ flat-read es (zeros ((n - length es) * w)) back

-- ---- how long a list is with an element more or less

pub length-insert : {A : Type 0} (i : ℕ) (a : A) (es : List A) → i ≤ length es → length (insert_at i a es) ≡ suc (length es)
unfolding insert_at
length-insert i a es h = simp (length-append, length-take, length-drop) (omega arith)

pub length-remove : {A : Type 0} (i : ℕ) (es : List A) → i < length es → suc (length (remove_at i es)) ≡ length es
unfolding remove_at
length-remove i es h = simp (length-append, length-take, length-drop) (omega arith)
