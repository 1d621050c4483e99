-- Changes within one field of a structure, as the code makes them on the whole: a part of the field, a move within it, a block put in and a block
-- taken out. Over the widths and the field, once for nodes and tables. Assumes nothing.
use Prim.Native.Nat.{ℕ, zero, suc, ◌+◌, ◌≤◌, ◌<◌}
use mathlib.Core.Path.{◌≡◌, refl, ap, sym, ◌∙◌, subst}
use mathlib.Core.List.{List, [], ◌∷◌, ◌++◌}
use native.Mathlib.Omega.{arith}
use native.Mathlib.Nat.{le_of_suc-le-suc, not-suc-le-zero, add_assoc}
use lib.ListN.{length, get_or, set}
use lib.Seq.{get_or-set_same, set-set}
use Rattle.fields.specs.Parts.{part, put}
use Rattle.fields.specs.Widths.{joined, offset, Widths}
use Rattle.fields.proofs.Parts.{part_left, part_right, length_part, length-put}
use Rattle.fields.proofs.Widths.{field_put, widths-set}

-- a part of field k
pub part_in : (ws : List ℕ) (fs : List (List ℕ)) → Widths ws fs → (k a n : ℕ) → k < length ws → a + n ≤ get_or ws k 0
    → part (offset ws k + a) n (joined fs) ≡ part a n (get_or fs k [])
unfolding joined
part_in [] fs e k a n h g = absurd (not-suc-le-zero h)
part_in (w ∷ ws) [] e k a n h g = absurd e
part_in (w ∷ ws) (f ∷ fs) e zero a n h g =
    ap (λ (j : ℕ). part j n (f ++ joined fs)) (omega arith) ∙ part_left a n f (joined fs) (subst (λ (m : ℕ). a + n ≤ m) (sym e.0) g)
part_in (w ∷ ws) (f ∷ fs) e (suc k) a n h g =
    ap (λ (j : ℕ). part j n (f ++ joined fs)) (add_assoc w (offset ws k) a)
    ∙ part_right w (offset ws k + a) n f (joined fs) e.0
    ∙ part_in ws fs e.1 k a n (le_of_suc-le-suc h) g

pub width-at : (ws : List ℕ) (fs : List (List ℕ)) → Widths ws fs → (k : ℕ) → k < length ws → length (get_or fs k []) ≡ get_or ws k 0
width-at [] fs e k h = absurd (not-suc-le-zero h)
width-at (w ∷ ws) [] e k h = absurd e
width-at (w ∷ ws) (f ∷ fs) e zero h = e.0
width-at (w ∷ ws) (f ∷ fs) e (suc k) h = width-at ws fs e.1 k (le_of_suc-le-suc h)

widths-long : (ws : List ℕ) (fs : List (List ℕ)) → Widths ws fs → length fs ≡ length ws
widths-long [] [] e = refl
widths-long [] (f ∷ fs) e = absurd e
widths-long (w ∷ ws) [] e = absurd e
widths-long (w ∷ ws) (f ∷ fs) e = ap suc (widths-long ws fs e.1)

module _ (ws : List ℕ) (fs : List (List ℕ)) (e : Widths ws fs) (k : ℕ) (h : k < length ws) where
  -- m bytes of field k moved within it
  move_in : (x y m : ℕ) → x + m ≤ get_or ws k 0 → y + m ≤ get_or ws k 0
      → put (offset ws k + x) (part (offset ws k + y) m (joined fs)) (joined fs) ≡ joined (set fs k (put x (part y m (get_or fs k [])) (get_or fs k [])))
  move_in x y m p q =
      let long : length (part y m (get_or fs k [])) ≡ m = length_part y m (get_or fs k []) (rw (width-at ws fs e k h) q) in
      ap (λ (r : List ℕ). put (offset ws k + x) r (joined fs)) (part_in ws fs e k y m h q)
      ∙ field_put ws fs e k x (part y m (get_or fs k [])) h (rw long p)

  -- and then bytes put
  pub move-put : (x y m z : ℕ) (v : List ℕ) → x + m ≤ get_or ws k 0 → y + m ≤ get_or ws k 0 → z + length v ≤ get_or ws k 0
      → put (offset ws k + z) v (put (offset ws k + x) (part (offset ws k + y) m (joined fs)) (joined fs))
      ≡ joined (set fs k (put z v (put x (part y m (get_or fs k [])) (get_or fs k []))))
  move-put x y m z v p q g =
      let b : List ℕ = get_or fs k [] in
      let c : List ℕ = put x (part y m b) b in
      let wide : length b ≡ get_or ws k 0 = width-at ws fs e k h in
      let long : length (part y m b) ≡ m = length_part y m b (rw wide q) in
      let same : length c ≡ get_or ws k 0 = length-put x (part y m b) b (rw (long, wide) p) ∙ wide in
      let at : get_or (set fs k c) k [] ≡ c = get_or-set_same fs k c [] (rw (widths-long ws fs e) h) in
      ap (put (offset ws k + z) v) (move_in x y m p q)
      ∙ field_put ws (set fs k c) (widths-set ws fs e k c same) k z v h g
      ∙ ap (λ (r : List ℕ). joined (set (set fs k c) k (put z v r))) at
      ∙ ap joined (set-set fs k c (put z v c))
