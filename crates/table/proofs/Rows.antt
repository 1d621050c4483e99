-- A row within a structure: its count stands in field k, and its blocks in the field behind. What the code does on the whole to put a block in or to take
-- one out leaves the structure with the other elements in its row. Over the element and the structure, once for the records of a node and the nodes of a
-- table. Assumes nothing.
use Prim.Native.Nat.{ℕ, suc, ◌+◌, ◌*◌, ◌-◌, ◌≤◌, ◌<◌}
use mathlib.Core.Path.{◌≡◌, ap, ap₂, sym, ◌∙◌, subst}
use mathlib.Core.List.{List, []}
use native.Mathlib.Omega.{arith}
use native.Mathlib.Nat.{add_assoc, mul-le-mul_right}
use native.Mathlib.Numerals.{add-one}
use lib.ListN.{length, get_or, set}
use Rattle.fields.specs.Numbers.{bytes_of}
use Rattle.fields.specs.Parts.{part, put}
use Rattle.fields.specs.Blocks.{zeros, blocks, insert_at, remove_at}
use Rattle.fields.specs.Widths.{joined, offset, Widths}
use Rattle.fields.proofs.Numbers.{length-bytes_of}
use Rattle.fields.proofs.Blocks.{length-zeros, block-insert, block-remove, length-blocks, length-insert, length-remove}
use Rattle.fields.proofs.Widths.{field-set, widths-set}
use Rattle.table.proofs.Areas.{move-put}

-- a block at i and k more behind it are within room for n
inside : (w n i k : ℕ) → i + 1 + k ≤ n → i * w + w + k * w ≤ n * w
inside w n i k h =
    let p : i * w + w + k * w ≡ (i + 1 + k) * w = omega arith in
    subst (λ (x : ℕ). x ≤ n * w) (sym p) (mul-le-mul_right w h)

module _ {A : Type 0} (enc : A → List ℕ) (w : ℕ) (wide : (a : A) → length (enc a) ≡ w) (n : ℕ) (es : List A) (few : length es ≤ n) (ws : List ℕ)
    (fs : List (List ℕ)) (e : Widths ws fs) (k : ℕ) (within : suc k < length ws) (one : get_or ws k 0 ≡ 1) (room : get_or ws (suc k) 0 ≡ n * w)
    (row : get_or fs (suc k) [] ≡ blocks n w enc es) where
  -- the structure with these elements in its row
  abbrev holding : List A → List ℕ
  holding l = joined (set (set fs (suc k) (blocks n w enc l)) k (bytes_of 1 (length l)))

  -- it is so once their bytes and their count are written
  held : (c : List ℕ) (m : ℕ) (l : List A) → c ≡ blocks n w enc l → m ≡ length l → put (offset ws k) (bytes_of 1 m) (joined (set fs (suc k) c)) ≡ holding l
  held c m l is count =
      let long : length c ≡ get_or ws (suc k) 0 = ap length is ∙ length-blocks enc w wide n l ∙ sym room in
      field-set ws (set fs (suc k) c) (widths-set ws fs e (suc k) c long) k (bytes_of 1 m) (omega arith) (length-bytes_of 1 m ∙ sym one)
      ∙ ap₂ (λ (x : List ℕ) (y : ℕ). joined (set (set fs (suc k) x) k (bytes_of 1 y))) is count

  -- an element put in at i: those from i on move up, and the count rises
  pub row-insert : (i : ℕ) (a : A) → i ≤ length es → length es < n
      → let l : List ℕ = joined fs in
      let p : ℕ = offset ws (suc k) + i * w in
      put (offset ws k) (bytes_of 1 (length es + 1)) (put p (enc a) (put (p + w) (part p ((length es - i) * w) l) l)) ≡ holding (insert_at i a es)
  row-insert i a h g =
      let o : ℕ = offset ws (suc k) in
      let m : ℕ = (length es - i) * w in
      let f : List ℕ → List ℕ = λ x. put (i * w) (enc a) (put (i * w + w) (part (i * w) m x) x) in
      let is : f (get_or fs (suc k) []) ≡ blocks n w enc (insert_at i a es) = ap f row ∙ block-insert enc w wide n es few i a h g in
      let count : length es + 1 ≡ length (insert_at i a es) = add-one (length es) ∙ sym (length-insert i a es h) in
      let fits : i * w + w + m ≤ get_or ws (suc k) 0 = rw room (inside w n i (length es - i) (omega arith)) in
      ap (λ (x : ℕ). put (offset ws k) (bytes_of 1 (length es + 1)) (put (o + i * w) (enc a) (put x (part (o + i * w) m (joined fs)) (joined fs))))
      (add_assoc o (i * w) w)
      ∙ ap (put (offset ws k) (bytes_of 1 (length es + 1)))
      (move-put ws fs e (suc k) within (i * w + w) (i * w) m (i * w) (enc a) fits (omega (arith, fits)) (rw wide (omega (arith, fits))))
      ∙ held (f (get_or fs (suc k) [])) (length es + 1) (insert_at i a es) is count

  -- element i taken out: those behind it move down, the last place is zeroed, and the count falls
  pub row-remove : (i : ℕ) (d : A) → i < length es
      → let l : List ℕ = joined fs in
      let p : ℕ = offset ws (suc k) + i * w in
      let m : ℕ = (length es - suc i) * w in
      put (offset ws k) (bytes_of 1 (length es - 1)) (put (p + m) (zeros w) (put p (part (p + w) m l) l)) ≡ holding (remove_at i es)
  row-remove i d h =
      let o : ℕ = offset ws (suc k) in
      let m : ℕ = (length es - suc i) * w in
      let f : List ℕ → List ℕ = λ x. put (i * w + m) (zeros w) (put (i * w) (part (i * w + w) m x) x) in
      let is : f (get_or fs (suc k) []) ≡ blocks n w enc (remove_at i es) = ap f row ∙ block-remove enc w wide n es few i d h in
      let count : length es - 1 ≡ length (remove_at i es) = omega (arith, length-remove i es h) in
      let fits : i * w + w + m ≤ get_or ws (suc k) 0 = rw room (inside w n i (length es - suc i) (omega arith)) in
      ap₂ (λ (x y : ℕ). put (offset ws k) (bytes_of 1 (length es - 1)) (put x (zeros w) (put (o + i * w) (part y m (joined fs)) (joined fs))))
      (add_assoc o (i * w) m) (add_assoc o (i * w) w)
      ∙ ap (put (offset ws k) (bytes_of 1 (length es - 1)))
      (move-put ws fs e (suc k) within (i * w) (i * w + w) m (i * w + m) (zeros w) (omega (arith, fits)) fits (rw length-zeros (omega (arith, fits))))
      ∙ held (f (get_or fs (suc k) [])) (length es - 1) (remove_at i es) is count
