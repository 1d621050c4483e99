-- What the rows of a grid tell of each node, as one is told or taken out and as a column comes. Assumes nothing.
use Prim.Native.Nat.{ℕ, zero, suc, ◌≤◌, ◌<◌}
use mathlib.Core.Bool.{Bool, true, false}
use mathlib.Core.List.{List, [], ◌∷◌, map}
use mathlib.Core.Path.{◌≡◌, ap, refl}
use native.Mathlib.Omega.{arith}
use lib.Dec.{eqb}
use lib.ListN.{length, get_or, set}
use lib.Seq.{get_or-set_other, get_or-set_same}
use Rattle.fields.specs.Blocks.{insert_at, zeros}
use Rattle.fields.specs.Choice.{pick}
use Rattle.rules.specs.Compute.{told_of}
use Rattle.rules.specs.Digest.{NodeDigest}
use Rattle.rules.specs.Sizes.{max_nodes}
use Rattle.grid.specs.Grid.{Grid, column_in, columns, place_in, place_of, row_told, take_out, tell_row}
use Rattle.grid_kept.proofs.Rows.{come-first}
use Rattle.net_careful.proofs.Telling.{row_has, taken}
use Rattle.net_careful.specs.Careful.{told_max}

-- ---- a row is told

module _ (g : Grid) (p : ℕ) (ds : List NodeDigest) where
  abbrev row : List ℕ
  row = row_told (λ d. d.max) ds (columns g)

  pub tell-own : p < length g.maxes → (i : ℕ) → told_max p i (tell_row p ds g) ≤ (told_of i ds).max
  unfolding tell_row
  tell-own h i =
      let a : get_or (set g.maxes p row) p [] ≡ row = get_or-set_same g.maxes p row [] h in
      let b = row_has ds (columns g) i in
      let e = ap (λ (r : List ℕ). get_or r (place_of i (columns g)) 0) a in
      omega arith

  pub tell-other : (q i : ℕ) → (q ≡ p → ⊥) → told_max q i (tell_row p ds g) ≡ told_max q i g
  unfolding tell_row
  tell-other q i n = ap (λ (r : List ℕ). get_or r (place_of i (columns g)) 0) (get_or-set_other g.maxes p q row [] n)

  pub tell-flag : (q : ℕ) → (q ≡ p → ⊥) → get_or (tell_row p ds g).present q 0 ≡ get_or g.present q 0
  unfolding tell_row
  tell-flag q n = get_or-set_other g.present p q 1 0 n

-- ---- a row is taken out

module _ (g : Grid) (p : ℕ) where
  pub out-flag : p < length g.present → get_or (take_out p g).present p 0 ≡ 0
  unfolding take_out
  out-flag h = get_or-set_same g.present p 0 0 h

  pub out-other : (q i : ℕ) → (q ≡ p → ⊥) → told_max q i (take_out p g) ≡ told_max q i g
  unfolding take_out
  out-other q i n = ap (λ (r : List ℕ). get_or r (place_of i (columns g)) 0) (get_or-set_other g.maxes p q (zeros max_nodes) [] n)

  pub out-flags : (q : ℕ) → (q ≡ p → ⊥) → get_or (take_out p g).present q 0 ≡ get_or g.present q 0
  unfolding take_out
  out-flags q n = get_or-set_other g.present p q 0 0 n

-- ---- a column comes

-- of one place alone there is nothing to read but what stands there
only_zero : (n : ℕ) → ◌≡◌ {A = ℕ} (get_or (0 ∷ []) n 0) 0
only_zero zero = refl
only_zero (suc n) = refl

-- what a row tells of each node stays as a column of 0 comes among its places; of that node it tells 0
shift : (j i k : ℕ) (cols row : List ℕ) → j ≤ length cols → get_or (insert_at j 0 row) (place_of k (insert_at j i cols)) 0 ≤ get_or row (place_of k cols) 0
unfolding insert_at place_of
shift zero i k cols row h = go (eqb k i)
  where
    go : (b : Bool) → get_or (0 ∷ row) (pick b 0 (suc (place_of k cols))) 0 ≤ get_or row (place_of k cols) 0
    go true = omega arith
    go false = omega arith
shift (suc j) i k [] row h = absurd (omega arith)
shift (suc j) i k (c ∷ cols) [] h = let e = only_zero (place_of k (insert_at (suc j) i (c ∷ cols))) in omega arith
shift (suc j) i k (c ∷ cols) (r ∷ row) h = go (eqb k c) (shift j i k cols row (omega arith))
  where
    go : (b : Bool) → get_or (insert_at j 0 row) (place_of k (insert_at j i cols)) 0 ≤ get_or row (place_of k cols) 0
        → get_or (r ∷ insert_at j 0 row) (pick b 0 (suc (place_of k (insert_at j i cols)))) 0 ≤ get_or (r ∷ row) (pick b 0 (suc (place_of k cols))) 0
    go true ih = omega arith
    go false ih = ih

row_in : (j : ℕ) (rs : List (List ℕ)) (p n : ℕ) → get_or (get_or (map (place_in j 0) rs) p []) n 0 ≤ get_or (insert_at j 0 (get_or rs p [])) n 0
unfolding place_in
row_in j [] p n = omega arith
row_in j (r ∷ rs) zero n = taken max_nodes (insert_at j 0 r) n
row_in j (r ∷ rs) (suc p) n = row_in j rs p n

pub come-less : (g : Grid) (j i : ℕ) → length g.numbers ≡ max_nodes → j ≤ g.count → g.count < max_nodes → j ≤ length (columns g)
    → (p k : ℕ) → told_max p k (column_in j i g) ≤ told_max p k g
unfolding column_in
come-less g j i long low room at p k =
    let e : columns (column_in j i g) ≡ insert_at j i (columns g) = come-first g.count j i g.numbers long low room in
    let a = row_in j g.maxes p (place_of k (columns (column_in j i g))) in
    let b = ap (λ (cols : List ℕ). get_or (insert_at j 0 (get_or g.maxes p [])) (place_of k cols) 0) e in
    let c = shift j i k (columns g) (get_or g.maxes p []) at in
    omega arith
