-- Values in the bytes of a grid: what was written is the grid of these values, and what was read are the values of the grid. Assumes nothing.
use Prim.Native.Nat.{ℕ, ◌+◌, ◌-◌, ◌≤◌, ◌<◌}
use mathlib.Core.Path.{◌≡◌, ◌∙◌, ap, ap₂, sym}
use mathlib.Core.Bool.{true, false}
use mathlib.Core.List.{List, [], ◌∷◌, ◌++◌, append_assoc, map}
use native.Mathlib.Omega.{arith}
use native.Mathlib.Numerals.{add-one}
use lib.ListN.{length, take, drop, get_or, set, length-map}
use lib.Seq.{drop-set-add, length-take-le, set_at, take_all, take-set-lt, take-suc}
use Rattle.fields.specs.Numbers.{bytes_of, nat_of}
use Rattle.fields.specs.Parts.{part, put}
use Rattle.fields.specs.Blocks.{fit, zeros}
use Rattle.fields.specs.Widths.{Widths, cut_at, joined, offset}
use Rattle.fields.proofs.Blocks.{fit-pad, length-zeros, zeros-next}
use Rattle.fields.proofs.Choice.{pick-false, pick_true}
use Rattle.fields.proofs.Numbers.{length-bytes_of}
use Rattle.fields.proofs.Parts.{length_part}
use Rattle.fields.proofs.Widths.{field-set, joined-whole, widths-set}
use Rattle.rules.specs.Sizes.{max_nodes}
use Rattle.rules.specs.Table.{among}
use Rattle.rules.specs.Compute.{told_of}
use Rattle.rules.specs.Digest.{NodeDigest}
use Rattle.std.proofs.lemmas.List.{take-map, get_or-map}
use Rattle.grid.specs.Grid.{Grid, row_told, add_column, column_in, column_out, columns, drop_column, max_peers, place_for, place_in, place_of, place_out}
use Rattle.grid.specs.GridLayout.{decode_grid, encode_grid, grid_width, grid_widths, row_bytes, row_in, row_width, rows_bytes, rows_in, rows_width, valid_grid}
use Rattle.grid.proofs.GridBytes.{fit-whole, good-grid, length-row, length-rows, row-long}
use Rattle.grid.proofs.Places.{place-missing, place-there}
use Rattle.grid_change.specs.Stored.{grid_of, with_rows}

-- ---- what was written

module _ (l : List ℕ) (long : length l ≡ grid_width) (n : ℕ) (ns : List ℕ) (gcs maxes : List (List ℕ)) where
  abbrev cut : List (List ℕ)
  cut = cut_at 0 grid_widths l

  cut-widths : Widths grid_widths cut
  cut-widths =
      (length_part (offset grid_widths 0) 1 l (omega arith), (length_part (offset grid_widths 1) row_width l (omega arith), (length_part (offset grid_widths 2) max_peers l (omega arith), (length_part (offset grid_widths 3) rows_width l (omega arith), (length_part (offset grid_widths 4) rows_width l (omega arith), tt)))))

  abbrev one : List (List ℕ)
  one = set cut 0 (bytes_of 1 n)

  abbrev two : List (List ℕ)
  two = set one 1 (row_bytes ns)

  abbrev three : List (List ℕ)
  three = set two 3 (rows_bytes gcs)

  one-widths : Widths grid_widths one
  one-widths = widths-set grid_widths cut cut-widths 0 (bytes_of 1 n) (length-bytes_of 1 n)

  two-widths : Widths grid_widths two
  two-widths = widths-set grid_widths one one-widths 1 (row_bytes ns) (length-row ns)

  three-widths : Widths grid_widths three
  three-widths = widths-set grid_widths two two-widths 3 (rows_bytes gcs) (length-rows gcs)

  pub stored : (s1 s2 s3 s4 : List ℕ) → s1 ≡ put (offset grid_widths 0) (bytes_of 1 n) l → s2 ≡ put (offset grid_widths 1) (row_bytes ns) s1
      → s3 ≡ put (offset grid_widths 3) (rows_bytes gcs) s2 → s4 ≡ put (offset grid_widths 4) (rows_bytes maxes) s3 → s4 ≡ encode_grid (grid_of n ns l gcs maxes)
  unfolding encode_grid
  stored s1 s2 s3 s4 e1 e2 e3 e4 =
      let a : s1 ≡ joined one = e1 ∙ ap (put (offset grid_widths 0) (bytes_of 1 n)) (sym (joined-whole grid_widths l long)) ∙ field-set grid_widths cut cut-widths 0 (bytes_of 1 n) (omega arith) (length-bytes_of 1 n) in
      let b : s2 ≡ joined two = e2 ∙ ap (put (offset grid_widths 1) (row_bytes ns)) a ∙ field-set grid_widths one one-widths 1 (row_bytes ns) (omega arith) (length-row ns) in
      let c : s3 ≡ joined three = e3 ∙ ap (put (offset grid_widths 3) (rows_bytes gcs)) b ∙ field-set grid_widths two two-widths 3 (rows_bytes gcs) (omega arith) (length-rows gcs) in
      e4
      ∙ ap (put (offset grid_widths 4) (rows_bytes maxes)) c
      ∙ field-set grid_widths three three-widths 4 (rows_bytes maxes) (omega arith) (length-rows maxes)
      ∙ ap (λ (f : List ℕ). joined (bytes_of 1 n ∷ row_bytes ns ∷ f ∷ rows_bytes gcs ∷ rows_bytes maxes ∷ []))
      (sym (fit-whole max_peers (part (offset grid_widths 2) max_peers l) (length_part (offset grid_widths 2) max_peers l (omega arith))))

-- a flag
pub flag-set : (l : List ℕ) (p f : ℕ) → p < max_peers
    → part (offset grid_widths 2) max_peers (set l (offset grid_widths 2 + p) f) ≡ set (part (offset grid_widths 2) max_peers l) p f
unfolding part
flag-set l p f h = ap (take max_peers) (drop-set-add (offset grid_widths 2) l p f) ∙ take-set-lt max_peers (drop (offset grid_widths 2) l) p f h

-- ---- one place after the other is filled

pub fit_none : (n : ℕ) → fit n [] ≡ zeros n
unfolding fit
fit_none n = take_all n (zeros n) (omega (arith, length-zeros n))

pub fill : (n i x : ℕ) (xs : List ℕ) → i < length xs → length xs ≤ n → x ≡ get_or xs i 0 → set (fit n (take i xs)) i x ≡ fit n (take (i + 1) xs)
fill n i x xs h few e =
    let li : length (take i xs) ≡ i = length-take-le i xs (omega arith) in
    let lj : length (take (i + 1) xs) ≡ i + 1 = length-take-le (i + 1) xs (omega arith) in
    ap (λ (l : List ℕ). set l i x) (fit-pad n (take i xs) (omega arith) ∙ ap (λ (k : ℕ). take i xs ++ zeros (n - k)) li ∙ ap (λ (z : List ℕ). take i xs ++ z) (zeros-next i n (omega arith)))
    ∙ set_at (take i xs) 0 (zeros (n - (i + 1))) x i li
    ∙ ap (λ (y : ℕ). take i xs ++ (y ∷ zeros (n - (i + 1)))) e
    ∙ sym (append_assoc (take i xs) (get_or xs i 0 ∷ []) (zeros (n - (i + 1))))
    ∙ ap₂ (λ (l : List ℕ) (k : ℕ). l ++ zeros (n - k)) (sym (ap (λ (k : ℕ). take k xs) (add-one i) ∙ take-suc xs i 0 h)) (sym lj)
    ∙ sym (fit-pad n (take (i + 1) xs) (omega arith))

-- the same of what a digest tells of one number after the other
pub told_none : (f : NodeDigest → ℕ) (ds : List NodeDigest) (ns : List ℕ) → zeros max_nodes ≡ row_told f ds (take 0 ns)
unfolding row_told
told_none f ds ns = sym (fit_none max_nodes)

pub told_more : (f : NodeDigest → ℕ) (ds : List NodeDigest) (ns : List ℕ) (j x : ℕ) → length ns ≡ max_nodes → j < max_nodes → x ≡ f (told_of (get_or ns j 0) ds)
    → set (row_told f ds (take j ns)) j x ≡ row_told f ds (take (j + 1) ns)
unfolding row_told
told_more f ds ns j x long h e =
    let told : ℕ → ℕ = λ (i : ℕ). f (told_of i ds) in
    let many = length-map ns told in
    ap (λ (l : List ℕ). set (fit max_nodes l) j x) (sym (take-map told j ns))
    ∙ fill max_nodes j x (map told ns) (omega (arith, many)) (omega (arith, many)) (e ∙ sym (get_or-map told ns j 0 0 (omega arith)))
    ∙ ap (fit max_nodes) (take-map told (j + 1) ns)

-- ---- what was read of a good grid

module _ (l : List ℕ) (v : valid_grid l ≡ true) (n : ℕ) (row : List ℕ) (p : n ≡ nat_of (part (offset grid_widths 0) 1 l)) (q : row ≡ row_in (part (offset grid_widths 1) row_width l)) where
  pub few : n ≤ max_nodes
  few = omega (arith, (good-grid l v).few)

  pub many : length (take n row) ≡ n
  many = length-take-le n row (omega (arith, few, ap length q, row-long (part (offset grid_widths 1) row_width l)))

  pub columns-are : take n row ≡ columns (decode_grid l)
  unfolding decode_grid
  columns-are = λ z. take (p z) (q z)

  module _ (i j : ℕ) (e : j ≡ place_of i (take n row)) where
    there : j < n → among i (columns (decode_grid l)) ≡ true
    there h = ap (among i) (sym columns-are) ∙ place-there i (take n row) (omega (arith, many))

    missing : n ≤ j → among i (columns (decode_grid l)) ≡ false
    missing h = ap (among i) (sym columns-are) ∙ place-missing i (take n row) (omega (arith, many))

    -- the node has its column
    pub add_none : j < n → l ≡ encode_grid (add_column i (decode_grid l))
    unfolding add_column
    add_none h = sym (good-grid l v).is ∙ ap encode_grid (sym (pick_true (among i (columns (decode_grid l))) (decode_grid l) _ (there h)))

    pub drop-none : n ≤ j → l ≡ encode_grid (drop_column i (decode_grid l))
    unfolding drop_column
    drop-none h = sym (good-grid l v).is ∙ ap encode_grid (sym (pick-false (among i (columns (decode_grid l))) (column_out (place_of i (columns (decode_grid l))) (decode_grid l)) (decode_grid l) (missing h)))

    module _ (gcs maxes : List (List ℕ)) (eg : gcs ≡ rows_in (part (offset grid_widths 3) rows_width l)) (em : maxes ≡ rows_in (part (offset grid_widths 4) rows_width l)) where
      read : record { count = n; numbers = row; present = part (offset grid_widths 2) max_peers l; gcs = gcs; maxes = maxes } ≡ decode_grid l
      unfolding decode_grid
      read = λ z. record { count = p z; numbers = q z; present = part (offset grid_widths 2) max_peers l; gcs = eg z; maxes = em z }

      pub add-one-more : n ≤ j → (k : ℕ) → k ≡ place_for i (take n row) → (ns : List ℕ) (gs ms : List (List ℕ)) → ns ≡ place_in k i row → gs ≡ map (place_in k 0) gcs → ms ≡ map (place_in k 0) maxes
          → encode_grid (grid_of (n + 1) ns l gs ms) ≡ encode_grid (add_column i (decode_grid l))
      unfolding add_column column_in
      add-one-more h k ek ns gs ms en eg' em' =
          ap encode_grid
          ((λ z. record { count = n + 1; numbers = en z; present = part (offset grid_widths 2) max_peers l; gcs = eg' z; maxes = em' z })
          ∙ ap₂ (λ (x : ℕ) (g : Grid). column_in x i g) (ek ∙ ap (place_for i) columns-are) read
          ∙ sym (pick-false (among i (columns (decode_grid l))) (decode_grid l) (column_in (place_for i (columns (decode_grid l))) i (decode_grid l)) (missing h)))

      pub drop-one : j < n → (ns : List ℕ) (gs ms : List (List ℕ)) → ns ≡ place_out j row → gs ≡ map (place_out j) gcs → ms ≡ map (place_out j) maxes
          → encode_grid (grid_of (n - 1) ns l gs ms) ≡ encode_grid (drop_column i (decode_grid l))
      unfolding drop_column column_out
      drop-one h ns gs ms en eg' em' =
          ap encode_grid
          ((λ z. record { count = n - 1; numbers = en z; present = part (offset grid_widths 2) max_peers l; gcs = eg' z; maxes = em' z })
          ∙ ap₂ column_out (e ∙ ap (place_of i) columns-are) read
          ∙ sym (pick_true (among i (columns (decode_grid l))) (column_out (place_of i (columns (decode_grid l))) (decode_grid l)) (decode_grid l) (there h)))

  -- the rows of a peer, and its flag
  pub rows-set : (gcs maxes : List (List ℕ)) → gcs ≡ rows_in (part (offset grid_widths 3) rows_width l) → maxes ≡ rows_in (part (offset grid_widths 4) rows_width l)
      → (peer flag : ℕ) (g m : List ℕ) → peer < max_peers
      → encode_grid (grid_of n row (set l (offset grid_widths 2 + peer) flag) (set gcs peer g) (set maxes peer m)) ≡ encode_grid (with_rows peer flag g m (decode_grid l))
  unfolding decode_grid
  rows-set gcs maxes eg em peer flag g m h =
      ap encode_grid (λ z. record { count = p z; numbers = q z; present = flag-set l peer flag h z; gcs = set (eg z) peer g; maxes = set (em z) peer m })
