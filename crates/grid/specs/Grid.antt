-- Who has seen what (ticket 12): for eight peers and eight nodes, the pair of last_gc and max that each peer's digest told last, as a grid of eight rows
-- by eight. The columns are the nodes of one table. Nothing here knows of bytes.
use Rattle.std.specs.Prelude.{ℕ, suc, ◌+◌, ◌-◌, min, Bool, true, ◌&&◌, List, [], ◌∷◌, ◌++◌, map, length, take, drop, get_or, set, replicate, leb, ltb, eqb}
use Rattle.fields.specs.Choice.{pick, every, all}
use Rattle.fields.specs.Blocks.{zeros, all_zero, fit, insert_at, remove_at}
use Rattle.rules.specs.Sizes.{max_nodes, top}
use Rattle.rules.specs.Table.{rising, among}
use Rattle.rules.specs.Digest.{NodeDigest}
use Rattle.rules.specs.Compute.{told_of}

-- the peers that a grid has rows for, numbered from 0
abbrev pub max_peers : ℕ
max_peers = 8

-- Two arrays of eight rows of eight, one of last_gc and one of max: row x is what peer x told. `present` has 1 for a peer that is present, 0 for another.
-- The first `count` of the eight numbers are those of the columns. Every place that is not in use is 0.
pub record Grid : Type 0 where
  pub count : ℕ
  pub numbers : List ℕ
  pub present : List ℕ
  pub gcs : List (List ℕ)
  pub maxes : List (List ℕ)

-- the numbers of the nodes that the columns stand for
abbrev pub columns : (grid : Grid) → List ℕ
columns g = take g.count g.numbers

-- ---- the rules (number 14)

-- a row has nothing behind the columns, and that of an absent peer nothing at all
unfoldable pub rows_obey : (count : ℕ) (present : List ℕ) (rows : List (List ℕ)) → Bool
rows_obey n [] rs = true
rows_obey n (f ∷ fs) [] = true
rows_obey n (f ∷ fs) (r ∷ rs) = all_zero (drop (pick (eqb f 1) n 0) r) && rows_obey n fs rs

-- at most eight columns, in the order of their numbers; a peer is present or it is not
unfoldable pub obeys_grid : (grid : Grid) → Bool
obeys_grid g =
    every
    (leb g.count max_nodes
    ∷ rising (columns g)
    ∷ all_zero (drop g.count g.numbers)
    ∷ all (λ f. leb f 1) g.present
    ∷ rows_obey g.count g.present g.gcs
    ∷ rows_obey g.count g.present g.maxes
    ∷ [])

-- ---- columns that come and go

-- eight rows of zeros
unfoldable pub no_rows : List (List ℕ)
no_rows = replicate max_peers (zeros max_nodes)

-- the grid of a table's nodes: nobody is present
unfoldable pub new_grid : (numbers : List ℕ) → Grid
new_grid ns = record { count = length ns; numbers = fit max_nodes ns; present = zeros max_peers; gcs = no_rows; maxes = no_rows }

-- the place of a number in a list, or behind its end
unfoldable pub place_of : (number : ℕ) (numbers : List ℕ) → ℕ
place_of i [] = 0
place_of i (n ∷ ns) = pick (eqb i n) 0 (suc (place_of i ns))

-- the place in the order of the numbers where one belongs
unfoldable pub place_for : (number : ℕ) (numbers : List ℕ) → ℕ
place_for i [] = 0
place_for i (n ∷ ns) = pick (ltb n i) (suc (place_for i ns)) 0

-- one of the eight places of a row comes, and those behind it move up; one goes, and those behind it move down
unfoldable pub place_in : (place value : ℕ) (row : List ℕ) → List ℕ
place_in j v r = take max_nodes (insert_at j v r)

unfoldable pub place_out : (place : ℕ) (row : List ℕ) → List ℕ
place_out j r = remove_at j r ++ (0 ∷ [])

-- a column comes at (0,0), in every row and in both arrays
unfoldable pub column_in : (place number : ℕ) (grid : Grid) → Grid
column_in j i g =
    record {
      count = g.count + 1;
      numbers = place_in j i g.numbers;
      present = g.present;
      gcs = map (place_in j 0) g.gcs;
      maxes = map (place_in j 0) g.maxes;
    }

unfoldable pub column_out : (place : ℕ) (grid : Grid) → Grid
column_out j g =
    record { count = g.count - 1; numbers = place_out j g.numbers; present = g.present; gcs = map (place_out j) g.gcs; maxes = map (place_out j) g.maxes }

-- the column of a node, in the order of the numbers; one that is there stays as it is
unfoldable pub add_column : (number : ℕ) (grid : Grid) → Grid
add_column i g = pick (among i (columns g)) g (column_in (place_for i (columns g)) i g)

unfoldable pub drop_column : (number : ℕ) (grid : Grid) → Grid
drop_column i g = pick (among i (columns g)) (column_out (place_of i (columns g)) g) g

-- ---- what peers tell

-- what the digest tells of each column, 0 of a node that it omits; a node that is no column is not asked for
unfoldable pub row_told : (field : NodeDigest → ℕ) (entries : List NodeDigest) (columns : List ℕ) → List ℕ
row_told f ds ns = fit max_nodes (map (λ i. f (told_of i ds)) ns)

-- A peer's digest takes the place of what it told before, also where a number falls. From now on the peer is present.
unfoldable pub tell_row : (peer : ℕ) (entries : List NodeDigest) (grid : Grid) → Grid
tell_row p ds g =
    record {
      count = g.count;
      numbers = g.numbers;
      present = set g.present p 1;
      gcs = set g.gcs p (row_told (λ d. d.last_gc) ds (columns g));
      maxes = set g.maxes p (row_told (λ d. d.max) ds (columns g));
    }

-- a peer goes, and what it told with it
unfoldable pub take_out : (peer : ℕ) (grid : Grid) → Grid
take_out p g =
    record {
      count = g.count;
      numbers = g.numbers;
      present = set g.present p 0;
      gcs = set g.gcs p (zeros max_nodes);
      maxes = set g.maxes p (zeros max_nodes);
    }

-- ---- what the peers present have told

-- a peer is present
abbrev pub somebody : (grid : Grid) → Bool
somebody g = among 1 g.present

-- of things that there is one of for each peer, those of the peers present
unfoldable pub of_present : (present things : List ℕ) → List ℕ
of_present [] xs = []
of_present (f ∷ fs) [] = []
of_present (f ∷ fs) (x ∷ xs) = pick (eqb f 1) (x ∷ of_present fs xs) (of_present fs xs)

abbrev pub column_at : (place : ℕ) (rows : List (List ℕ)) → List ℕ
column_at j rs = map (λ r. get_or r j 0) rs

-- the maxes that the peers present have told of the column at a place, and of a node
abbrev pub maxes_at : (place : ℕ) (grid : Grid) → List ℕ
maxes_at j g = of_present g.present (column_at j g.maxes)

abbrev pub maxes_told : (number : ℕ) (grid : Grid) → List ℕ
maxes_told i g = maxes_at (place_of i (columns g)) g

-- the least of some numbers of eight bytes; of none of them, the largest
unfoldable pub least_of : List ℕ → ℕ
least_of [] = top
least_of (m ∷ ms) = min m (least_of ms)
