-- Grids keep their rules: one that is made, a column that comes or goes with its node, a row that is told, and one that is taken out. Assumes nothing.
use Prim.Native.Nat.{ℕ, zero, suc, ◌+◌, ◌-◌, ◌≤◌, ◌<◌}
use mathlib.Core.Bool.{Bool, true, false, true≢false}
use mathlib.Core.List.{List, [], ◌∷◌, ◌++◌, map}
use mathlib.Core.Logic.{◌⊎◌, inl, inr}
use mathlib.Core.Path.{◌≡◌, ◌∙◌, ap, refl, subst, sym}
use native.Mathlib.Omega.{arith}
use lib.Dec.{eqb, leb, ltb}
use lib.ListN.{length, take, drop, set, replicate, length-map, length-replicate, length-set}
use lib.Seq.{drop_at, length-take-le, take_at}
use borrow.Author.Tests.{eqb-false, le-leb, le-ltb, lt-ltb, ltb-false, ltb-true}
use Rattle.fields.specs.Choice.{◌∈◌, all, pick}
use Rattle.fields.specs.Blocks.{all_zero, fit, insert_at, remove_at, zeros}
use Rattle.fields.proofs.Blocks.{all-zero, fit-pad, length-fit, length-insert, length-zeros, length-remove}
use Rattle.fields.proofs.Choice.{all_from, all_in, in-append, in-cons, in-none, in_take, pick-false, pick_true}
use Rattle.rules.specs.Compute.{told_of}
use Rattle.rules.specs.Digest.{NodeDigest}
use Rattle.rules.specs.Node.{fresh}
use Rattle.rules.specs.Sizes.{max_nodes, numbers}
use Rattle.rules.specs.Table.{Table, add_node, among, drop_node, numbers_of, rising}
use Rattle.grid.specs.Grid.{Grid, add_column, column_in, column_out, columns, drop_column, max_peers, new_grid, no_rows, place_for, place_in, place_of, place_out, row_told, rows_obey, take_out, tell_row}
use Rattle.grid.proofs.Places.{place-fits, place_found}
use Rattle.grid_kept.proofs.Encoded.{FitsGrid, FitsRow, FitsRows}
use Rattle.grid_kept.proofs.Rows.{come-behind, come-first, come-zero, gone-behind, gone-first, gone-zero, in_map, in-place-in, in-place-out, in-set, rows-map, rows-set, zeros-in}
use Rattle.grid_kept.proofs.Sound.{OkGrid, Sound, facts-grid, grid-facts}

-- ---- rows that fit

zeros-fit : FitsRow (zeros max_nodes)
zeros-fit = record { long = length-zeros max_nodes; each = λ n m. omega (arith, zeros-in max_nodes n m) }

fit-fits : (ns : List ℕ) → ((n : ℕ) → n ∈ ns → n < numbers) → FitsRow (fit max_nodes ns)
unfolding fit
fit-fits ns f = record { long = length-fit max_nodes ns; each = λ n m. go n (in-append ns (zeros max_nodes) (in_take max_nodes (ns ++ zeros max_nodes) m)) }
  where
    go : (n : ℕ) → (n ∈ ns) ⊎ (n ∈ zeros max_nodes) → n < numbers
    go n (inl m) = f n m
    go n (inr m) = omega (arith, zeros-in max_nodes n m)

come-fits : (j v : ℕ) (r : List ℕ) → j ≤ max_nodes → v < numbers → FitsRow r → FitsRow (place_in j v r)
unfolding place_in
come-fits j v r h g f =
    record {
      long = length-take-le max_nodes (insert_at j v r) (omega (arith, length-insert j v r (omega (arith, f.long)), f.long));
      each = λ n m. go n (in-place-in j v r n m);
    }
  where
    go : (n : ℕ) → (n ≡ v) ⊎ (n ∈ r) → n < numbers
    go n (inl e) = omega (arith, e, g)
    go n (inr m) = f.each n m

gone-fits : (j : ℕ) (r : List ℕ) → j < max_nodes → FitsRow r → FitsRow (place_out j r)
unfolding place_out
gone-fits j r h f =
    record {
      long = length-append-one (remove_at j r) ∙ length-remove j r (omega (arith, f.long)) ∙ f.long;
      each = λ n m. go n (in-place-out j r n m);
    }
  where
    length-append-one : (l : List ℕ) → length (l ++ (0 ∷ [])) ≡ suc (length l)
    length-append-one [] = refl
    length-append-one (x ∷ l) = ap suc (length-append-one l)

    go : (n : ℕ) → (n ≡ 0) ⊎ (n ∈ r) → n < numbers
    go n (inl e) = omega (arith, e)
    go n (inr m) = f.each n m

map-fits : (f : List ℕ → List ℕ) (rs : List (List ℕ)) → ((r : List ℕ) → FitsRow r → FitsRow (f r)) → FitsRows rs → FitsRows (map f rs)
map-fits f rs h s = record { long = length-map rs f ∙ s.long; each = in_map FitsRow f rs (λ r m. h r (s.each r m)) }

set-fits : (rs : List (List ℕ)) (p : ℕ) (r : List ℕ) → FitsRow r → FitsRows rs → FitsRows (set rs p r)
set-fits rs p r h s = record { long = length-set rs p r ∙ s.long; each = in-set FitsRow rs p r h s.each }

-- ---- a grid that is made

in-replicate : {A : Type 0} (n : ℕ) (a x : A) → x ∈ replicate n a → x ≡ a
in-replicate zero a x m = absurd (in-none m)
in-replicate {A} (suc n) a x m = go (in-cons m) (in-replicate n a x)
  where
    go : (x ≡ a) ⊎ (x ∈ replicate n a) → (x ∈ replicate n a → x ≡ a) → x ≡ a
    go (inl e) ih = e
    go (inr k) ih = ih k

none-fits : FitsRows no_rows
unfolding no_rows
none-fits =
    record { long = length-replicate max_peers (zeros max_nodes); each = λ r m. subst FitsRow (sym (in-replicate max_peers (zeros max_nodes) r m)) zeros-fit }

none-obey : (n : ℕ) → rows_obey n (zeros max_peers) no_rows ≡ true
unfolding rows_obey zeros no_rows all_zero
none-obey n = refl

no-flags : all (λ f. leb f 1) (zeros max_peers) ≡ true
unfolding all zeros
no-flags = refl

pub new-columns : (ns : List ℕ) → length ns ≤ max_nodes → columns (new_grid ns) ≡ ns
unfolding new_grid
new-columns ns h = ap (take (length ns)) (fit-pad max_nodes ns h) ∙ take_at ns (zeros (max_nodes - length ns)) (length ns) refl

fit-behind : (ns : List ℕ) → length ns ≤ max_nodes → all_zero (drop (length ns) (fit max_nodes ns)) ≡ true
fit-behind ns h =
    ap (λ (l : List ℕ). all_zero (drop (length ns) l)) (fit-pad max_nodes ns h)
    ∙ ap all_zero (drop_at ns (zeros (max_nodes - length ns)) (length ns) refl)
    ∙ all-zero (max_nodes - length ns)

pub new-sound : (ns : List ℕ) → length ns ≤ max_nodes → rising ns ≡ true → ((n : ℕ) → n ∈ ns → n < numbers) → Sound (new_grid ns)
unfolding new_grid
new-sound ns h r f = record { obeyed = facts-grid (new_grid ns) ok; fits = fit }
  where
    ok : OkGrid (new_grid ns)
    ok =
        record {
          few = h;
          rise = ap rising (new-columns ns h) ∙ r;
          behind = fit-behind ns h;
          flags = no-flags;
          gcs_obey = none-obey (length ns);
          maxes_obey = none-obey (length ns);
        }

    fit : FitsGrid (new_grid ns)
    fit = record { few = h; named = fit-fits ns f; flags = length-zeros max_peers; gcs_fit = none-fits; maxes_fit = none-fits }

-- ---- the columns of a table whose nodes come and go

inserted : (i : ℕ) (t : Table) → among i (numbers_of t) ≡ false → numbers_of (add_node i t) ≡ insert_at (place_for i (numbers_of t)) i (numbers_of t)
unfolding numbers_of add_node among place_for insert_at
inserted i [] e = refl
inserted i (a ∷ t) e = go (eqb i a.number) refl e (ltb i a.number) refl (inserted i t)
  where
    go : (s : Bool) → eqb i a.number ≡ s → pick s true (among i (numbers_of t)) ≡ false → (b : Bool) → ltb i a.number ≡ b
        → (among i (numbers_of t) ≡ false → numbers_of (add_node i t) ≡ insert_at (place_for i (numbers_of t)) i (numbers_of t))
        → numbers_of (pick s (a ∷ t) (pick b (record { number = i; node = fresh } ∷ a ∷ t) (a ∷ add_node i t)))
        ≡ insert_at (pick (ltb a.number i) (suc (place_for i (numbers_of t))) 0) i (a.number ∷ numbers_of t)
    go true q e b p ih = absurd (true≢false e)
    go false q e true p ih =
        ap (λ (c : Bool). insert_at (pick c (suc (place_for i (numbers_of t))) 0) i (a.number ∷ numbers_of t)) (sym (le-ltb a.number i (omega (arith, ltb-true i a.number p))))
    go false q e false p ih =
        ap (λ (l : List ℕ). a.number ∷ l) (ih e)
        ∙ ap (λ (c : Bool). insert_at (pick c (suc (place_for i (numbers_of t))) 0) i (a.number ∷ numbers_of t))
        (sym (lt-ltb a.number i (below a.number (ltb-false i a.number p) (eqb-false i a.number q))))
      where
        below : (n : ℕ) → n ≤ i → (i ≡ n → ⊥) → n < i
        below n h g = omega (arith, h, g)

removed : (i : ℕ) (t : Table) → numbers_of (drop_node i t) ≡ remove_at (place_of i (numbers_of t)) (numbers_of t)
unfolding numbers_of drop_node place_of remove_at
removed i [] = refl
removed i (a ∷ t) = go (eqb i a.number) (removed i t)
  where
    go : (s : Bool) → numbers_of (drop_node i t) ≡ remove_at (place_of i (numbers_of t)) (numbers_of t)
        → numbers_of (pick s t (a ∷ drop_node i t)) ≡ remove_at (pick s 0 (suc (place_of i (numbers_of t)))) (a.number ∷ numbers_of t)
    go true ih = refl
    go false ih = ap (λ (l : List ℕ). a.number ∷ l) ih

-- ---- columns that come and go

module _ (g : Grid) (s : Sound g) where
  ok : OkGrid g
  ok = grid-facts g s.obeyed

  many : length (columns g) ≡ g.count
  many = length-take-le g.count g.numbers (omega (arith, ok.few, s.fits.named.long))

  module _ (i j : ℕ) (fits : i < numbers) (h : j ≤ g.count) (room : g.count < max_nodes) where
    come-columns : columns (column_in j i g) ≡ insert_at j i (columns g)
    unfolding column_in
    come-columns = come-first g.count j i g.numbers s.fits.named.long h room

    come-rows : (rs : List (List ℕ)) → FitsRows rs → rows_obey g.count g.present rs ≡ true → rows_obey (g.count + 1) g.present (map (place_in j 0) rs) ≡ true
    come-rows rs f e =
        rows-map (g.count + 1) g.count (place_in j 0) g.present rs (λ r m z. come-behind g.count j 0 r (f.each r m).long h room z) (come-zero j) e

    come-sound : rising (columns (column_in j i g)) ≡ true → Sound (column_in j i g)
    unfolding column_in
    come-sound r = record { obeyed = facts-grid (column_in j i g) obeyed; fits = fit }
      where
        obeyed : OkGrid (column_in j i g)
        obeyed =
            record {
              few = omega (arith, room);
              rise = r;
              behind = come-behind g.count j i g.numbers s.fits.named.long h room ok.behind;
              flags = ok.flags;
              gcs_obey = come-rows g.gcs s.fits.gcs_fit ok.gcs_obey;
              maxes_obey = come-rows g.maxes s.fits.maxes_fit ok.maxes_obey;
            }

        fit : FitsGrid (column_in j i g)
        fit =
            record {
              few = omega (arith, room);
              named = come-fits j i g.numbers (omega (arith, h, room)) fits s.fits.named;
              flags = s.fits.flags;
              gcs_fit = map-fits (place_in j 0) g.gcs (λ r f. come-fits j 0 r (omega (arith, h, room)) (omega arith) f) s.fits.gcs_fit;
              maxes_fit = map-fits (place_in j 0) g.maxes (λ r f. come-fits j 0 r (omega (arith, h, room)) (omega arith) f) s.fits.maxes_fit;
            }

  module _ (j : ℕ) (h : j < g.count) where
    gone-columns : columns (column_out j g) ≡ remove_at j (columns g)
    unfolding column_out
    gone-columns = gone-first g.count j g.numbers s.fits.named.long h ok.few

    gone-rows : (rs : List (List ℕ)) → FitsRows rs → rows_obey g.count g.present rs ≡ true → rows_obey (g.count - 1) g.present (map (place_out j) rs) ≡ true
    gone-rows rs f e =
        rows-map (g.count - 1) g.count (place_out j) g.present rs (λ r m z. gone-behind g.count j r (f.each r m).long h ok.few z) (gone-zero j) e

    gone-sound : rising (columns (column_out j g)) ≡ true → Sound (column_out j g)
    unfolding column_out
    gone-sound r = record { obeyed = facts-grid (column_out j g) obeyed; fits = fit }
      where
        obeyed : OkGrid (column_out j g)
        obeyed =
            record {
              few = omega (arith, ok.few);
              rise = r;
              behind = gone-behind g.count j g.numbers s.fits.named.long h ok.few ok.behind;
              flags = ok.flags;
              gcs_obey = gone-rows g.gcs s.fits.gcs_fit ok.gcs_obey;
              maxes_obey = gone-rows g.maxes s.fits.maxes_fit ok.maxes_obey;
            }

        fit : FitsGrid (column_out j g)
        fit =
            record {
              few = omega (arith, ok.few);
              named = gone-fits j g.numbers (omega (arith, h, ok.few)) s.fits.named;
              flags = s.fits.flags;
              gcs_fit = map-fits (place_out j) g.gcs (λ r f. gone-fits j r (omega (arith, h, ok.few)) f) s.fits.gcs_fit;
              maxes_fit = map-fits (place_out j) g.maxes (λ r f. gone-fits j r (omega (arith, h, ok.few)) f) s.fits.maxes_fit;
            }

  -- with the node of the table whose columns these are
  module _ (t : Table) (same : columns g ≡ numbers_of t) (i : ℕ) where
    as_many : g.count ≡ length (numbers_of t)
    as_many = sym many ∙ ap length same

    pub add-held : among i (numbers_of t) ≡ true → add_column i g ≡ g
    unfolding add_column
    add-held e = pick_true (among i (columns g)) g (column_in (place_for i (columns g)) i g) (ap (among i) same ∙ e)

    module _ (e : among i (numbers_of t) ≡ false) (fits : i < numbers) (room : length (numbers_of t) < max_nodes) (rise : rising (numbers_of (add_node i t)) ≡ true) where
      abbrev at : ℕ
      at = place_for i (columns g)

      is-in : add_column i g ≡ column_in at i g
      unfolding add_column
      is-in = pick-false (among i (columns g)) g (column_in at i g) (ap (among i) same ∙ e)

      low : at ≤ g.count
      low = omega (arith, place-fits i (columns g), many)

      free : g.count < max_nodes
      free = omega (arith, as_many, room)

      are : columns (column_in at i g) ≡ numbers_of (add_node i t)
      are = come-columns i at fits low free ∙ ap (λ (l : List ℕ). insert_at (place_for i l) i l) same ∙ sym (inserted i t e)

      pub add-columns : columns (add_column i g) ≡ numbers_of (add_node i t)
      add-columns = ap (λ (x : Grid). columns x) is-in ∙ are

      pub add-sound : Sound (add_column i g)
      add-sound = subst Sound (sym is-in) (come-sound i at fits low free (ap rising are ∙ rise))

    module _ (e : among i (numbers_of t) ≡ true) (rise : rising (numbers_of (drop_node i t)) ≡ true) where
      abbrev from : ℕ
      from = place_of i (columns g)

      held : among i (columns g) ≡ true
      held = ap (among i) same ∙ e

      is-out : drop_column i g ≡ column_out from g
      unfolding drop_column
      is-out = pick_true (among i (columns g)) (column_out from g) g held

      under : from < g.count
      under = omega (arith, place_found i (columns g) held, many)

      are-left : columns (column_out from g) ≡ numbers_of (drop_node i t)
      are-left = gone-columns from under ∙ ap (λ (l : List ℕ). remove_at (place_of i l) l) same ∙ sym (removed i t)

      pub drop-columns : columns (drop_column i g) ≡ numbers_of (drop_node i t)
      drop-columns = ap (λ (x : Grid). columns x) is-out ∙ are-left

      pub drop-sound : Sound (drop_column i g)
      drop-sound = subst Sound (sym is-out) (gone-sound from under (ap rising are-left ∙ rise))

  -- ---- rows that are told or taken out

  module _ (p f : ℕ) (gc max : List ℕ) (flag : f ≤ 1) (zg : all_zero (drop (pick (eqb f 1) g.count 0) gc) ≡ true) (zm : all_zero (drop (pick (eqb f 1) g.count 0) max) ≡ true) (fg : FitsRow gc) (fm : FitsRow max) where
    abbrev with : Grid
    with = record { count = g.count; numbers = g.numbers; present = set g.present p f; gcs = set g.gcs p gc; maxes = set g.maxes p max }

    set-sound : Sound with
    set-sound =
        record {
          obeyed = facts-grid with
              (record {
                few = ok.few;
                rise = ok.rise;
                behind = ok.behind;
                flags = all_in (λ x. leb x 1) (set g.present p f) (in-set (λ x. leb x 1 ≡ true) g.present p f (le-leb f 1 flag) (all_from (λ x. leb x 1) g.present ok.flags));
                gcs_obey = rows-set g.count p f gc g.present g.gcs zg ok.gcs_obey;
                maxes_obey = rows-set g.count p f max g.present g.maxes zm ok.maxes_obey;
              });
          fits =
              record {
                few = ok.few;
                named = s.fits.named;
                flags = length-set g.present p f ∙ s.fits.flags;
                gcs_fit = set-fits g.gcs p gc fg s.fits.gcs_fit;
                maxes_fit = set-fits g.maxes p max fm s.fits.maxes_fit;
              };
        }

  told-behind : (f : NodeDigest → ℕ) (ds : List NodeDigest) → all_zero (drop g.count (row_told f ds (columns g))) ≡ true
  unfolding row_told
  told-behind f ds =
      let row : List ℕ = map (λ i. f (told_of i ds)) (columns g) in
      let e : length row ≡ g.count = length-map (columns g) (λ i. f (told_of i ds)) ∙ many in
      ap (λ (n : ℕ). all_zero (drop n (fit max_nodes row))) (sym e) ∙ fit-behind row (omega (arith, e, ok.few))

  told-fits : (f : NodeDigest → ℕ) (ds : List NodeDigest) → ((i : ℕ) → f (told_of i ds) < numbers) → FitsRow (row_told f ds (columns g))
  unfolding row_told
  told-fits f ds h = fit-fits (map (λ i. f (told_of i ds)) (columns g)) (in_map (λ n. n < numbers) (λ i. f (told_of i ds)) (columns g) (λ i m. h i))

  pub tell-sound : (p : ℕ) (ds : List NodeDigest) → ((i : ℕ) → (told_of i ds).last_gc < numbers) → ((i : ℕ) → (told_of i ds).max < numbers) → Sound (tell_row p ds g)
  unfolding tell_row
  tell-sound p ds hg hm =
      set-sound p 1 (row_told (λ d. d.last_gc) ds (columns g)) (row_told (λ d. d.max) ds (columns g)) (omega arith) (told-behind (λ d. d.last_gc) ds) (told-behind (λ d. d.max) ds)
      (told-fits (λ d. d.last_gc) ds hg) (told-fits (λ d. d.max) ds hm)

  pub out-sound : (p : ℕ) → Sound (take_out p g)
  unfolding take_out
  out-sound p = set-sound p 0 (zeros max_nodes) (zeros max_nodes) (omega arith) (all-zero max_nodes) (all-zero max_nodes) zeros-fit zeros-fit
