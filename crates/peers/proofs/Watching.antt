-- A grid and its table: what the check says of them, and what each call then gives. Assumes nothing.
use Prim.Native.Nat.{ℕ, zero, suc, ◌+◌, ◌≤◌, ◌<◌, min}
use mathlib.Core.Path.{◌≡◌, ◌∙◌, ap, ap₂, refl, sym, subst}
use mathlib.Core.Bool.{Bool, true, false, ◌&&◌, false≢true, true≢false}
use mathlib.Core.List.{List, [], ◌∷◌}
use native.Mathlib.Omega.{arith}
use lib.Dec.{eqb, leb, ltb}
use lib.ListN.{length, take, drop, get_or}
use lib.Seq.{get_or-drop, get_or-take}
use borrow.Author.Tests.{eq-eqb, le-leb, le-ltb, leb-true, lt-ltb, ltb-true, ne_eqb}
use Rattle.fields.specs.Choice.{all, pick}
use Rattle.fields.proofs.Choice.{and_left, and_no, and_right, and_yes, in-at, pick-false, pick_true, same_test}
use Rattle.fields.proofs.Ordered.{same_true}
use Rattle.fields.specs.Numbers.{Bytes, nat_of}
use Rattle.fields.specs.Parts.{part}
use Rattle.fields.specs.Widths.{offset}
use Rattle.rules.specs.Given.{Given, Gives, given}
use Rattle.rules.specs.Node.{due}
use Rattle.rules.specs.Digest.{DigestRead, Entries, NodeDigest, Refused}
use Rattle.rules.specs.Sizes.{max_nodes, numbers, top}
use Rattle.rules.specs.Table.{Entry, Table, among, numbers_of, rising}
use Rattle.rules.specs.Whole.{Whole, decode_whole, encode_whole, valid_whole}
use Rattle.std.specs.Prelude.{Err, None, Ok, Result, Some}
use Rattle.rules.specs.Results.{done}
use Rattle.rules.specs.declared.Refusal.{Refusal}
use Rattle.rules.specs.declared.Refusal.TheVariants.{BadPeer, BadTable, NoNode, NobodyPresent}
use Rattle.table.specs.Changes.{fresh_entry}
use Rattle.table.specs.Fits.{FitsTable}
use Rattle.grid_check.proofs.Checked.{number_of, numbers-long}
use Rattle.removal.specs.Removals.{remove_within}
use Rattle.removal.proofs.Within.{within-as}
use Rattle.grid.specs.Grid.{Grid, column_at, columns, least_of, max_peers, maxes_at, maxes_told, of_present, place_of, somebody, tell_row}
use Rattle.grid.specs.GridLayout.{decode_grid, encode_grid, grid_widths, row_in, row_width, rows_in, rows_width, valid_grid}
use Rattle.grid.proofs.Places.{place-missing, place-there}
use Rattle.grid_change.proofs.Storing.{columns-are, many}
use Rattle.grid.specs.Careful.{careful_due, seen_by}
use Rattle.grid.specs.LentGrid.{GridAndTable, both, carefully_removed, fits_table, grid_on, least_in, pair_seen, seen_in, tell_on, valid_both}

-- ---- one of two, by a test

module _ {A M : Type 0} (x y : Given A M) where
  pub yes : (b : Bool) → b ≡ true → (a : A) (m : M) → Gives x a m → Gives (pick b x y) a m
  yes true e a m g = g
  yes false e a m g = absurd (false≢true e)

  pub no : (b : Bool) → b ≡ false → (a : A) (m : M) → Gives y a m → Gives (pick b x y) a m
  no false e a m g = g
  no true e a m g = absurd (true≢false e)

-- ---- the check of both

module _ (g t : Bytes) where
  pub both-grid : valid_both g t ≡ true → valid_grid g ≡ true
  unfolding valid_both
  both-grid e = and_left (valid_grid g) _ e

  pub both-table : valid_both g t ≡ true → valid_whole t ≡ true
  unfolding valid_both
  both-table e = and_left (valid_whole t) _ (and_right (valid_grid g) (valid_whole t && fits_table (decode_grid g) (decode_whole t).table) e)

  pub both-fit : valid_both g t ≡ true → fits_table (decode_grid g) (decode_whole t).table ≡ true
  unfolding valid_both
  both-fit e = and_right (valid_whole t) (fits_table (decode_grid g) (decode_whole t).table) (and_right (valid_grid g) (valid_whole t && fits_table (decode_grid g) (decode_whole t).table) e)

  pub no-grid : valid_grid g ≡ false → false ≡ valid_both g t
  unfolding valid_both
  no-grid e = sym (and_no (valid_grid g) (valid_whole t && fits_table (decode_grid g) (decode_whole t).table) e)

  pub no_table : valid_grid g ≡ true → valid_whole t ≡ false → false ≡ valid_both g t
  unfolding valid_both
  no_table v e =
      sym (and_yes (valid_grid g) (valid_whole t && fits_table (decode_grid g) (decode_whole t).table) v ∙ and_no (valid_whole t) (fits_table (decode_grid g) (decode_whole t).table) e)

  pub fit-decides : valid_grid g ≡ true → valid_whole t ≡ true → fits_table (decode_grid g) (decode_whole t).table ≡ valid_both g t
  unfolding valid_both
  fit-decides v w =
      sym (and_yes (valid_grid g) (valid_whole t && fits_table (decode_grid g) (decode_whole t).table) v ∙ and_yes (valid_whole t) (fits_table (decode_grid g) (decode_whole t).table) w)

-- ---- a node that comes or goes, and its column with it

module _ (g t : Bytes) (v : valid_both g t ≡ true) (o : Given (Result (Unit {0}) Refusal) Whole) (after : Bytes) (a : (Result (Unit {0}) Refusal)) (s : Bytes) (ea : a ≡ o.answer) (es : s ≡ encode_whole o.lent) where
  abbrev of : Given (Result (Unit {0}) Refusal) GridAndTable
  of = pick (valid_both g t) (given o.answer (both (grid_on o.answer after g) (encode_whole o.lent))) (given (Err BadTable) (both g t))

  follows : (h : Bytes) → h ≡ grid_on a after g → Gives of a (both h s)
  follows h e = yes _ _ (valid_both g t) v a (both h s) (ea, λ z. both ((e ∙ ap (λ (x : (Result (Unit {0}) Refusal)). grid_on x after g) ea) z) (es z))

  pub with-column : a ≡ done → (h : Bytes) → h ≡ after → Gives of done (both h s)
  with-column d h e =
      subst (λ (x : (Result (Unit {0}) Refusal)). Gives of x (both h s)) d
      (follows h (e ∙ ap (λ (x : (Result (Unit {0}) Refusal)). grid_on x after g) (sym d)))

  pub without-column : (why : Refusal) → a ≡ Err why → Gives of (Err why) (both g s)
  without-column why d =
      subst (λ (x : (Result (Unit {0}) Refusal)). Gives of x (both g s)) d
      (follows g (ap (λ (x : (Result (Unit {0}) Refusal)). grid_on x after g) (sym d)))

-- ---- the bound of a careful removal

-- a version within the least of some numbers is within each
leb-least : (v : ℕ) (ms : List ℕ) → v ≤ top → leb v (least_of ms) ≡ all (λ m. leb v m) ms
unfolding least_of all
leb-least v [] h = le-leb v top h
leb-least v (m ∷ ms) h =
    same_test (leb v (min m (least_of ms))) (leb v m && all (λ m. leb v m) ms)
    (λ e. let a = leb-true v (min m (least_of ms)) e in and_both (le-leb v m (omega arith)) (sym (leb-least v ms h) ∙ le-leb v (least_of ms) (omega arith)))
    (λ e. let a = leb-true v m (and_left (leb v m) _ e) in
    let b = leb-true v (least_of ms) (leb-least v ms h ∙ and_right (leb v m) _ e) in
    le-leb v (min m (least_of ms)) (omega arith))
  where
    and_both : {x y : Bool} → x ≡ true → y ≡ true → x && y ≡ true
    and_both {x} {y} p q = ap₂ (λ (s t : Bool). s && t) p q

-- the first of rising numbers is below the others
rise-below : (a : ℕ) (l : List ℕ) → rising (a ∷ l) ≡ true → (k : ℕ) → k < length l → a < get_or l k 0
unfolding rising
rise-below a [] e k h = absurd (omega arith)
rise-below a (b ∷ l) e zero h = ltb-true a b (and_left (ltb a b) (rising (b ∷ l)) e)
rise-below a (b ∷ l) e (suc k) h =
    let x = ltb-true a b (and_left (ltb a b) (rising (b ∷ l)) e) in
    let y = rise-below b l (and_right (ltb a b) (rising (b ∷ l)) e) k (omega arith) in
    omega arith

rise-tail : (a : ℕ) (l : List ℕ) → rising (a ∷ l) ≡ true → rising l ≡ true
unfolding rising
rise-tail a [] e = refl
rise-tail a (b ∷ l) e = and_right (ltb a b) (rising (b ∷ l)) e

-- so each stands at its own place
place-own : (ns : List ℕ) → rising ns ≡ true → (i : ℕ) → i < length ns → place_of (get_or ns i 0) ns ≡ i
unfolding place_of
place-own [] e i h = absurd (omega arith)
place-own (a ∷ l) e zero h = ap (λ (b : Bool). pick b 0 (suc (place_of a l))) (eq-eqb a a refl)
place-own (a ∷ l) e (suc i) h =
    let below = rise-below a l e i (omega arith) in
    ap (λ (b : Bool). pick b 0 (suc (place_of (get_or l i 0) l))) (ne_eqb (get_or l i 0) a (λ q. omega (arith, q)))
    ∙ ap suc (place-own l (rise-tail a l e) i (omega arith))

-- the least max of each column bounds the removal of its node as the peers present do
pub careful-within : (g : Grid) (now grace : ℕ) (bs : List ℕ) (t : Table) → FitsTable t → rising (numbers_of t) ≡ true → fits_table g t ≡ true
    → length bs ≡ max_nodes → ((j : ℕ) → j < max_nodes → get_or bs j 0 ≡ least_of (maxes_at j g))
    → remove_within now grace bs t ≡ carefully_removed g now grace t
careful-within g now grace bs t o rise fit long least =
    within-as (careful_due g now grace) now grace bs t (omega (arith, o.few))
    (λ i h r m.
    let e : Entry = get_or t i (fresh_entry 0) in
    let same : columns g ≡ numbers_of t = same_true (columns g) (numbers_of t) fit in
    let version : r.kv.version < numbers = ((o.each e (in-at t i (fresh_entry 0) h)).each r m).version_high in
    let place : place_of e.number (columns g) ≡ i =
    ap₂ place_of (sym (number_of t i (fresh_entry 0) h)) same ∙ place-own (numbers_of t) rise i (omega (arith, numbers-long t)) in
    ap (λ (u : Bool). due now grace r && u)
    (ap (leb r.kv.version) (least i (omega (arith, o.few)))
    ∙ leb-least r.kv.version (maxes_at i g) (omega arith)
    ∙ ap (λ (j : ℕ). seen_by (maxes_at j g) r) (sym place)))

-- ---- a grid that is made

pub no_room : (a b : Bool) → a ≡ false → a && b ≡ false
no_room a b e = and_no a b e

pub nothing-behind : (a b : Bool) → b ≡ false → a && b ≡ false
nothing-behind true b e = e
nothing-behind false b e = refl

-- ---- a told digest

module _ (p : ℕ) (read : DigestRead) (g : Bytes) where
  pub told_entries : (ds : List NodeDigest) (rest : Bytes) → read ≡ Entries ds rest → (s : Bytes) → s ≡ encode_grid (tell_row p ds (decode_grid g)) → Gives (tell_on p read g) done s
  told_entries ds rest e s q = subst (λ (r : DigestRead). Gives (tell_on p r g) done s) (sym e) (refl, q)

  pub told-refused : (why : Refusal) → read ≡ Refused why → Gives (tell_on p read g) (Err why) g
  told-refused why e = subst (λ (r : DigestRead). Gives (tell_on p r g) (Err why) g) (sym e) (refl, refl)

-- the flag of a peer
flag_at : (l : Bytes) (p : ℕ) → p < max_peers → get_or (part (offset grid_widths 2) max_peers l) p 0 ≡ get_or l (offset grid_widths 2 + p) 0
unfolding part
flag_at l p h = get_or-take max_peers (drop (offset grid_widths 2) l) p 0 h ∙ get_or-drop (offset grid_widths 2) l p 0

-- ---- a column that was looked for

module _ (l : Bytes) (v : valid_grid l ≡ true) (n : ℕ) (row : List ℕ) (nr : n ≡ nat_of (part (offset grid_widths 0) 1 l)) (rr : row ≡ row_in (part (offset grid_widths 1) row_width l)) (i j : ℕ) (e : j ≡ place_of i (take n row)) where
  there : j < n → among i (columns (decode_grid l)) ≡ true
  there h = ap (among i) (sym (columns-are l v n row nr rr)) ∙ place-there i (take n row) (omega (arith, many l v n row nr rr))

  missing : n ≤ j → among i (columns (decode_grid l)) ≡ false
  missing h = ap (among i) (sym (columns-are l v n row nr rr)) ∙ place-missing i (take n row) (omega (arith, many l v n row nr rr))

  place_is : j ≡ place_of i (columns (decode_grid l))
  place_is = e ∙ ap (place_of i) (columns-are l v n row nr rr)

  abbrev g : Grid
  g = decode_grid l

  -- the least max
  pub least-found : somebody g ≡ true → j < n → (m : ℕ) → m ≡ least_of (of_present (part (offset grid_widths 2) max_peers l) (column_at j (rows_in (part (offset grid_widths 4) rows_width l)))) → Ok m ≡ least_in i g
  unfolding decode_grid
  least-found s h m q =
      ap Ok (q ∙ ap (λ (k : ℕ). least_of (of_present (part (offset grid_widths 2) max_peers l) (column_at k (rows_in (part (offset grid_widths 4) rows_width l))))) place_is)
      ∙ sym (pick_true (somebody g) (pick (among i (columns g)) (Ok (least_of (maxes_told i g))) (Err NoNode)) (Err NobodyPresent) s
      ∙ pick_true (among i (columns g)) (Ok (least_of (maxes_told i g))) (Err NoNode) (there h))

  pub least-missing : somebody g ≡ true → n ≤ j → Err NoNode ≡ least_in i g
  least-missing s h =
      sym (pick_true (somebody g) (pick (among i (columns g)) (Ok (least_of (maxes_told i g))) (Err NoNode)) (Err NobodyPresent) s
      ∙ pick-false (among i (columns g)) (Ok (least_of (maxes_told i g))) (Err NoNode) (missing h))

  -- the pair that a peer told
  module _ (p : ℕ) (known : p < max_peers) where
    past : n ≤ j → Err NoNode ≡ seen_in p i g
    past h =
        sym (pick_true (ltb p max_peers) (pick (among i (columns g)) (pair_seen p (place_of i (columns g)) g) (Err NoNode)) (Err BadPeer) (lt-ltb p max_peers known)
        ∙ pick-false (among i (columns g)) (pair_seen p (place_of i (columns g)) g) (Err NoNode) (missing h))

    pub no-column : n ≤ j → Err NoNode ≡ seen_in p i g
    no-column = past

    column : j < n → pair_seen p j g ≡ seen_in p i g
    column h =
        ap (λ (k : ℕ). pair_seen p k g) place_is
        ∙ sym (pick_true (ltb p max_peers) (pick (among i (columns g)) (pair_seen p (place_of i (columns g)) g) (Err NoNode)) (Err BadPeer) (lt-ltb p max_peers known)
        ∙ pick_true (among i (columns g)) (pair_seen p (place_of i (columns g)) g) (Err NoNode) (there h))

    pub pair-there : j < n → get_or l (offset grid_widths 2 + p) 0 ≡ 1 → (Ok (Some (record { last_gc = (get_or (get_or (rows_in (part (offset grid_widths 3) rows_width l)) p []) j 0); max = (get_or (get_or (rows_in (part (offset grid_widths 4) rows_width l)) p []) j 0) }))) ≡ seen_in p i g
    unfolding decode_grid
    pair-there h f =
        sym (pick_true (eqb (get_or (part (offset grid_widths 2) max_peers l) p 0) 1) _ (Ok None) (eq-eqb (get_or (part (offset grid_widths 2) max_peers l) p 0) 1 (flag_at l p known ∙ f)))
        ∙ column h

    pub pair-absent : j < n → (get_or l (offset grid_widths 2 + p) 0 ≡ 1 → ⊥) → (Ok None) ≡ seen_in p i g
    unfolding decode_grid
    pair-absent h f =
        sym (pick-false (eqb (get_or (part (offset grid_widths 2) max_peers l) p 0) 1)
        (Ok (Some (record { last_gc = (get_or (get_or (rows_in (part (offset grid_widths 3) rows_width l)) p []) j 0); max = (get_or (get_or (rows_in (part (offset grid_widths 4) rows_width l)) p []) j 0) }))) (Ok None)
        (ne_eqb (get_or (part (offset grid_widths 2) max_peers l) p 0) 1 (λ q. f (sym (flag_at l p known) ∙ q))))
        ∙ column h

pub least-nobody : (l : Bytes) (i : ℕ) → somebody (decode_grid l) ≡ false → Err NobodyPresent ≡ least_in i (decode_grid l)
least-nobody l i e =
    sym (pick-false (somebody (decode_grid l)) (pick (among i (columns (decode_grid l))) (Ok (least_of (maxes_told i (decode_grid l)))) (Err NoNode)) (Err NobodyPresent) e)

pub no-peer : (l : Bytes) (p i : ℕ) → max_peers ≤ p → Err BadPeer ≡ seen_in p i (decode_grid l)
no-peer l p i h = sym (pick-false (ltb p max_peers) _ (Err BadPeer) (le-ltb p max_peers h))

-- somebody is present, as the flags say
pub present-is : (l : Bytes) (b : Bool) → b ≡ among 1 (part (offset grid_widths 2) max_peers l) → b ≡ somebody (decode_grid l)
unfolding decode_grid
present-is l b e = e

-- the bound of a column, as it is read
pub bound-is : (l : Bytes) (j : ℕ) (fs : List ℕ) (rows : List (List ℕ)) → fs ≡ part (offset grid_widths 2) max_peers l → rows ≡ rows_in (part (offset grid_widths 4) rows_width l)
    → least_of (of_present fs (column_at j rows)) ≡ least_of (maxes_at j (decode_grid l))
unfolding decode_grid
bound-is l j fs rows p q = λ z. least_of (of_present (p z) (column_at j (q z)))
