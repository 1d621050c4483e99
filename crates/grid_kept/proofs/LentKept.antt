-- The calls on a lent grid leave its bytes valid where they were, and grid and table together where they belonged together. Assumes nothing.
use Prim.Native.Nat.{ℕ, suc, ◌<◌}
use mathlib.Core.Bool.{Bool, true, false, ◌&&◌}
use mathlib.Core.List.{List, [], ◌∷◌}
use mathlib.Core.Path.{◌≡◌, ◌∙◌, ap, ap₂, refl, subst, sym}
use native.Mathlib.Omega.{arith}
use lib.Dec.{eqb, ltb}
use lib.ListN.{length}
use borrow.Author.Tests.{eq-eqb, ltb-true}
use Rattle.fields.specs.Choice.{◌∈◌, pick}
use Rattle.fields.specs.Numbers.{AreBytes, Bytes}
use Rattle.fields.specs.Order.{same_bytes}
use Rattle.fields.proofs.Choice.{all_from, and_intro, and_left, and_right}
use Rattle.fields.proofs.Ordered.{same_self, same_true}
use Rattle.rules.specs.Digest.{DigestRead, Entries, Refused, read_digest}
use Rattle.rules.specs.Given.{given}
use Rattle.rules.specs.Lent.{add_whole, remove_whole}
use Rattle.rules.specs.Local.{Outcome, add, gives, remove_node}
use Rattle.rules.specs.Sizes.{max_nodes, numbers}
use Rattle.rules.specs.Table.{Entry, Table, add_node, among, drop_node, entry_obeys, node_obeys, numbers_of, obeys, rising}
use Rattle.rules.specs.Whole.{Whole, decode_whole, encode_whole, obeys_whole, valid_whole, with_table}
use Rattle.std.specs.Prelude.{Err, Result}
use Rattle.rules.specs.declared.Refusal.{Refusal}
use Rattle.rules.specs.Results.{done}
use Rattle.rules.specs.declared.Refusal.TheVariants.{BadPeer, BadTable, NinthNode, NoNode, NobodyPresent}
use Rattle.rules.proofs.Calls.{number-from, remove-keeps}
use Rattle.rules.proofs.Formed.{removed-formed}
use Rattle.rules.proofs.Memories.{add-keeps-whole, remove-keeps-whole, same_nodes, whole-profile, whole-table}
use Rattle.rules.proofs.Refusing.{whole-bytes}
use Rattle.rules.proofs.Tables.{numbers-remove}
use Rattle.table.proofs.Tables.{table-obeys}
use Rattle.table.proofs.Wholes.{decode-encode-whole, valid-encode-whole, whole-obeys}
use Rattle.grid.specs.Careful.{careful_due}
use Rattle.grid.specs.Grid.{Grid, add_column, columns, drop_column, max_peers, new_grid, somebody, take_out, tell_row}
use Rattle.grid.specs.GridLayout.{decode_grid, encode_grid, grid_width, valid_grid}
use Rattle.grid.specs.LentGrid.{both, carefully_removed, fits_table, grid_on, lent_careful, lent_column_in, lent_column_out, lent_new_grid, lent_take_out, lent_tell, tell_on, valid_both}
use Rattle.grid.proofs.GridBytes.{good-grid}
use Rattle.grid_kept.proofs.Encoded.{decode-encode}
use Rattle.grid_kept.proofs.Keeps.{add-columns, add-held, add-sound, drop-columns, drop-sound, new-columns, new-sound, out-sound, tell-sound}
use Rattle.grid_kept.proofs.Sound.{Sound, sound-valid, valid-sound}
use Rattle.grid_kept.proofs.ToldFits.{digest-small}

-- ---- tables

numbers-long : (t : Table) → length (numbers_of t) ≡ length t
unfolding numbers_of
numbers-long [] = refl
numbers-long (e ∷ t) = ap suc (numbers-long t)

number_fits : (t : Table) → obeys t ≡ true → (n : ℕ) → n ∈ numbers_of t → n < numbers
unfolding entry_obeys
number_fits t o n m =
    let x = number-from t m in
    let e : Entry = x.0 in
    let f : entry_obeys e ≡ true = all_from entry_obeys t (table-obeys t o).each e x.1 in
    subst (λ (k : ℕ). k < numbers) (sym x.2) (ltb-true e.number numbers (and_left (ltb e.number numbers) (node_obeys e.node) f))

-- the grid of a table's nodes
pub table-sound : (t : Table) → obeys t ≡ true → Sound (new_grid (numbers_of t))
table-sound t o = new-sound (numbers_of t) (omega (arith, numbers-long t, (table-obeys t o).few)) (table-obeys t o).rise (number_fits t o)

pub table-columns : (t : Table) → obeys t ≡ true → columns (new_grid (numbers_of t)) ≡ numbers_of t
table-columns t o = new-columns (numbers_of t) (omega (arith, numbers-long t, (table-obeys t o).few))

-- ---- a grid and a table that belong together

pub together : (g : Grid) → Sound g → (w : Whole) → obeys_whole w ≡ true → columns g ≡ numbers_of w.table → valid_both (encode_grid g) (encode_whole w) ≡ true
unfolding valid_both
together g s w o e =
    and_intro (valid_grid (encode_grid g)) (valid_whole (encode_whole w) && fits_table (decode_grid (encode_grid g)) (decode_whole (encode_whole w)).table) (sound-valid g s)
    (and_intro (valid_whole (encode_whole w)) (fits_table (decode_grid (encode_grid g)) (decode_whole (encode_whole w)).table) (valid-encode-whole w o)
    (ap₂ (λ (x : Grid) (u : Whole). fits_table x u.table) (decode-encode g s.fits) (decode-encode-whole w o)
    ∙ ap (λ (l : List ℕ). same_bytes l (numbers_of w.table)) e
    ∙ same_self (numbers_of w.table)))

-- a table and the grid that is made for it
new-together : (w : Whole) → obeys_whole w ≡ true → valid_both (encode_grid (new_grid (numbers_of w.table))) (encode_whole w) ≡ true
new-together w o =
    let t = whole-table w o in
    together (new_grid (numbers_of w.table)) (table-sound w.table t) w o (table-columns w.table t)

pub made-together : (t g : Bytes) → valid_whole t ≡ true → length g ≡ grid_width → valid_both (lent_new_grid t g).lent t ≡ true
unfolding lent_new_grid
made-together t g v e =
    let x : Bytes = encode_grid (new_grid (numbers_of (decode_whole t).table)) in
    ap (λ (b : Bool). valid_both (pick b (given done x) (given (Err BadTable) g)).lent t) (and_intro (eqb (length g) grid_width) (valid_whole t) (eq-eqb (length g) grid_width e) v)
    ∙ ap (valid_both x) (sym (whole-bytes t v))
    ∙ new-together (decode_whole t) (whole-obeys t v)

module _ (g t : Bytes) (v : valid_both g t ≡ true) where
  pub both-grid : valid_grid g ≡ true
  unfolding valid_both
  both-grid = and_left (valid_grid g) (valid_whole t && fits_table (decode_grid g) (decode_whole t).table) v

  pub both-table : valid_whole t ≡ true
  unfolding valid_both
  both-table =
      and_left (valid_whole t) (fits_table (decode_grid g) (decode_whole t).table) (and_right (valid_grid g) (valid_whole t && fits_table (decode_grid g) (decode_whole t).table) v)

  both-columns : columns (decode_grid g) ≡ numbers_of (decode_whole t).table
  unfolding valid_both
  both-columns =
      same_true (columns (decode_grid g)) (numbers_of (decode_whole t).table)
      (and_right (valid_whole t) (fits_table (decode_grid g) (decode_whole t).table) (and_right (valid_grid g) (valid_whole t && fits_table (decode_grid g) (decode_whole t).table) v))

  abbrev x : Grid
  x = decode_grid g

  abbrev w : Whole
  w = decode_whole t

  sound : Sound (decode_grid g)
  sound = valid-sound g both-grid

  stays : g ≡ encode_grid (decode_grid g)
  stays = sym (good-grid g both-grid).is

  -- ---- a node that comes, and its column

  module _ (i : ℕ) (fits : i < numbers) where
    comes : (o : obeys_whole (add_whole i (decode_whole t)).lent ≡ true)
        → valid_both (grid_on (add i (decode_whole t).table).answer (encode_grid (add_column i (decode_grid g))) g) (encode_whole (add_whole i (decode_whole t)).lent) ≡ true
    unfolding add_whole add
    comes o =
        go (among i (numbers_of w.table)) refl (ltb (length w.table) max_nodes) refl (table-obeys (add i w.table).table (whole-table (add_whole i w).lent o)).rise
      where
        out : (a b : Bool) → Outcome (Result (Unit {0}) Refusal)
        out a b = pick a (gives done w.table) (pick b (gives done (add_node i w.table)) (gives (Err NinthNode) w.table))

        fit : (h : Bytes) (y : Grid) → h ≡ encode_grid y → Sound y → columns y ≡ numbers_of (add i w.table).table → valid_both h (encode_whole (add_whole i w).lent) ≡ true
        fit h y e s c = ap (λ (l : Bytes). valid_both l (encode_whole (add_whole i w).lent)) e ∙ together y s (add_whole i w).lent o c

        go : (a : Bool) → among i (numbers_of w.table) ≡ a → (b : Bool) → ltb (length w.table) max_nodes ≡ b → rising (numbers_of (out (among i (numbers_of w.table)) (ltb (length w.table) max_nodes)).table) ≡ true
            → valid_both (grid_on (out (among i (numbers_of w.table)) (ltb (length w.table) max_nodes)).answer (encode_grid (add_column i x)) g) (encode_whole (add_whole i w).lent) ≡ true
        go true p b q r =
            fit (grid_on (out (among i (numbers_of w.table)) (ltb (length w.table) max_nodes)).answer (encode_grid (add_column i x)) g) x
            (ap (λ (a : Bool). grid_on (out a (ltb (length w.table) max_nodes)).answer (encode_grid (add_column i x)) g) p ∙ ap encode_grid (add-held x sound w.table both-columns i p)) sound
            (both-columns ∙ sym (ap (λ (a : Bool). numbers_of (out a (ltb (length w.table) max_nodes)).table) p))
        go false p true q r =
            let room : length (numbers_of w.table) < max_nodes = omega (arith, numbers-long w.table, ltb-true (length w.table) max_nodes q) in
            let is : out (among i (numbers_of w.table)) (ltb (length w.table) max_nodes) ≡ gives done (add_node i w.table) = ap₂ out p q in
            let rise : rising (numbers_of (add_node i w.table)) ≡ true = ap (λ (o : Outcome (Result (Unit {0}) Refusal)). rising (numbers_of o.table)) (sym is) ∙ r in
            fit (grid_on (out (among i (numbers_of w.table)) (ltb (length w.table) max_nodes)).answer (encode_grid (add_column i x)) g) (add_column i x)
            (ap (λ (o : Outcome (Result (Unit {0}) Refusal)). grid_on o.answer (encode_grid (add_column i x)) g) is) (add-sound x sound w.table both-columns i p fits room rise)
            (add-columns x sound w.table both-columns i p fits room rise ∙ sym (ap (λ (o : Outcome (Result (Unit {0}) Refusal)). numbers_of o.table) is))
        go false p false q r =
            let is : out (among i (numbers_of w.table)) (ltb (length w.table) max_nodes) ≡ gives (Err NinthNode) w.table = ap₂ out p q in
            fit (grid_on (out (among i (numbers_of w.table)) (ltb (length w.table) max_nodes)).answer (encode_grid (add_column i x)) g) x
            (ap (λ (o : Outcome (Result (Unit {0}) Refusal)). grid_on o.answer (encode_grid (add_column i x)) g) is ∙ stays) sound
            (both-columns ∙ sym (ap (λ (o : Outcome (Result (Unit {0}) Refusal)). numbers_of o.table) is))

    pub in-together : valid_both (lent_column_in i g t).lent.grid (lent_column_in i g t).lent.table ≡ true
    unfolding lent_column_in add_whole
    in-together =
        ap (λ (b : Bool). valid_both (pick b (given (add_whole i w).answer (both (grid_on (add_whole i w).answer (encode_grid (add_column i x)) g) (encode_whole (add_whole i w).lent))) (given (Err BadTable) (both g t))).lent.grid (pick b (given (add_whole i w).answer (both (grid_on (add_whole i w).answer (encode_grid (add_column i x)) g) (encode_whole (add_whole i w).lent))) (given (Err BadTable) (both g t))).lent.table) v
        ∙ comes (add-keeps-whole w (whole-obeys t both-table) i fits)

  -- ---- a node that goes, and its column

  module _ (i : ℕ) where
    goes : (o : obeys_whole (remove_whole i (decode_whole t)).lent ≡ true)
        → valid_both (grid_on (remove_node i (decode_whole t).table).answer (encode_grid (drop_column i (decode_grid g))) g) (encode_whole (remove_whole i (decode_whole t)).lent) ≡ true
    unfolding remove_whole remove_node
    goes o = go (among i (numbers_of w.table)) refl (table-obeys (remove_node i w.table).table (whole-table (remove_whole i w).lent o)).rise
      where
        out : (a : Bool) → Outcome (Result (Unit {0}) Refusal)
        out a = pick a (gives done (drop_node i w.table)) (gives (Err NoNode) w.table)

        fit : (h : Bytes) (y : Grid) → h ≡ encode_grid y → Sound y → columns y ≡ numbers_of (remove_node i w.table).table → valid_both h (encode_whole (remove_whole i w).lent) ≡ true
        fit h y e s c = ap (λ (l : Bytes). valid_both l (encode_whole (remove_whole i w).lent)) e ∙ together y s (remove_whole i w).lent o c

        go : (a : Bool) → among i (numbers_of w.table) ≡ a → rising (numbers_of (out (among i (numbers_of w.table))).table) ≡ true
            → valid_both (grid_on (out (among i (numbers_of w.table))).answer (encode_grid (drop_column i x)) g) (encode_whole (remove_whole i w).lent) ≡ true
        go true p r =
            let is : out (among i (numbers_of w.table)) ≡ gives done (drop_node i w.table) = ap out p in
            let rise : rising (numbers_of (drop_node i w.table)) ≡ true = ap (λ (o : Outcome (Result (Unit {0}) Refusal)). rising (numbers_of o.table)) (sym is) ∙ r in
            fit (grid_on (out (among i (numbers_of w.table))).answer (encode_grid (drop_column i x)) g) (drop_column i x)
            (ap (λ (o : Outcome (Result (Unit {0}) Refusal)). grid_on o.answer (encode_grid (drop_column i x)) g) is) (drop-sound x sound w.table both-columns i p rise)
            (drop-columns x sound w.table both-columns i p rise ∙ sym (ap (λ (o : Outcome (Result (Unit {0}) Refusal)). numbers_of o.table) is))
        go false p r =
            let is : out (among i (numbers_of w.table)) ≡ gives (Err NoNode) w.table = ap out p in
            fit (grid_on (out (among i (numbers_of w.table))).answer (encode_grid (drop_column i x)) g) x
            (ap (λ (o : Outcome (Result (Unit {0}) Refusal)). grid_on o.answer (encode_grid (drop_column i x)) g) is ∙ stays) sound
            (both-columns ∙ sym (ap (λ (o : Outcome (Result (Unit {0}) Refusal)). numbers_of o.table) is))

    pub out-together : valid_both (lent_column_out i g t).lent.grid (lent_column_out i g t).lent.table ≡ true
    unfolding lent_column_out remove_whole
    out-together =
        ap (λ (b : Bool). valid_both (pick b (given (remove_whole i w).answer (both (grid_on (remove_whole i w).answer (encode_grid (drop_column i x)) g) (encode_whole (remove_whole i w).lent))) (given (Err BadTable) (both g t))).lent.grid (pick b (given (remove_whole i w).answer (both (grid_on (remove_whole i w).answer (encode_grid (drop_column i x)) g) (encode_whole (remove_whole i w).lent))) (given (Err BadTable) (both g t))).lent.table) v
        ∙ goes (remove-keeps-whole w (whole-obeys t both-table) i)

  -- ---- a careful removal leaves the nodes

  pub careful-together : (now grace : ℕ) → valid_both g (lent_careful now grace g t).lent ≡ true
  unfolding lent_careful
  careful-together now grace = go (valid_both g t) (somebody (decode_grid g))
    where
      after : Table
      after = carefully_removed x now grace w.table

      same : numbers_of after ≡ numbers_of w.table
      same = numbers-remove (careful_due x now grace) w.table

      obeyed : obeys_whole (with_table after w) ≡ true
      obeyed = let o = whole-obeys t both-table in same_nodes w o after (remove-keeps (careful_due x now grace) w.table (whole-table w o)) (removed-formed w.kind.profile (careful_due x now grace) w.table (whole-profile w o)) same

      go : (b c : Bool)
          → valid_both g (pick b (pick c (given done (encode_whole (with_table after w))) (given (Err NobodyPresent) t)) (given (Err BadTable) t)).lent ≡ true
      go true true = ap (λ (l : Bytes). valid_both l (encode_whole (with_table after w))) stays ∙ together x sound (with_table after w) obeyed (both-columns ∙ sym same)
      go true false = v
      go false c = v

-- ---- a grid and a table that do not: nothing changes

pub in-bad : (i : ℕ) (g t : Bytes) → valid_both g t ≡ false → (lent_column_in i g t).lent ≡ both g t
unfolding lent_column_in
in-bad i g t e =
    ap (λ (b : Bool). (pick b (given (add_whole i (decode_whole t)).answer (both (grid_on (add_whole i (decode_whole t)).answer (encode_grid (add_column i (decode_grid g))) g) (encode_whole (add_whole i (decode_whole t)).lent))) (given (Err BadTable) (both g t))).lent) e

pub out-bad : (i : ℕ) (g t : Bytes) → valid_both g t ≡ false → (lent_column_out i g t).lent ≡ both g t
unfolding lent_column_out
out-bad i g t e =
    ap (λ (b : Bool). (pick b (given (remove_whole i (decode_whole t)).answer (both (grid_on (remove_whole i (decode_whole t)).answer (encode_grid (drop_column i (decode_grid g))) g) (encode_whole (remove_whole i (decode_whole t)).lent))) (given (Err BadTable) (both g t))).lent) e

pub careful-bad : (now grace : ℕ) (g t : Bytes) → valid_both g t ≡ false → (lent_careful now grace g t).lent ≡ t
unfolding lent_careful
careful-bad now grace g t e =
    ap (λ (b : Bool). (pick b (pick (somebody (decode_grid g)) (given done (encode_whole (with_table (carefully_removed (decode_grid g) now grace (decode_whole t).table) (decode_whole t)))) (given (Err NobodyPresent) t)) (given (Err BadTable) t)).lent) e

-- ---- calls on a grid alone

pub new-keeps : (t g : Bytes) → valid_whole t ≡ true → valid_grid g ≡ true → valid_grid (lent_new_grid t g).lent ≡ true
unfolding lent_new_grid
new-keeps t g w v = go (eqb (length g) grid_width && valid_whole t)
  where
    go : (b : Bool) → valid_grid (pick b (given done (encode_grid (new_grid (numbers_of (decode_whole t).table)))) (given (Err BadTable) g)).lent ≡ true
    go true = let o = whole-table (decode_whole t) (whole-obeys t w) in sound-valid (new_grid (numbers_of (decode_whole t).table)) (table-sound (decode_whole t).table o)
    go false = v

pub tell-keeps : (p edition : ℕ) (digest g : Bytes) → AreBytes digest → valid_grid g ≡ true → valid_grid (lent_tell p edition digest g).lent ≡ true
unfolding lent_tell
tell-keeps p edition digest g h v = go (valid_grid g) (ltb p max_peers) (read_digest edition digest) refl
  where
    go : (b c : Bool) (r : DigestRead) → read_digest edition digest ≡ r → valid_grid (pick b (pick c (tell_on p r g) (given (Err BadPeer) g)) (given (Err BadTable) g)).lent ≡ true
    go true true (Entries ds rest) q =
        let small = digest-small edition digest h ds rest q in
        sound-valid (tell_row p ds (decode_grid g)) (tell-sound (decode_grid g) (valid-sound g v) p ds (λ i. (small i).0) (λ i. (small i).1))
    go true true (Refused r) q = v
    go true false r q = v
    go false c r q = v

pub take-out-keeps : (p : ℕ) (g : Bytes) → valid_grid g ≡ true → valid_grid (lent_take_out p g).lent ≡ true
unfolding lent_take_out
take-out-keeps p g v = go (valid_grid g) (ltb p max_peers)
  where
    go : (b c : Bool) → valid_grid (pick b (pick c (given done (encode_grid (take_out p (decode_grid g)))) (given (Err BadPeer) g)) (given (Err BadTable) g)).lent ≡ true
    go true true = sound-valid (take_out p (decode_grid g)) (out-sound (decode_grid g) (valid-sound g v) p)
    go true false = v
    go false c = v
