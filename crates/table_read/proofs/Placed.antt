-- What the rules make of a table's nodes or of a node's records, in terms of a place. A rule goes from the front by its tests; the code has found a
-- place and changes the list there: what stands at it is replaced or taken out, or something new comes before it. Two laws say it of any change that
-- goes on past what the sought comes behind; the rest names them for records by key and nodes by number. Assumes nothing.
use Prim.Native.Nat.{ℕ, suc, ◌+◌, ◌≤◌, ◌<◌}
use mathlib.Core.Path.{◌≡◌, refl, ap, sym, ◌∙◌}
use mathlib.Core.Bool.{Bool, true, false}
use mathlib.Core.List.{List, [], ◌∷◌}
use native.Mathlib.Omega.{arith}
use lib.ListN.{length, get_or, set}
use lib.Dec.{eqb, ltb}
use Rattle.fields.specs.Choice.{pick}
use Rattle.fields.specs.Parts.{put}
use Rattle.fields.specs.Blocks.{insert_at, remove_at}
use Rattle.fields.specs.Order.{less_bytes}
use Rattle.std.specs.declared.cmp.Ordering.{Ordering}
use Rattle.std.specs.declared.cmp.Ordering.TheVariants.{Less, Equal, Greater}
use Rattle.fields.proofs.Ordered.{order_same, order-less, order-more, less-same, less-not, same-swap}
use Rattle.rules.specs.Node.{Rec, Node, store}
use Rattle.rules.proofs.Records.{key_of}
use Rattle.rules.specs.Table.{Entry, Table, set_node, add_node, drop_node, numbers_of, among}
use Rattle.rules.specs.Layout.{node_place, encode_node, decode_node, decode, encode, valid}
use Rattle.table.specs.Changes.{with_node, fresh_entry}
use Rattle.table.specs.Tests.{nodes_of}
use Rattle.table.proofs.Tables.{valid-laid, length-decode}
use Rattle.table.proofs.Places.{node_at, decode-at}
use Rattle.table.proofs.Changed.{table-set}
use Rattle.table_read.specs.Find.{further, seek, find_by, number_order, to_node, to_key, find_node, find_key}
use Rattle.table_read.specs.declared.Place.{Place}
use Rattle.table_read.specs.declared.Place.TheVariants.{At, Free}
use Rattle.table_read.proofs.Searched.{Ordered, search-at, search-free, node-hit, node_in}

-- ---- any change

free-not-at : {X : Type 0} {i j : ℕ} → Free i ≡ At j → X
free-not-at e = let z : ◌≡◌ {A = ℕ} 0 1 = cc in absurd (omega arith)

at-not-free : {X : Type 0} {i j : ℕ} → At i ≡ Free j → X
at-not-free e = let z : ◌≡◌ {A = ℕ} 0 1 = cc in absurd (omega arith)

-- C is the rule's change; R j is the code's, at place j
module _ {A : Type 0} (g : A → Ordering) (C : List A → List A) (past : (a : A) (l : List A) → g a ≡ Greater → C (a ∷ l) ≡ a ∷ C l) (R : ℕ → List A → List A)
    (next : (j : ℕ) (a : A) (l : List A) → R (suc j) (a ∷ l) ≡ a ∷ R j l) where
  step : (a : A) (l : List A) (m j : ℕ) → 1 + m ≡ j → g a ≡ Greater → C l ≡ R m l → C (a ∷ l) ≡ R j (a ∷ l)
  step a l m j y q ih =
      let s : suc m ≡ j = omega arith in
      past a l q ∙ ap (λ (r : List A). a ∷ r) ih ∙ sym (next m a l) ∙ ap (λ (k : ℕ). R k (a ∷ l)) s

  pub change-at : ((a : A) (l : List A) → g a ≡ Equal → C (a ∷ l) ≡ R 0 (a ∷ l)) → (l : List A) (j : ℕ) → find_by g l ≡ At j → C l ≡ R j l
  unfolding find_by
  change-at here [] j e = free-not-at e
  change-at here (a ∷ l) j e = go (g a) refl e (change-at here l)
    where
      more : g a ≡ Greater → (r : Place) → find_by g l ≡ r → further 1 r ≡ At j → ((m : ℕ) → find_by g l ≡ At m → C l ≡ R m l) → C (a ∷ l) ≡ R j (a ∷ l)
      more q (At m) h e ih = let y : 1 + m ≡ j = cc in step a l m j y q (ih m h)
      more q (Free m) h e ih = free-not-at e

      go : (o : Ordering) → g a ≡ o → seek o (find_by g l) ≡ At j → ((m : ℕ) → find_by g l ≡ At m → C l ≡ R m l) → C (a ∷ l) ≡ R j (a ∷ l)
      go Less q e ih = free-not-at e
      go Equal q e ih = let y : 0 ≡ j = cc in here a l q ∙ ap (λ (k : ℕ). R k (a ∷ l)) y
      go Greater q e ih = more q (find_by g l) refl e ih

  pub change-free : C [] ≡ R 0 [] → ((a : A) (l : List A) → g a ≡ Less → C (a ∷ l) ≡ R 0 (a ∷ l)) → (l : List A) (j : ℕ) → find_by g l ≡ Free j → C l ≡ R j l
  unfolding find_by
  change-free none here [] j e = let y : 0 ≡ j = cc in none ∙ ap (λ (k : ℕ). R k []) y
  change-free none here (a ∷ l) j e = go (g a) refl e (change-free none here l)
    where
      more : g a ≡ Greater → (r : Place) → find_by g l ≡ r → further 1 r ≡ Free j → ((m : ℕ) → find_by g l ≡ Free m → C l ≡ R m l) → C (a ∷ l) ≡ R j (a ∷ l)
      more q (At m) h e ih = at-not-free e
      more q (Free m) h e ih = let y : 1 + m ≡ j = cc in step a l m j y q (ih m h)

      go : (o : Ordering) → g a ≡ o → seek o (find_by g l) ≡ Free j → ((m : ℕ) → find_by g l ≡ Free m → C l ≡ R m l) → C (a ∷ l) ≡ R j (a ∷ l)
      go Less q e ih = let y : 0 ≡ j = cc in here a l q ∙ ap (λ (k : ℕ). R k (a ∷ l)) y
      go Equal q e ih = at-not-free e
      go Greater q e ih = more q (find_by g l) refl e ih

-- a free place is within the list or right behind it
pub free_in : {A : Type 0} (g : A → Ordering) (l : List A) (j : ℕ) → find_by g l ≡ Free j → j ≤ length l
unfolding find_by
free_in g [] j e = let y : 0 ≡ j = cc in omega arith
free_in {A} g (a ∷ l) j e = go (g a) e (free_in g l)
  where
    more : (r : Place) → find_by g l ≡ r → further 1 r ≡ Free j → ((m : ℕ) → find_by g l ≡ Free m → m ≤ length l) → j ≤ suc (length l)
    more (At m) q e ih = at-not-free e
    more (Free m) q e ih = let y : 1 + m ≡ j = cc in omega (arith, ih m q)

    go : (o : Ordering) → seek o (find_by g l) ≡ Free j → ((m : ℕ) → find_by g l ≡ Free m → m ≤ length l) → j ≤ suc (length l)
    go Less e ih = let y : 0 ≡ j = cc in omega arith
    go Equal e ih = at-not-free e
    go Greater e ih = more (find_by g l) refl e ih

-- ---- records by key

module _ (r : Rec) where
  store-past : (a : Rec) (l : List Rec) → to_key (key_of r) a ≡ Greater → store r (a ∷ l) ≡ a ∷ store r l
  unfolding store
  store-past a l q =
      let less : less_bytes a.kv.key (key_of r) ≡ true = order-more (key_of r) a.kv.key q in
      rw (store, same-swap (key_of r) a.kv.key ∙ less-same a.kv.key (key_of r) less, less-not a.kv.key (key_of r) less)

  -- a key that stands at j: its record is replaced
  pub store_at : (l : List Rec) (j : ℕ) → find_key (key_of r) l ≡ At j → store r l ≡ set l j r
  unfolding store
  store_at =
      change-at (to_key (key_of r)) (store r) store-past (λ (j : ℕ) (l : List Rec). set l j r) (λ j a l. refl)
      (λ a l q. rw (store, order_same (key_of r) a.kv.key q))

  -- a key that belongs before j: its record is put in there
  pub store-free : (l : List Rec) (j : ℕ) → find_key (key_of r) l ≡ Free j → store r l ≡ insert_at j r l
  unfolding store insert_at
  store-free =
      change-free (to_key (key_of r)) (store r) store-past (λ (j : ℕ) (l : List Rec). insert_at j r l) (λ j a l. refl) refl
      (λ a l q.
      let less : less_bytes (key_of r) a.kv.key ≡ true = order-less (key_of r) a.kv.key q in
      rw (store, less-same (key_of r) a.kv.key less, less))

-- ---- nodes by number

module _ (i n : ℕ) where
  number_same : number_order i n ≡ Equal → eqb i n ≡ true
  unfolding number_order
  number_same e = go (eqb i n) (ltb i n) refl e
    where
      go : (s t : Bool) → eqb i n ≡ s → pick s Equal (pick t Less Greater) ≡ Equal → eqb i n ≡ true
      go true t q e = q
      go false true q e = let z : ◌≡◌ {A = ℕ} 0 1 = cc in absurd (omega arith)
      go false false q e = let z : ◌≡◌ {A = ℕ} 0 1 = cc in absurd (omega arith)

  number-less : number_order i n ≡ Less → (eqb i n ≡ false) × (ltb i n ≡ true)
  unfolding number_order
  number-less e = go (eqb i n) (ltb i n) refl refl e
    where
      go : (s t : Bool) → eqb i n ≡ s → ltb i n ≡ t → pick s Equal (pick t Less Greater) ≡ Less → (eqb i n ≡ false) × (ltb i n ≡ true)
      go true t q p e = let z : ◌≡◌ {A = ℕ} 0 1 = cc in absurd (omega arith)
      go false true q p e = (q, p)
      go false false q p e = let z : ◌≡◌ {A = ℕ} 0 1 = cc in absurd (omega arith)

  number_more : number_order i n ≡ Greater → (eqb i n ≡ false) × (ltb i n ≡ false)
  unfolding number_order
  number_more e = go (eqb i n) (ltb i n) refl refl e
    where
      go : (s t : Bool) → eqb i n ≡ s → ltb i n ≡ t → pick s Equal (pick t Less Greater) ≡ Greater → (eqb i n ≡ false) × (ltb i n ≡ false)
      go true t q p e = let z : ◌≡◌ {A = ℕ} 0 1 = cc in absurd (omega arith)
      go false true q p e = let z : ◌≡◌ {A = ℕ} 0 1 = cc in absurd (omega arith)
      go false false q p e = (q, p)

module _ (i : ℕ) where
  -- the node that stands at j becomes m
  pub set_at : (m : Node) (d : Entry) (t : Table) (j : ℕ) → find_node i t ≡ At j → set_node i m t ≡ set t j (with_node m (get_or t j d))
  unfolding set_node
  set_at m d =
      change-at (to_node i) (set_node i m) (λ e t q. rw (set_node, (number_more i e.number q).0))
      (λ (j : ℕ) (t : Table). set t j (with_node m (get_or t j d))) (λ j e t. refl)
      (λ e t q. rw (set_node, number_same i e.number q))

  pub drop_at : (t : Table) (j : ℕ) → find_node i t ≡ At j → drop_node i t ≡ remove_at j t
  unfolding drop_node remove_at
  drop_at =
      change-at (to_node i) (drop_node i) (λ e t q. rw (drop_node, (number_more i e.number q).0)) remove_at (λ j e t. refl)
      (λ e t q. rw (drop_node, number_same i e.number q))

  -- a number that belongs before j: a fresh node is put in there
  pub add_free : (t : Table) (j : ℕ) → find_node i t ≡ Free j → add_node i t ≡ insert_at j (fresh_entry i) t
  unfolding add_node insert_at
  add_free =
      change-free (to_node i) (add_node i) (λ e t q. rw (add_node, (number_more i e.number q).0, (number_more i e.number q).1))
      (λ (j : ℕ) (t : Table). insert_at j (fresh_entry i) t) (λ j e t. refl) refl
      (λ e t q. rw (add_node, (number-less i e.number q).0, (number-less i e.number q).1))

  -- whether the number is held
  pub held : (t : Table) (j : ℕ) → find_node i t ≡ At j → among i (numbers_of t) ≡ true
  unfolding among numbers_of
  held t j e =
      search-at (to_node i) (λ (x : Entry). eqb i x.number) (node-hit i) (λ (n : ℕ) (x : Entry). true) false (λ (n : ℕ) (u : Table). among i (numbers_of u))
      (λ n. refl) (λ n a u. refl) t (decode_node []) 0 j e

  pub not-held : (t : Table) (j : ℕ) → Ordered (to_node i) t → find_node i t ≡ Free j → among i (numbers_of t) ≡ false
  unfolding among numbers_of
  not-held t j s e =
      search-free (to_node i) (λ (x : Entry). eqb i x.number) (node-hit i) (λ (n : ℕ) (x : Entry). true) false (λ (n : ℕ) (u : Table). among i (numbers_of u))
      (λ n. refl) (λ n a u. refl) t 0 j s e

-- ---- in the bytes of a good table

module _ (l : List ℕ) (v : valid l ≡ true) (i j : ℕ) (e : find_node i (decode l) ≡ At j) where
  -- the bytes of another node at its place are those of the table with that node
  pub node-changed : (m : Node) (s : List ℕ) → s ≡ put (node_place j) (encode_node (with_node m (node_at j l))) l → s ≡ encode (set_node i m (decode l))
  node-changed m s q =
      let h : j < nodes_of l = node_in l v i j e in
      let d : Entry = decode_node [] in
      q
      ∙ ap (put (node_place j) (encode_node (with_node m (node_at j l)))) (sym (valid-laid l v).is)
      ∙ table-set (decode l) (valid-laid l v).fits.few j (with_node m (node_at j l)) (rw length-decode h)
      ∙ ap (λ (x : Entry). encode (set (decode l) j (with_node m x))) (sym (decode-at j l d h))
      ∙ ap encode (sym (set_at i m d (decode l) j e))
