-- What the rules' own searches find, in terms of a place. A rule takes the first node or record that passes a test; the code goes by the order and
-- stops early. Where the code answers At j, the rule finds element j; where it answers Free, the rule finds none, because the list rises. The law is
-- stated once, of any search that goes from the front, and then of the nodes and records that stand in the bytes of a good table. Assumes nothing.
use Prim.Native.Nat.{ℕ, suc, ◌+◌, ◌<◌}
use mathlib.Core.Path.{◌≡◌, refl, ap, ◌∙◌, subst}
use mathlib.Core.Bool.{Bool, true, false}
use mathlib.Core.List.{List, [], ◌∷◌}
use mathlib.Core.Option.{none, some}
use native.Mathlib.Omega.{arith}
use lib.ListN.{length, get_or}
use lib.Dec.{eqb, ltb}
use borrow.Author.Tests.{ltb-true}
use Rattle.fields.specs.Choice.{pick, ◌∈◌, here, later}
use Rattle.fields.specs.Order.{same_bytes, less_bytes, order_of}
use Rattle.std.specs.declared.cmp.Ordering.{Ordering}
use Rattle.std.specs.declared.cmp.Ordering.TheVariants.{Less, Equal, Greater}
use Rattle.fields.proofs.Choice.{in-at}
use Rattle.fields.proofs.Ordered.{less-trans, less-order, order-less}
use Rattle.rules.specs.Node.{Rec, find}
use Rattle.rules.specs.Table.{Entry, Table, node_of, numbers_of, keys_rise}
use Rattle.rules.specs.Layout.{decode_node, decode_rec, decode, valid}
use Rattle.rules.proofs.Records.{Above, Sorted}
use Rattle.rules.proofs.Obeys.{Ascending, number_in, keys-sorted, rising-asc}
use Rattle.table.specs.Tests.{count_of, nodes_of, recs_in}
use Rattle.table.specs.Fits.{LaidNode}
use Rattle.table.proofs.Tables.{ObeysTable, table-obeys, node-obeys, valid-obeys, valid-laid, length-decode}
use Rattle.table.proofs.Places.{rec_at, recs-at, length-recs, node_bytes, node_at, decode-at}
use Rattle.table.proofs.Laid.{laid-at}
use Rattle.table_read.specs.Find.{further, seek, find_by, number_order, to_node, to_key, find_node, find_key}
use Rattle.table_read.specs.declared.Place.{Place}
use Rattle.table_read.specs.declared.Place.TheVariants.{At, Free}
use Rattle.table_read.proofs.Found.{number-less}

-- ---- any search

free-not-at : {X : Type 0} {i j : ℕ} → Free i ≡ At j → X
free-not-at e = let z : ◌≡◌ {A = ℕ} 0 1 = cc in absurd (omega arith)

at-not-free : {X : Type 0} {i j : ℕ} → At i ≡ Free j → X
at-not-free e = let z : ◌≡◌ {A = ℕ} 0 1 = cc in absurd (omega arith)

abbrev is_same : Ordering → Bool
is_same Less = false
is_same Equal = true
is_same Greater = false

-- what stands before one that comes too late comes too late
unfoldable pub Ordered : {A : Type 0} → (A → Ordering) → List A → Type 0
Ordered g [] = Unit {0}
Ordered {A} g (a ∷ l) = (g a ≡ Less → (x : A) → x ∈ l → g x ≡ Less) × Ordered g l

-- a place that is found is one of the list's
pub place-in : {A : Type 0} (g : A → Ordering) (l : List A) (j : ℕ) → find_by g l ≡ At j → j < length l
unfolding find_by
place-in g [] j e = free-not-at e
place-in {A} g (a ∷ l) j e = go (g a) e (place-in g l)
  where
    next : (r : Place) → find_by g l ≡ r → further 1 r ≡ At j → ((m : ℕ) → find_by g l ≡ At m → m < length l) → j < suc (length l)
    next (At m) q e ih = let z : 1 + m ≡ j = cc in omega (arith, ih m q)
    next (Free m) q e ih = free-not-at e

    go : (o : Ordering) → seek o (find_by g l) ≡ At j → ((m : ℕ) → find_by g l ≡ At m → m < length l) → j < suc (length l)
    go Less e ih = free-not-at e
    go Equal e ih = let z : 0 ≡ j = cc in omega arith
    go Greater e ih = next (find_by g l) refl e ih

-- S takes f of the first that passes p, with its place from i on, and z where none does
module _ {A B : Type 0} (g : A → Ordering) (p : A → Bool) (hit : (a : A) → p a ≡ is_same (g a)) (f : ℕ → A → B) (z : B) (S : ℕ → List A → B)
    (nil : (i : ℕ) → S i [] ≡ z) (cons : (i : ℕ) (a : A) (l : List A) → S i (a ∷ l) ≡ pick (p a) (f i a) (S (suc i) l)) where
  by : (i : ℕ) (a : A) (l : List A) (o : Ordering) → g a ≡ o → S i (a ∷ l) ≡ pick (is_same o) (f i a) (S (suc i) l)
  by i a l o q = cons i a l ∙ ap (λ (t : Bool). pick t (f i a) (S (suc i) l)) (hit a ∙ ap is_same q)

  pub search-at : (l : List A) (d : A) (i j : ℕ) → find_by g l ≡ At j → S i l ≡ f (i + j) (get_or l j d)
  unfolding find_by
  search-at [] d i j e = free-not-at e
  search-at (a ∷ l) d i j e = go (g a) refl e (search-at l d (suc i))
    where
      next : g a ≡ Greater → (r : Place) → find_by g l ≡ r → further 1 r ≡ At j → ((m : ℕ) → find_by g l ≡ At m → S (suc i) l ≡ f (suc i + m) (get_or l m d))
          → S i (a ∷ l) ≡ f (i + j) (get_or (a ∷ l) j d)
      next q (At m) h e ih =
          let y : 1 + m ≡ j = cc in
          let s : j ≡ suc m = omega arith in
          let t : suc i + m ≡ i + suc m = omega arith in
          by i a l Greater q ∙ ih m h ∙ rw (s, t) refl
      next q (Free m) h e ih = free-not-at e

      go : (o : Ordering) → g a ≡ o → seek o (find_by g l) ≡ At j → ((m : ℕ) → find_by g l ≡ At m → S (suc i) l ≡ f (suc i + m) (get_or l m d))
          → S i (a ∷ l) ≡ f (i + j) (get_or (a ∷ l) j d)
      go Less q e ih = free-not-at e
      go Equal q e ih =
          let y : 0 ≡ j = cc in
          let s : j ≡ 0 = omega arith in
          let t : i + 0 ≡ i = omega arith in
          by i a l Equal q ∙ rw (s, t) refl
      go Greater q e ih = next q (find_by g l) refl e ih

  none_passes : (l : List A) (i : ℕ) → ((x : A) → x ∈ l → g x ≡ Less) → S i l ≡ z
  none_passes [] i h = nil i
  none_passes (a ∷ l) i h = by i a l Less (h a (here refl)) ∙ none_passes l (suc i) (λ x m. h x (later m))

  pub search-free : (l : List A) (i j : ℕ) → Ordered g l → find_by g l ≡ Free j → S i l ≡ z
  unfolding find_by Ordered
  search-free [] i j s e = nil i
  search-free (a ∷ l) i j s e = go (g a) refl e (λ m. search-free l (suc i) m s.1)
    where
      next : g a ≡ Greater → (r : Place) → find_by g l ≡ r → further 1 r ≡ Free j → ((m : ℕ) → find_by g l ≡ Free m → S (suc i) l ≡ z) → S i (a ∷ l) ≡ z
      next q (At m) h e ih = at-not-free e
      next q (Free m) h e ih = by i a l Greater q ∙ ih m h

      go : (o : Ordering) → g a ≡ o → seek o (find_by g l) ≡ Free j → ((m : ℕ) → find_by g l ≡ Free m → S (suc i) l ≡ z) → S i (a ∷ l) ≡ z
      go Less q e ih = by i a l Less q ∙ none_passes l (suc i) (s.0 q)
      go Equal q e ih = at-not-free e
      go Greater q e ih = next q (find_by g l) refl e ih

-- ---- nodes by number, records by key

shape : (s t : Bool) → s ≡ is_same (pick s Equal (pick t Less Greater))
shape true t = refl
shape false true = refl
shape false false = refl

pub node-hit : (n : ℕ) (e : Entry) → eqb n e.number ≡ is_same (to_node n e)
unfolding number_order
node-hit n e = shape (eqb n e.number) (ltb n e.number)

pub key-hit : (k : List ℕ) (r : Rec) → same_bytes k r.kv.key ≡ is_same (to_key k r)
unfolding order_of
key-hit k r = shape (same_bytes k r.kv.key) (less_bytes k r.kv.key)

less-number : (i n : ℕ) → number_order i n ≡ Less → i < n
unfolding number_order
less-number i n e = go (eqb i n) (ltb i n) refl e
  where
    go : (s t : Bool) → ltb i n ≡ t → pick s Equal (pick t Less Greater) ≡ Less → i < n
    go true t q e = let z : ◌≡◌ {A = ℕ} 0 1 = cc in absurd (omega arith)
    go false true q e = ltb-true i n q
    go false false q e = let z : ◌≡◌ {A = ℕ} 0 1 = cc in absurd (omega arith)

ordered-nodes : (n : ℕ) (t : Table) → Ascending (numbers_of t) → Ordered (to_node n) t
unfolding Ordered Ascending numbers_of
ordered-nodes n [] h = tt
ordered-nodes n (e ∷ t) h =
    (λ q x m. number-less n x.number (omega (arith, less-number n e.number q, h.0 x.number (number_in m))), ordered-nodes n t h.1)

ordered-recs : (k : List ℕ) (l : List Rec) → Sorted l → Ordered (to_key k) l
unfolding Ordered Sorted Above
ordered-recs k [] h = tt
ordered-recs k (r ∷ l) h =
    (λ q x m. less-order k x.kv.key (less-trans k r.kv.key x.kv.key (order-less k r.kv.key q) (h.0 x m)), ordered-recs k l h.1)

-- ---- in the bytes of a good table

module _ (l : List ℕ) (v : valid l ≡ true) where
  facts : ObeysTable (decode l)
  facts = table-obeys (decode l) (valid-obeys l v)

  pub nodes-ordered : (n : ℕ) → Ordered (to_node n) (decode l)
  nodes-ordered n = ordered-nodes n (decode l) (rising-asc (numbers_of (decode l)) facts.rise)

  pub node_in : (n i : ℕ) → find_node n (decode l) ≡ At i → i < nodes_of l
  node_in n i e = rw length-decode at (place-in (to_node n) (decode l) i e)

  pub node-found : (n i : ℕ) → find_node n (decode l) ≡ At i → node_of n (decode l) ≡ some (node_at i l).node
  unfolding node_of
  node-found n i e =
      search-at (to_node n) (λ (x : Entry). eqb n x.number) (node-hit n) (λ (j : ℕ) (x : Entry). some x.node) none (λ (j : ℕ) (t : Table). node_of n t)
      (λ j. refl) (λ j a t. refl) (decode l) (decode_node []) 0 i e
      ∙ ap (λ (x : Entry). some x.node) (decode-at i l (decode_node []) (node_in n i e))

  pub node-missing : (n i : ℕ) → find_node n (decode l) ≡ Free i → node_of n (decode l) ≡ none
  unfolding node_of
  node-missing n i e =
      search-free (to_node n) (λ (x : Entry). eqb n x.number) (node-hit n) (λ (j : ℕ) (x : Entry). some x.node) none (λ (j : ℕ) (t : Table). node_of n t)
      (λ j. refl) (λ j a t. refl) (decode l) 0 i (nodes-ordered n) e

  -- node i is laid out, and its keys rise
  module _ (i : ℕ) (h : i < nodes_of l) where
    pub node-laid : LaidNode (node_bytes i l)
    node-laid = laid-at l (valid-laid l v) i h

    pub node-rises : keys_rise (recs_in (node_bytes i l)) ≡ true
    node-rises =
        let d : Entry = decode_node [] in
        (node-obeys (decode l) facts (node_at i l) (subst (λ (e : Entry). e ∈ decode l) (decode-at i l d h) (in-at (decode l) i d (rw length-decode h)))).rise

-- ---- in the bytes of a node whose keys rise

pub recs-ordered : (b : List ℕ) → keys_rise (recs_in b) ≡ true → (k : List ℕ) → Ordered (to_key k) (recs_in b)
recs-ordered b s k = ordered-recs k (recs_in b) (keys-sorted (recs_in b) s)

pub rec-in : (b k : List ℕ) (j : ℕ) → find_key k (recs_in b) ≡ At j → j < count_of b
rec-in b k j e = rw length-recs at (place-in (to_key k) (recs_in b) j e)

pub rec-found : (b k : List ℕ) (j : ℕ) → find_key k (recs_in b) ≡ At j → find k (recs_in b) ≡ some (rec_at j b)
unfolding find
rec-found b k j e =
    search-at (to_key k) (λ (r : Rec). same_bytes k r.kv.key) (key-hit k) (λ (i : ℕ) (r : Rec). some r) none (λ (i : ℕ) (l : List Rec). find k l)
    (λ i. refl) (λ i a l. refl) (recs_in b) (decode_rec []) 0 j e
    ∙ ap (λ (r : Rec). some r) (recs-at j b (decode_rec []) (rec-in b k j e))

pub rec-missing : (b k : List ℕ) (j : ℕ) → keys_rise (recs_in b) ≡ true → find_key k (recs_in b) ≡ Free j → find k (recs_in b) ≡ none
unfolding find
rec-missing b k j s e =
    search-free (to_key k) (λ (r : Rec). same_bytes k r.kv.key) (key-hit k) (λ (i : ℕ) (r : Rec). some r) none (λ (i : ℕ) (l : List Rec). find k l)
    (λ i. refl) (λ i a l. refl) (recs_in b) 0 j (recs-ordered b s k) e
