-- A line of a plan, case by case, once its node was found at a place of the table. Assumes nothing.
use Prim.Native.Nat.{ℕ, zero, suc, ◌+◌, ◌≤◌, ◌<◌}
use mathlib.Core.Bool.{Bool, ◌&&◌, false, true}
use mathlib.Core.List.{List, [], ◌∷◌, map}
use mathlib.Core.Option.{Option, none, some}
use mathlib.Core.Path.{◌∙◌, ◌≡◌, ap, refl, sym}
use native.Mathlib.Omega.{arith}
use lib.Dec.{eqb, leb, ltb}
use lib.ListN.{get_or, length, length-map, take}
use borrow.Author.Tests.{eq-eqb, eqb-true, le-ltb, lt-ltb, lt-leb, le-leb, ltb-true, ltb-false}
use Rattle.fields.specs.Choice.{pick}
use Rattle.fields.specs.Numbers.{Bytes}
use Rattle.std.specs.declared.cmp.Ordering.{Ordering}
use Rattle.std.specs.declared.cmp.Ordering.TheVariants.{Less, Equal, Greater}
use Rattle.rules.proofs.Obeys.{table-facts}
use Rattle.rules.specs.Compute.{body_ops, stale, stale_of, told_of}
use Rattle.rules.specs.Delta.{delta_bytes}
use Rattle.rules.specs.Digest.{NodeDigest}
use Rattle.rules.specs.Layout.{decode, decode_rec, valid}
use Rattle.rules.specs.Node.{KeyValue, Node, Rec}
use Rattle.rules.specs.Sizes.{max_records}
use Rattle.rules.specs.Table.{Entry, Table, among, node_of, versions}
use Rattle.table.proofs.Places.{length-recs, node_bytes}
use Rattle.table.proofs.Tables.{valid-obeys}
use Rattle.table.specs.Changes.{fresh_entry}
use Rattle.table.specs.Fits.{LaidTable}
use Rattle.table.specs.Tests.{nodes_of}
use Rattle.table_read.proofs.Located.{count_low, entry-at, recs-are}
use Rattle.table_read.proofs.Searched.{node-found, node_in, node-missing}
use Rattle.table_read.specs.Find.{entry_at, find_by, find_node, further, number_order, seek, to_node}
use Rattle.table_read.specs.declared.Place.{Place}
use Rattle.table_read.specs.declared.Place.TheVariants.{At, Free}
use Rattle.compute_order.specs.Line.{is_stale}
use Rattle.compute_stale.proofs.Above.{carried-above, length-versions, places-listed}
use Rattle.compute_stale.proofs.Arranged.{length-span}
use Rattle.compute_stale.specs.Above.{places_above, places_of, versions_in}
use Rattle.compute_stale.specs.Arranged.{listed}
use Rattle.compute_stale.specs.declared.Places.{Places}
use Rattle.compute_write.specs.Sending.{node_op_at, record_at}
use Rattle.compute.specs.Lined.{from_at}
use Rattle.plan.proofs.Held.{named-held, sendable, stale_if}
use Rattle.plan.specs.Faults.{count_fault, line_fault, line_size, size_of_line, stale_held}
use Rattle.plan.specs.Plan.{line_ops, named, stale_for}
use Rattle.plan.specs.declared.Fault.TheVariants.{Excluded, NamedBefore, NoFit, NotHeld, TooFew, TooMany, UpToDate}
use Rattle.plan_lines.specs.Lines.{as_line, line_at, ops_at}
use Rattle.std.specs.Prelude.{Err, Ok, Result}
use Rattle.plan.specs.declared.Fault.{Fault}

-- ---- the stale records, whose places were found in the node's bytes

map-take : {A B : Type 0} (f : A → B) (n : ℕ) (l : List A) → map f (take n l) ≡ take n (map f l)
map-take f zero l = refl
map-take f (suc n) [] = refl
map-take {A} {B} f (suc n) (a ∷ l) = ap (λ (m : List B). f a ∷ m) (map-take f n l)

module _ (l : Bytes) (o : LaidTable l) (p : ℕ) (h : p < nodes_of l) (b : Bytes) (e : b ≡ node_bytes p l) (from : ℕ) (r : Places)
    (found : r ≡ places_of (places_above from (versions_in b))) where
  abbrev recs : List Rec
  recs = (entry_at (decode l) p).node.recs

  few : length (versions_in b) ≤ max_records
  few = rw (length-versions, length-recs) (count_low l o p h b e)

  stale-are : map (record_at (decode l) p) (listed r.count r.at) ≡ stale from recs
  stale-are =
      ap (λ (x : Places). map (record_at (decode l) p) (listed x.count x.at)) found
      ∙ ap (map (record_at (decode l) p)) (places-listed from (versions_in b) few ∙ ap (λ (rs : List Rec). places_above from (versions rs)) (recs-are l o p h b e))
      ∙ carried-above recs (decode_rec []) from

  pub stale-long : length (stale from recs) ≡ r.count
  stale-long = ap length (sym stale-are) ∙ length-map (listed r.count r.at) (record_at (decode l) p) ∙ length-span 0 r.count r.at

  -- the first of them
  pub first-are : (c : ℕ) → map (record_at (decode l) p) (take c (listed r.count r.at)) ≡ take c (stale from recs)
  first-are c = map-take (record_at (decode l) p) c (listed r.count r.at) ∙ ap (take c) stale-are

  pub line-are : (c : ℕ) → ops_at (decode l) p from (take c (listed r.count r.at)) ≡ line_at (decode l) p from c
  line-are c = ap (λ (kvs : List KeyValue). node_op_at (decode l) p from ∷ body_ops (entry_at (decode l) p).node.max kvs) (first-are c)

-- ---- its count and its bytes

module _ (c : ℕ) (all : List KeyValue) (size left n : ℕ) (long : length all ≡ n) where
  abbrev shape : Bool → Bool → Bool → (Result ℕ Fault)
  shape a b d = as_line (pick a (some TooMany) (pick b (some TooFew) (pick d (some NoFit) none))) size

  by : {a b d : Bool} → ltb n c ≡ a → (eqb c 0 && ltb 0 n) ≡ b → ltb left size ≡ d → shape a b d ≡ as_line (count_fault c all size left) size
  by p q r =
      (λ i. shape (sym p i) (sym q i) (sym r i)) ∙ ap (λ (m : ℕ). shape (ltb m c) (eqb c 0 && ltb 0 m) (ltb left size)) (sym long)

  pub too_many : n < c → Err TooMany ≡ as_line (count_fault c all size left) size
  too_many h = by (lt-ltb n c h) refl refl

  pub too_few : c ≤ n → c ≡ 0 → (n ≡ 0 → ⊥) → Err TooFew ≡ as_line (count_fault c all size left) size
  too_few h z s = by (le-ltb n c h) (λ i. eq-eqb c 0 z i && lt-ltb 0 n (omega (arith, s)) i) refl

  fits-so : (c ≡ 0 → n ≡ 0) → (eqb c 0 && ltb 0 n) ≡ false
  fits-so f = go (eqb c 0) refl
    where
      go : (b : Bool) → eqb c 0 ≡ b → (b && ltb 0 n) ≡ false
      go true q = let z = f (eqb-true c 0 q) in le-ltb 0 n (omega arith)
      go false q = refl

  pub no-fit : c ≤ n → (c ≡ 0 → n ≡ 0) → left < size → Err NoFit ≡ as_line (count_fault c all size left) size
  no-fit h f g = by (le-ltb n c h) (fits-so f) (lt-ltb left size g)

  pub it-fits : c ≤ n → (c ≡ 0 → n ≡ 0) → size ≤ left → Ok size ≡ as_line (count_fault c all size left) size
  it-fits h f g = by (le-ltb n c h) (fits-so f) (le-ltb left size g)

-- ---- the node at its place

free-not-at : {X : Type 0} {i j : ℕ} → Free i ≡ At j → X
free-not-at e = let z : ◌≡◌ {A = ℕ} 0 1 = cc in absurd (omega arith)

found-same : {A : Type 0} (g : A → Ordering) (l : List A) (d : A) (j : ℕ) → find_by g l ≡ At j → g (get_or l j d) ≡ Equal
unfolding find_by
found-same g [] d j e = free-not-at e
found-same {A} g (a ∷ l) d j e = go (g a) refl e (found-same g l d)
  where
    next : (r : Place) → find_by g l ≡ r → further 1 r ≡ At j → ((m : ℕ) → find_by g l ≡ At m → g (get_or l m d) ≡ Equal) → g (get_or (a ∷ l) j d) ≡ Equal
    next (At m) q e ih =
        let y : 1 + m ≡ j = cc in
        let s : j ≡ suc m = omega arith in
        rw s (ih m q)
    next (Free m) q e ih = free-not-at e

    go : (o : Ordering) → g a ≡ o → seek o (find_by g l) ≡ At j → ((m : ℕ) → find_by g l ≡ At m → g (get_or l m d) ≡ Equal) → g (get_or (a ∷ l) j d) ≡ Equal
    go Less q e ih = free-not-at e
    go Equal q e ih = let y : 0 ≡ j = cc in let s : j ≡ 0 = omega arith in rw s q
    go Greater q e ih = next (find_by g l) refl e ih

same_number : (i n : ℕ) → number_order i n ≡ Equal → n ≡ i
unfolding number_order
same_number i n e = go (eqb i n) refl (ltb i n) e
  where
    go : (b : Bool) → eqb i n ≡ b → (c : Bool) → pick b Equal (pick c Less Greater) ≡ Equal → n ≡ i
    go true q c e = sym (eqb-true i n q)
    go false q true e = let z : ◌≡◌ {A = ℕ} 0 1 = cc in absurd (omega arith)
    go false q false e = let z : ◌≡◌ {A = ℕ} 0 1 = cc in absurd (omega arith)

module _ (l : Bytes) (v : valid l ≡ true) (i p : ℕ) (e : find_node i (decode l) ≡ At p) where
  abbrev t : Table
  t = decode l

  abbrev own : Node
  own = (entry_at t p).node

  pub found_in : p < nodes_of l
  found_in = node_in l v i p e

  found_number : (entry_at t p).number ≡ i
  found_number = same_number i (entry_at t p).number (found-same (to_node i) t (fresh_entry 0) p e)

  found-node : node_of i t ≡ some own
  found-node = node-found l v i p e ∙ ap (λ (x : Entry). some x.node) (sym (entry-at l p found_in))

  -- the line, by its place
  line-is : (ds : List NodeDigest) (c : ℕ) → line_at t p (from_at ds t p) c ≡ line_ops c (some (stale_held ds i own))
  line-is ds c = ap (λ (j : ℕ). line_ops c (some (stale_held ds j own))) found_number

  stale-is : (ds : List NodeDigest) → stale (from_at ds t p) own.recs ≡ stale_of (stale_held ds i own)
  stale-is ds = ap (λ (j : ℕ). stale_of (stale_held ds j own)) found_number

  module _ (excluded before : List ℕ) (left : ℕ) (ds : List NodeDigest) (c : ℕ) where
    abbrev whole : Option Node → (Result ℕ Fault)
    whole o = as_line (line_fault excluded before left ds i c o) (line_size ds i c o)

    abbrev shaped : Bool → Bool → Bool → (Result ℕ Fault)
    shaped a b m =
        as_line
        (pick a (some Excluded)
        (pick b (some NamedBefore)
        (pick m (some UpToDate) (count_fault c (stale_of (stale_held ds i own)) (size_of_line c (stale_held ds i own)) left)))) (size_of_line c (stale_held ds i own))

    with-tests : {a b m : Bool} → among i excluded ≡ a → among i before ≡ b → leb own.max (told_of i ds).max ≡ m → shaped a b m ≡ whole (node_of i t)
    with-tests x y z = (λ k. shaped (sym x k) (sym y k) (sym z k)) ∙ ap whole (sym found-node)

    pub is-left-out : among i excluded ≡ true → Err Excluded ≡ whole (node_of i t)
    is-left-out x = with-tests x refl refl

    pub is-named : among i excluded ≡ false → among i before ≡ true → Err NamedBefore ≡ whole (node_of i t)
    is-named x y = with-tests x y refl

    behind-is : is_stale [] ds t p ≡ ltb (told_of i ds).max own.max
    unfolding among
    behind-is = ap (λ (j : ℕ). ltb (told_of j ds).max own.max) found_number

    module _ (x : among i excluded ≡ false) (y : among i before ≡ false) where
      pub is-level : is_stale [] ds t p ≡ false → Err UpToDate ≡ whole (node_of i t)
      is-level s = with-tests x y (le-leb own.max (told_of i ds).max (ltb-false _ _ (sym behind-is ∙ s)))

      pub is-weighed : is_stale [] ds t p ≡ true → (from : ℕ) → from ≡ from_at ds t p → (r : (Result ℕ Fault))
          → r ≡ as_line (count_fault c (stale from own.recs) (length (delta_bytes (line_at t p from c))) left) (length (delta_bytes (line_at t p from c)))
          → r ≡ whole (node_of i t)
      is-weighed s from f r g =
          g
          ∙ ap (λ (n : ℕ). as_line (count_fault c (stale n own.recs) (length (delta_bytes (line_at t p n c))) left) (length (delta_bytes (line_at t p n c)))) f
          ∙ (λ k. as_line (count_fault c (stale-is ds k) (length (delta_bytes (line-is ds c k))) left) (length (delta_bytes (line-is ds c k))))
          ∙ with-tests x y (lt-leb own.max (told_of i ds).max (ltb-true _ _ (sym behind-is ∙ s)))

  -- the node that a line names
  module _ (excluded : List ℕ) (ds : List NodeDigest) where
    named-at : named i (stale_for excluded ds t) ≡ pick (is_stale excluded ds t p) (some (stale_held ds i own)) none
    named-at =
        named-held excluded ds i t (table-facts t (valid-obeys l v)).ascending
        ∙ ap (stale_if excluded ds i) found-node
        ∙ ap (λ (j : ℕ). pick (sendable excluded ds j own) (some (stale_held ds i own)) none) (sym found_number)

    pub named-stale : is_stale excluded ds t p ≡ true → (from : ℕ) → from ≡ from_at ds t p → (c : ℕ) → line_ops c (named i (stale_for excluded ds t)) ≡ line_at t p from c
    named-stale s from f c =
        ap (line_ops c) (named-at ∙ ap (λ (b : Bool). pick b (some (stale_held ds i own)) none) s)
        ∙ sym (line-is ds c)
        ∙ ap (λ (n : ℕ). line_at t p n c) (sym f)

    pub named-level : is_stale excluded ds t p ≡ false → (c : ℕ) → line_ops c (named i (stale_for excluded ds t)) ≡ []
    named-level s c = ap (line_ops c) (named-at ∙ ap (λ (b : Bool). pick b (some (stale_held ds i own)) none) s)

-- ---- the node is not held

module _ (l : Bytes) (v : valid l ≡ true) (i j : ℕ) (e : find_node i (decode l) ≡ Free j) where
  pub is-missing : (excluded before : List ℕ) (left : ℕ) (ds : List NodeDigest) (c : ℕ)
      → Err NotHeld ≡ as_line (line_fault excluded before left ds i c (node_of i (decode l))) (line_size ds i c (node_of i (decode l)))
  is-missing excluded before left ds c =
      ap (λ (o : Option Node). as_line (line_fault excluded before left ds i c o) (line_size ds i c o)) (sym (node-missing l v i j e))

  pub named-missing : (excluded : List ℕ) (ds : List NodeDigest) (c : ℕ) → line_ops c (named i (stale_for excluded ds (decode l))) ≡ []
  named-missing excluded ds c =
      ap (line_ops c) (named-held excluded ds i (decode l) (table-facts (decode l) (valid-obeys l v)).ascending ∙ ap (stale_if excluded ds i) (node-missing l v i j e))
