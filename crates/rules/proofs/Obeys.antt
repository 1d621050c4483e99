-- The table rules as facts: what `obeys` tests is what these records say, and the other way round. Assumes nothing.
-- ---- numbers in a list
use Prim.Native.Nat.{◌+◌, ◌<◌, ◌≤◌, max, suc, ℕ}
use mathlib.Core.Bool.{Bool, ◌&&◌, false, false≢true, not, true, true≢false}
use mathlib.Core.List.{List, [], ◌∷◌}
use mathlib.Core.Logic.{◌⊎◌, inl, inr}
use mathlib.Core.Path.{◌∙◌, ◌≡◌, ap, refl, subst, sym}
use native.Mathlib.Numerals.{add-one}
use native.Mathlib.Omega.{arith}
use lib.Dec.{eqb, leb, ltb}
use lib.ListN.{drop, get_or, length, length-drop}
use lib.Seq.{drop-cons}
use borrow.Author.Tests.{eq-eqb, eqb-true, le-leb, leb-true, lt-ltb, ltb-true}
use Rattle.fields.proofs.Choice.{all_from, all_in, and_intro, and_left, and_right, every-at, in-cons, in-none}
use Rattle.fields.proofs.Ordered.{less-trans}
use Rattle.fields.specs.Choice.{◌∈◌, all, here, later, pick}
use Rattle.fields.specs.Order.{less_bytes}
use Rattle.rules.proofs.Next.{Differ, version_of}
use Rattle.rules.proofs.Records.{Above, Sorted, key_of}
use Rattle.rules.specs.Node.{Node, Rec}
use Rattle.rules.specs.Sizes.{max_key, max_nodes, max_records, max_value, numbers}
use Rattle.rules.specs.Table.{Entry, Table, among, differ, entry_obeys, keys_rise, node_obeys, numbers_of, obeys, rec_obeys, rising, versions}

pub among_in : (i : ℕ) (l : List ℕ) → among i l ≡ true → i ∈ l
unfolding among
among_in i [] e = absurd (false≢true e)
among_in i (n ∷ l) e = go (eqb i n) refl e (among_in i l)
  where
    go : (b : Bool) → eqb i n ≡ b → pick b true (among i l) ≡ true → (among i l ≡ true → i ∈ l) → i ∈ n ∷ l
    go true q e ih = here (eqb-true _ _ q)
    go false q e ih = later (ih e)

pub in-among : {i : ℕ} {l : List ℕ} → i ∈ l → among i l ≡ true
unfolding among
in-among {i} (here {a = n} {l = l} e) = rw (eq-eqb i n e)
in-among {i} (later {a = n} {l = l} m) = go (eqb i n) (in-among m)
  where
    go : (b : Bool) → among i l ≡ true → pick b true (among i l) ≡ true
    go true ih = refl
    go false ih = ih

pub among-not : (i : ℕ) (l : List ℕ) → among i l ≡ false → i ∈ l → ⊥
among-not i l e m = true≢false (sym (in-among m) ∙ e)

pub not-among : (i : ℕ) (l : List ℕ) → (i ∈ l → ⊥) → among i l ≡ false
not-among i l f = go (among i l) refl
  where
    go : (b : Bool) → among i l ≡ b → b ≡ false
    go true e = absurd (f (among_in i l e))
    go false e = refl

-- an entry's number is one of the table's
pub number_in : {e : Entry} {t : Table} → e ∈ t → e.number ∈ numbers_of t
unfolding numbers_of
number_in (here q) = here (ap (λ (y : Entry). y.number) q)
number_in (later m) = later (number_in m)

-- strictly ascending: each below all behind it
unfoldable pub Ascending : List ℕ → Type 0
Ascending [] = Unit {0}
Ascending (a ∷ l) = ((x : ℕ) → x ∈ l → a < x) × Ascending l

pub rising-asc : (l : List ℕ) → rising l ≡ true → Ascending l
unfolding rising Ascending
rising-asc [] e = tt
rising-asc (a ∷ []) e = (λ x m. absurd (in-none m), tt)
rising-asc (a ∷ b ∷ l) e = up (rising-asc (b ∷ l) (and_right (ltb a b) (rising (b ∷ l)) e))
  where
    low : a < b
    low = ltb-true _ _ (and_left (ltb a b) (rising (b ∷ l)) e)

    up : ((x : ℕ) → x ∈ l → b < x) × Ascending l → ((x : ℕ) → x ∈ b ∷ l → a < x) × (((x : ℕ) → x ∈ l → b < x) × Ascending l)
    up s = (λ x m. at x (in-cons m), s)
      where
        at : (x : ℕ) → (x ≡ b) ⊎ (x ∈ l) → a < x
        at x (inl q) = let h = low in omega arith
        at x (inr m) = let h = low in let g = s.0 x m in omega arith

pub asc-rising : (l : List ℕ) → Ascending l → rising l ≡ true
unfolding rising Ascending
asc-rising [] s = refl
asc-rising (a ∷ []) s = refl
asc-rising (a ∷ b ∷ l) s = and_intro (ltb a b) (rising (b ∷ l)) (lt-ltb _ _ (s.0 b (here refl))) (asc-rising (b ∷ l) s.1)

-- a loop along the numbers, with i of them passed: the next two decide, and where one is left all are passed
pub rising-turn : (l : List ℕ) (i x y : ℕ) → i + 1 < length l → x ≡ get_or l i 0 → y ≡ get_or l (i + 1) 0
    → rising (drop i l) ≡ (ltb x y && rising (drop (i + 1) l))
unfolding rising
rising-turn l i x y h p q =
    let e : y ≡ get_or l (suc i) 0 = q ∙ ap (λ (k : ℕ). get_or l k 0) (add-one i) in
    rw (add-one i, drop-cons l i 0 (omega arith), drop-cons l (suc i) 0 (omega arith), p, e)

pub rising-last : (l : List ℕ) (i : ℕ) → length l ≤ i + 1 → rising (drop i l) ≡ true
unfolding rising
rising-last l i h = short (drop i l) (rw length-drop (omega arith))
  where
    short : (l : List ℕ) → length l ≤ 1 → rising l ≡ true
    short [] h = refl
    short (a ∷ []) h = refl
    short (a ∷ b ∷ l) h = absurd (omega arith)

-- ---- keys and versions of records

pub keys-sorted : (l : List Rec) → keys_rise l ≡ true → Sorted l
unfolding keys_rise Sorted Above
keys-sorted [] e = tt
keys-sorted (a ∷ []) e = (λ x m. absurd (in-none m), tt)
keys-sorted (a ∷ b ∷ l) e = up (keys-sorted (b ∷ l) (and_right (less_bytes (key_of a) (key_of b)) (keys_rise (b ∷ l)) e))
  where
    low : less_bytes (key_of a) (key_of b) ≡ true
    low = and_left (less_bytes (key_of a) (key_of b)) (keys_rise (b ∷ l)) e

    up : Sorted (b ∷ l) → Sorted (a ∷ b ∷ l)
    up s = (λ x m. at x (in-cons m), s)
      where
        at : (x : Rec) → (x ≡ b) ⊎ (x ∈ l) → less_bytes (key_of a) (key_of x) ≡ true
        at x (inl q) = ap (λ (y : Rec). less_bytes (key_of a) (key_of y)) q ∙ low
        at x (inr m) = less-trans _ _ _ low (s.0 x m)

pub sorted-keys : (l : List Rec) → Sorted l → keys_rise l ≡ true
unfolding keys_rise Sorted Above
sorted-keys [] s = refl
sorted-keys (a ∷ []) s = refl
sorted-keys (a ∷ b ∷ l) s = and_intro (less_bytes (key_of a) (key_of b)) (keys_rise (b ∷ l)) (s.0 b (here refl)) (sorted-keys (b ∷ l) s.1)

pub version-in : {r : Rec} {l : List Rec} → r ∈ l → version_of r ∈ versions l
unfolding versions
version-in (here e) = here (ap version_of e)
version-in (later m) = later (version-in m)

pub in-version : (l : List Rec) {v : ℕ} → v ∈ versions l → (r : Rec) × (r ∈ l) × (version_of r ≡ v)
unfolding versions
in-version [] m = absurd (in-none m)
in-version (a ∷ l) {v} m = go (in-cons m) (in-version l)
  where
    up : (r : Rec) × (r ∈ l) × (version_of r ≡ v) → (r : Rec) × (r ∈ a ∷ l) × (version_of r ≡ v)
    up x = (x.0, later x.1, x.2)

    go : (v ≡ version_of a) ⊎ (v ∈ versions l) → (v ∈ versions l → (r : Rec) × (r ∈ l) × (version_of r ≡ v)) → (r : Rec) × (r ∈ a ∷ l) × (version_of r ≡ v)
    go (inl e) ih = (a, here refl, sym e)
    go (inr n) ih = up (ih n)

not-true : (b : Bool) → not b ≡ true → b ≡ false
not-true true e = absurd (false≢true e)
not-true false e = refl

pub differ-facts : (l : List Rec) → differ (versions l) ≡ true → Differ l
unfolding differ versions Differ
differ-facts [] e = tt
differ-facts (a ∷ l) e = (
  λ x m q. among-not (version_of a) (versions l) (not-true _ (and_left _ (differ (versions l)) e)) (subst (λ (v : ℕ). v ∈ versions l) q (version-in m)),
  differ-facts l (and_right (not (among (version_of a) (versions l))) (differ (versions l)) e),
)

pub facts-differ : (l : List Rec) → Differ l → differ (versions l) ≡ true
unfolding differ versions Differ
facts-differ [] d = refl
facts-differ (a ∷ l) d =
    and_intro (not (among (version_of a) (versions l))) (differ (versions l))
    (ap not (not-among (version_of a) (versions l) (λ m. let x = in-version l m in d.0 x.0 x.1 x.2)))
    (facts-differ l d.1)

-- ---- the rules

pub record OkRec (max : ℕ) (r : Rec) : Type 0 where
  pub key_fits : length r.kv.key ≤ max_key
  pub value-fits : length r.kv.value ≤ max_value
  pub version_low : 1 ≤ r.kv.version
  pub version_high : r.kv.version ≤ max
  pub start_fits : r.start < numbers

pub record OkNode (n : Node) : Type 0 where
  pub few : length n.recs ≤ max_records
  pub each : (r : Rec) → r ∈ n.recs → OkRec n.max r
  pub sorted : Sorted n.recs
  pub differs : Differ n.recs
  pub max-fits : n.max < numbers
  pub gc_fits : n.last_gc < numbers
  pub beat_fits : n.heartbeat.0 < numbers

pub record OkEntry (e : Entry) : Type 0 where
  pub number_fits : e.number < numbers
  pub node_ok : OkNode e.node

pub record OkTable (t : Table) : Type 0 where
  pub few : length t ≤ max_nodes
  pub ascending : Ascending (numbers_of t)
  pub each : (e : Entry) → e ∈ t → OkEntry e

pub rec-facts : (max : ℕ) (r : Rec) → rec_obeys max r ≡ true → OkRec max r
unfolding rec_obeys
rec-facts max r e =
    let at = every-at (leb (length r.kv.key) max_key ∷ leb (length r.kv.value) max_value ∷ leb 1 r.kv.version ∷ leb r.kv.version max ∷ ltb r.start numbers ∷ []) e in
    record {
      key_fits = leb-true _ _ (at 0);
      value-fits = leb-true _ _ (at 1);
      version_low = leb-true _ _ (at 2);
      version_high = leb-true _ _ (at 3);
      start_fits = ltb-true _ _ (at 4);
    }

pub facts-rec : (max : ℕ) (r : Rec) → OkRec max r → rec_obeys max r ≡ true
unfolding rec_obeys
facts-rec max r o =
    rw (le-leb _ _ o.key_fits, le-leb _ _ o.value-fits, le-leb _ _ o.version_low, le-leb _ _ o.version_high, lt-ltb _ _ o.start_fits)

pub node-facts : (n : Node) → node_obeys n ≡ true → OkNode n
unfolding node_obeys
node-facts n e =
    let at =
    every-at
    (leb (length n.recs) max_records
    ∷ all (rec_obeys n.max) n.recs
    ∷ keys_rise n.recs
    ∷ differ (versions n.recs)
    ∷ ltb n.max numbers
    ∷ ltb n.last_gc numbers
    ∷ ltb n.heartbeat.0 numbers
    ∷ []) e in
    record {
      few = leb-true _ _ (at 0);
      each = λ r m. rec-facts n.max r (all_from (rec_obeys n.max) n.recs (at 1) r m);
      sorted = keys-sorted n.recs (at 2);
      differs = differ-facts n.recs (at 3);
      max-fits = ltb-true _ _ (at 4);
      gc_fits = ltb-true _ _ (at 5);
      beat_fits = ltb-true _ _ (at 6);
    }

pub facts-node : (n : Node) → OkNode n → node_obeys n ≡ true
unfolding node_obeys
facts-node n o =
    rw (
      le-leb _ _ o.few,
      all_in (rec_obeys n.max) n.recs (λ r m. facts-rec n.max r (o.each r m)),
      sorted-keys n.recs o.sorted,
      facts-differ n.recs o.differs,
      lt-ltb _ _ o.max-fits,
      lt-ltb _ _ o.gc_fits,
      lt-ltb _ _ o.beat_fits,
    )

pub entry-facts : (e : Entry) → entry_obeys e ≡ true → OkEntry e
unfolding entry_obeys
entry-facts e q =
    record {
      number_fits = ltb-true _ _ (and_left (ltb e.number numbers) (node_obeys e.node) q);
      node_ok = node-facts e.node (and_right (ltb e.number numbers) (node_obeys e.node) q);
    }

pub facts-entry : (e : Entry) → OkEntry e → entry_obeys e ≡ true
unfolding entry_obeys
facts-entry e o = and_intro (ltb e.number numbers) (node_obeys e.node) (lt-ltb _ _ o.number_fits) (facts-node e.node o.node_ok)

pub table-facts : (t : Table) → obeys t ≡ true → OkTable t
unfolding obeys
table-facts t e =
    let at = every-at (leb (length t) max_nodes ∷ rising (numbers_of t) ∷ all entry_obeys t ∷ []) e in
    record {
      few = leb-true _ _ (at 0);
      ascending = rising-asc (numbers_of t) (at 1);
      each = λ x m. entry-facts x (all_from entry_obeys t (at 2) x m);
    }

pub facts-table : (t : Table) → OkTable t → obeys t ≡ true
unfolding obeys
facts-table t o =
    rw (le-leb _ _ o.few, asc-rising (numbers_of t) o.ascending, all_in entry_obeys t (λ x m. facts-entry x (o.each x m)))
