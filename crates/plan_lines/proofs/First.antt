-- The first of some places in their order, one after the other; the bytes of the records at them. Assumes nothing.
use Rattle.rules.proofs.Stale.{length-by-version, stale-from, stale-length}
use native.Mathlib.Numerals.{add-one}
use Rattle.rules.specs.Node.{KeyValue, Rec}
use Prim.Native.Nat.{◌*◌, ◌+◌, ◌-◌, ◌<◌, ◌≤◌, suc, ℕ}
use mathlib.Core.Bool.{Bool, false, true}
use mathlib.Core.List.{List, [], ◌∷◌}
use mathlib.Core.Path.{◌∙◌, ◌≡◌, ap, refl, subst, sym}
use native.Mathlib.Omega.{arith}
use lib.Dec.{leb, ltb}
use lib.ListN.{drop, drop_of_length-le, get_or, length, length-append, take}
use lib.Seq.{drop-cons, length-take-le, take_all}
use borrow.Author.Tests.{le-ltb, lt-ltb, ltb-false, ltb-true}
use Rattle.fields.proofs.Choice.{in-at, pick-false, pick_true}
use Rattle.fields.specs.Blocks.{flat}
use Rattle.fields.specs.Choice.{◌∈◌, here, later, pick}
use Rattle.fields.specs.Numbers.{Bytes}
use Rattle.rules.proofs.Sending.{record_size, size-max, size-node, size-record}
use Rattle.rules.specs.Compute.{body_ops, by_version, key_value_ops, stale}
use Rattle.rules.specs.Delta.{KeyValueOp, Op, SetMaxVersionOp, delta_bytes, size_of}
use Rattle.rules.specs.Layout.{decode, decode_rec}
use Rattle.rules.specs.Table.{Table}
use Rattle.table.proofs.Tables.{length-decode}
use Rattle.table.specs.Changes.{fresh_entry}
use Rattle.table.specs.Fits.{LaidTable}
use Rattle.table.specs.Tests.{nodes_of}
use Rattle.table_read.specs.Find.{entry_at}
use Rattle.compute_stale.proofs.Arranged.{length-span, listed-first}
use Rattle.compute_stale.specs.Arranged.{listed}
use Rattle.compute_write.specs.Sending.{node_op_at, record_at}
use Rattle.plan_lines.specs.Lines.{line_at, ops_at, records_at, taken}

-- ---- places

pub next-taken : (k end : ℕ) (at : List ℕ) → end < k → take (k - end) (listed k at) ≡ get_or at (k - 1) 0 ∷ take (k - 1 - end) (listed (k - 1) at)
next-taken k end at h =
    let e : k - end ≡ suc (k - 1 - end) = omega arith in
    ap (λ (n : ℕ). take n (listed k at)) e ∙ ap (take (suc (k - 1 - end))) (listed-first k at (omega arith))

pub none-taken : (k end : ℕ) (at : List ℕ) → k ≤ end → take (k - end) (listed k at) ≡ []
none-taken k end at h = let e : k - end ≡ 0 = omega arith in ap (λ (n : ℕ). take n (listed k at)) e

pub count-taken : (count n : ℕ) (at : List ℕ) → count ≤ n → length (take count (listed n at)) ≡ count
count-taken count n at h = length-take-le count (listed n at) (subst (λ (m : ℕ). count ≤ m) (sym (length-span 0 n at)) h)

pub taken-low : (c n : ℕ) → taken c n ≤ n
taken-low c n = go (ltb c n) refl
  where
    go : (b : Bool) → ltb c n ≡ b → pick b c n ≤ n
    go true q = let h = ltb-true c n q in omega arith
    go false q = omega arith

-- so many of a list are its first
pub taken-first : {A : Type 0} (c : ℕ) (l : List A) → take (taken c (length l)) l ≡ take c l
taken-first {A} c l = go (ltb c (length l)) refl
  where
    go : (b : Bool) → ltb c (length l) ≡ b → take (pick b c (length l)) l ≡ take c l
    go true q = refl
    go false q = let h = ltb-false c (length l) q in take_all (length l) l (omega arith) ∙ sym (take_all c l h)

-- ---- bytes

pub bytes-cons : (o : Op) (os : List Op) → length (delta_bytes (o ∷ os)) ≡ size_of o + length (delta_bytes os)
unfolding delta_bytes flat size_of
bytes-cons o os = simp length-append

pub bytes-none : length (delta_bytes []) ≡ 0
unfolding delta_bytes flat
bytes-none = refl

module _ (t : Table) (p : ℕ) where
  pub next-record : (q : ℕ) (qs : List ℕ) → length (delta_bytes (records_at t p (q ∷ qs))) ≡ size_of (KeyValueOp (record_at t p q)) + length (delta_bytes (records_at t p qs))
  unfolding key_value_ops
  next-record q qs = bytes-cons (KeyValueOp (record_at t p q)) (records_at t p qs)

  pub no_record : length (delta_bytes (records_at t p [])) ≡ 0
  unfolding key_value_ops
  no_record = bytes-none

  -- a line of records
  pub some_size : (from : ℕ) (qs : List ℕ) → 0 < length qs → length (delta_bytes (ops_at t p from qs)) ≡ 25 + length (delta_bytes (records_at t p qs))
  some_size from [] h = absurd (omega arith)
  some_size from (q ∷ qs) h =
      bytes-cons (node_op_at t p from) (records_at t p (q ∷ qs)) ∙ ap (λ (n : ℕ). n + length (delta_bytes (records_at t p (q ∷ qs)))) (size-node (entry_at t p).number (entry_at t p).node.last_gc from)

  -- a line without
  pub no_size : (from : ℕ) (qs : List ℕ) → length qs ≡ 0 → length (delta_bytes (ops_at t p from qs)) ≡ 34
  no_size from [] h =
      bytes-cons (node_op_at t p from) (max ∷ [])
      ∙ (λ i. size-node (entry_at t p).number (entry_at t p).node.last_gc from i + bytes-cons max [] i)
      ∙ (λ i. 25 + (size-max (entry_at t p).node.max i + bytes-none i))
    where
      max : Op
      max = SetMaxVersionOp (entry_at t p).node.max
  no_size from (q ∷ qs) h = absurd (omega arith)

-- the operations of records at the first places
module _ (t : Table) (p k end : ℕ) (at : List ℕ) where
  pub next-op : end < k
      → records_at t p (take (k - end) (listed k at)) ≡ KeyValueOp (record_at t p (get_or at (k - 1) 0)) ∷ records_at t p (take (k - 1 - end) (listed (k - 1) at))
  unfolding key_value_ops
  next-op h = ap (records_at t p) (next-taken k end at h)

  pub no-op : k ≤ end → records_at t p (take (k - end) (listed k at)) ≡ []
  unfolding key_value_ops
  no-op h = ap (records_at t p) (none-taken k end at h)

-- a record of a table that is laid out takes at most 110 bytes
pub record-low : (l : Bytes) → LaidTable l → (p : ℕ) → p < nodes_of l → (q : ℕ) → q < length (entry_at (decode l) p).node.recs → size_of (KeyValueOp (record_at (decode l) p q)) ≤ 110
record-low l o p h q g =
    let e = o.fits.each (entry_at (decode l) p) (in-at (decode l) p (fresh_entry 0) (rw length-decode h)) in
    let r = e.each _ (in-at (entry_at (decode l) p).node.recs q (decode_rec []) g) in
    let a = r.key_fits in
    let b = r.value-fits in
    subst (λ (n : ℕ). n ≤ 110) (sym (size-record (record_at (decode l) p q))) (omega arith)

-- ---- all of a node's stale records, in any order

bytes-by-version : (s : KeyValue) (l : List KeyValue)
    → length (delta_bytes (key_value_ops (by_version s l))) ≡ size_of (KeyValueOp s) + length (delta_bytes (key_value_ops l))
unfolding by_version key_value_ops
bytes-by-version s [] = bytes-cons (KeyValueOp s) []
bytes-by-version s (a ∷ l) = go (leb s.version a.version) (bytes-by-version s l)
  where
    go : (b : Bool) → length (delta_bytes (key_value_ops (by_version s l))) ≡ size_of (KeyValueOp s) + length (delta_bytes (key_value_ops l))
        → length (delta_bytes (key_value_ops (pick b (s ∷ a ∷ l) (a ∷ by_version s l)))) ≡ size_of (KeyValueOp s) + length (delta_bytes (KeyValueOp a ∷ key_value_ops l))
    go true h = bytes-cons (KeyValueOp s) (KeyValueOp a ∷ key_value_ops l)
    go false h =
        let x = bytes-cons (KeyValueOp a) (key_value_ops (by_version s l)) in
        let y = bytes-cons (KeyValueOp a) (key_value_ops l) in
        omega arith

-- of the records from i on, so many are stale, in so many bytes
abbrev pub many_from : (from i : ℕ) (recs : List Rec) → ℕ
many_from from i recs = length (stale from (drop i recs))

abbrev pub bytes_from : (from i : ℕ) (recs : List Rec) → ℕ
bytes_from from i recs = length (delta_bytes (key_value_ops (stale from (drop i recs))))

module _ (from i : ℕ) (recs : List Rec) (h : i < length recs) where
  abbrev kv : KeyValue
  kv = (get_or recs i (decode_rec [])).kv

  here-first : stale from (drop i recs) ≡ pick (ltb from kv.version) (by_version kv (stale from (drop (i + 1) recs))) (stale from (drop (i + 1) recs))
  unfolding stale
  here-first = ap (stale from) (drop-cons recs i (decode_rec []) h) ∙ rw add-one refl

  pub is-above : from < kv.version → (many_from from i recs ≡ suc (many_from from (i + 1) recs)) × (bytes_from from i recs ≡ size_of (KeyValueOp kv) + bytes_from from (i + 1) recs)
  is-above g =
      let e : stale from (drop i recs) ≡ by_version kv (stale from (drop (i + 1) recs)) = here-first ∙ pick_true (ltb from kv.version) _ _ (lt-ltb from kv.version g) in (
        ap length e ∙ length-by-version kv (stale from (drop (i + 1) recs)),
        ap (λ (kvs : List KeyValue). length (delta_bytes (key_value_ops kvs))) e ∙ bytes-by-version kv (stale from (drop (i + 1) recs)),
      )

  pub is_below : kv.version ≤ from → (many_from from i recs ≡ many_from from (i + 1) recs) × (bytes_from from i recs ≡ bytes_from from (i + 1) recs)
  is_below g =
      let e : stale from (drop i recs) ≡ stale from (drop (i + 1) recs) = here-first ∙ pick-false (ltb from kv.version) _ _ (le-ltb from kv.version g) in
      (ap length e, ap (λ (kvs : List KeyValue). length (delta_bytes (key_value_ops kvs))) e)

pub none_from : (from i : ℕ) (recs : List Rec) → length recs ≤ i → (many_from from i recs ≡ 0) × (bytes_from from i recs ≡ 0)
unfolding stale key_value_ops
none_from from i recs h =
    let e = drop_of_length-le recs {i = i} h in
    (ap (λ (l : List Rec). length (stale from l)) e, ap (λ (l : List Rec). length (delta_bytes (key_value_ops (stale from l)))) e ∙ bytes-none)

-- a line of all of them
pub all-size : (t : Table) (p from count : ℕ) → let all : List KeyValue = stale from (entry_at t p).node.recs in
    0 < count → count ≡ length all → 25 + length (delta_bytes (key_value_ops all)) ≡ length (delta_bytes (line_at t p from count))
all-size t p from count h e = go (stale from (entry_at t p).node.recs) e
  where
    own : ℕ
    own = (entry_at t p).node.max

    go : (all : List KeyValue) → count ≡ length all → 25 + length (delta_bytes (key_value_ops all)) ≡ length (delta_bytes (node_op_at t p from ∷ body_ops own (take count all)))
    go [] e = absurd (omega arith)
    go (a ∷ l) e =
        let whole : take count (a ∷ l) ≡ a ∷ l = take_all count (a ∷ l) (omega arith) in
        let x = bytes-cons (node_op_at t p from) (key_value_ops (a ∷ l)) in
        let y = size-node (entry_at t p).number (entry_at t p).node.last_gc from in
        let z : length (delta_bytes (node_op_at t p from ∷ body_ops own (take count (a ∷ l)))) ≡ length (delta_bytes (node_op_at t p from ∷ key_value_ops (a ∷ l))) =
        ap (λ (kvs : List KeyValue). length (delta_bytes (node_op_at t p from ∷ body_ops own kvs))) whole in
        omega (arith, x, y, z)

-- the stale records of a node of a table that is laid out take at most 110 bytes each
ops-most : (kvs : List KeyValue) → ((r : KeyValue) → r ∈ kvs → record_size r ≤ 110) → length (delta_bytes (key_value_ops kvs)) ≤ 110 * length kvs
unfolding key_value_ops
ops-most [] f = let z = bytes-none in omega arith
ops-most (r ∷ rs) f =
    let a = bytes-cons (KeyValueOp r) (key_value_ops rs) in
    let b = size-record r in
    let c = f r (here refl) in
    let d = ops-most rs (λ x m. f x (later m)) in
    omega arith

pub all-low : (l : Bytes) → LaidTable l → (p : ℕ) → p < nodes_of l → (from : ℕ) → length (delta_bytes (key_value_ops (stale from (entry_at (decode l) p).node.recs))) ≤ 3520
all-low l o p h from =
    let e = o.fits.each (entry_at (decode l) p) (in-at (decode l) p (fresh_entry 0) (rw length-decode h)) in
    let kvs : List KeyValue = stale from (entry_at (decode l) p).node.recs in
    let small : (r : KeyValue) → r ∈ kvs → record_size r ≤ 110 =
    λ r m.
    let y = stale-from from (entry_at (decode l) p).node.recs m in
    let k = e.each y.0 y.1 in
    let a = k.key_fits in
    let b = k.value-fits in
    subst (λ (x : KeyValue). record_size x ≤ 110) y.2 (omega arith) in
    let most = ops-most kvs small in
    let few = stale-length from (entry_at (decode l) p).node.recs in
    let n = e.few in
    omega (arith, most, few, n)
