-- The entries of a table's digest, one node after the other: an excluded node is passed over, any other tells an entry. And the
-- entry as its four numbers, written from left to right. Assumes nothing.
use Prim.Native.Nat.{ℕ, suc, ◌+◌, ◌*◌, ◌<◌, ◌≤◌}
use mathlib.Core.Path.{◌≡◌, ◌∙◌, ap, refl, sym}
use mathlib.Core.Bool.{Bool, true, false}
use mathlib.Core.List.{List, [], ◌∷◌, ◌++◌, append_assoc}
use native.Mathlib.Omega.{arith}
use native.Mathlib.Numerals.{add-one}
use lib.ListN.{length, drop, length-append, drop_of_length-le}
use Rattle.fields.specs.Blocks.{flat}
use Rattle.fields.specs.Choice.{pick}
use Rattle.fields.specs.Numbers.{Bytes, bytes_of, nat_of}
use Rattle.fields.specs.Parts.{part, put}
use Rattle.fields.proofs.Blocks.{length-flat}
use Rattle.fields.proofs.Numbers.{length-bytes_of}
use Rattle.fields.proofs.Parts.{length_part, length-put, put-behind, put-field, put-nil}
use Rattle.rules.specs.Delta.{number_width}
use Rattle.rules.specs.Digest.{NodeDigest, digest_of, digest_of_node, entry_bytes, entry_width}
use Rattle.rules.specs.Layout.{node_place, decode, decode_node, node_width, table_width}
use Rattle.rules.specs.Sizes.{max_nodes}
use Rattle.rules.specs.Table.{among}
use Rattle.rules.proofs.Digests.{entry-long}
use Rattle.table.specs.Tests.{nodes_of}
use Rattle.table.proofs.Places.{decode-drop, node_at, node_bytes}
use Rattle.table.proofs.Tables.{length-decode}

-- ---- the nodes of a table, of which i are passed

pub node-long : (i : ℕ) (l : List ℕ) → length l ≡ table_width → i < max_nodes → length (node_bytes i l) ≡ node_width
node-long i l e h = length_part (node_place i) node_width l (omega arith)

-- the number that stands in a node's bytes
pub number_is : (i n : ℕ) (l b : List ℕ) → n ≡ nat_of (part 0 number_width b) → b ≡ node_bytes i l → n ≡ (node_at i l).number
unfolding decode_node
number_is i n l b p q = p ∙ ap (λ (x : List ℕ). nat_of (part 0 number_width x)) q

-- whether node i is excluded, by the entry that was read of it
pub asked : (i : ℕ) (l excluded b : List ℕ) (x : NodeDigest) (t u : Bool) → x ≡ digest_of_node (decode_node b) → b ≡ node_bytes i l → t ≡ among x.number excluded → t ≡ u
    → among (node_at i l).number excluded ≡ u
asked i l excluded b x t u e q is v =
    ap (λ (y : NodeDigest). among y.number excluded) (sym (e ∙ ap (λ (z : List ℕ). digest_of_node (decode_node z)) q)) ∙ sym is ∙ v

-- what the digest tells of the others
abbrev pub digest_from : (i : ℕ) (excluded : List ℕ) (table : Bytes) → List NodeDigest
digest_from i excluded l = digest_of excluded (drop i (decode l))

module _ (excluded l : List ℕ) (i : ℕ) where
  pub none_left : nodes_of l ≤ i → digest_from i excluded l ≡ []
  unfolding digest_of
  none_left h = ap (digest_of excluded) (drop_of_length-le (decode l) {i = i} (let k = length-decode l in omega arith))

  module _ (h : i < nodes_of l) where
    one : digest_from i excluded l
        ≡ pick (among (node_at i l).number excluded) (digest_from (i + 1) excluded l) (digest_of_node (node_at i l) ∷ digest_from (i + 1) excluded l)
    unfolding digest_of
    one = ap (digest_of excluded) (decode-drop i l h) ∙ rw add-one refl

    pub passed_over : among (node_at i l).number excluded ≡ true → digest_from i excluded l ≡ digest_from (i + 1) excluded l
    passed_over e = one ∙ rw e refl

    pub tells : among (node_at i l).number excluded ≡ false → digest_from i excluded l ≡ digest_of_node (node_at i l) ∷ digest_from (i + 1) excluded l
    tells e = one ∙ rw e refl

-- ---- bytes

pub entries-long : (ds : List NodeDigest) → length (flat entry_bytes ds) ≡ length ds * entry_width
entries-long ds = length-flat entry_bytes entry_width entry-long ds

-- an entry put, and the others behind it
pub put-entry : (at : ℕ) (x : NodeDigest) (ds : List NodeDigest) (d : List ℕ) → at + (entry_width + length ds * entry_width) ≤ length d
    → put (at + entry_width) (flat entry_bytes ds) (put at (entry_bytes x) d) ≡ put at (flat entry_bytes (x ∷ ds)) d
unfolding flat
put-entry at x ds d h =
    let e = entry-long x in
    let g = entries-long ds in
    let k : at + entry_width ≡ at + length (entry_bytes x) = omega arith in
    ap (λ (n : ℕ). put n (flat entry_bytes ds) (put at (entry_bytes x) d)) k ∙ put-behind at (entry_bytes x) (flat entry_bytes ds) d (omega arith)

pub entry-fields : (x : NodeDigest) (l a b c d : Bytes) → entry_width ≤ length l → a ≡ put 0 (bytes_of number_width x.number) l
    → b ≡ put number_width (bytes_of number_width x.heartbeat.0) a → c ≡ put (2 * number_width) (bytes_of number_width x.last_gc) b
    → d ≡ put (3 * number_width) (bytes_of number_width x.max) c → d ≡ put 0 (entry_bytes x) l
unfolding entry_bytes
entry-fields x l a b c d h p q r s =
    let N : Bytes = bytes_of number_width x.number in
    let H : Bytes = bytes_of number_width x.heartbeat.0 in
    let G : Bytes = bytes_of number_width x.last_gc in
    let M : Bytes = bytes_of number_width x.max in
    let y : b ≡ put 0 (N ++ H) l = put-field _ N H l a b (length-bytes_of number_width x.number) (simp length-bytes_of (omega arith)) p q in
    let z : c ≡ put 0 ((N ++ H) ++ G) l = put-field _ (N ++ H) G l b c (simp (length-append, length-bytes_of)) (simp length-bytes_of (omega arith)) y r in
    let w : d ≡ put 0 (((N ++ H) ++ G) ++ M) l =
    put-field _ ((N ++ H) ++ G) M l c d (simp (length-append, length-bytes_of)) (simp length-bytes_of (omega arith)) z s in
    w ∙ ap (λ (v : Bytes). put 0 v l) (simp append_assoc)

-- ---- what the loop of the writer keeps: d was e at first, and the entries from node i on go to `at`

pub record Writes (excluded l e : List ℕ) (at i : ℕ) (d : List ℕ) : Type 0 where
  pub same : length d ≡ length e
  pub room : at + length (digest_from i excluded l) * entry_width ≤ length d
  pub rest : put at (flat entry_bytes (digest_from i excluded l)) d ≡ put 0 (flat entry_bytes (digest_of excluded (decode l))) e

module _ (excluded l e : List ℕ) where
  module _ (at i : ℕ) (d : List ℕ) (w : Writes excluded l e at i d) where
    pub writes-past : i < nodes_of l → among (node_at i l).number excluded ≡ true → Writes excluded l e at (i + 1) d
    writes-past h t =
        let p = passed_over excluded l i h t in
        record {
          same = w.same;
          room = rw p at w.room;
          rest = ap (λ (ds : List NodeDigest). put at (flat entry_bytes ds) d) (sym p) ∙ w.rest;
        }

    pub writes-room : i < nodes_of l → among (node_at i l).number excluded ≡ false → at + entry_width ≤ length d
    writes-room h t =
        let k = ap length (tells excluded l i h t) in
        let g = w.room in
        omega arith

    pub writes-next : (x : NodeDigest) (a : Bytes) → i < nodes_of l → among (node_at i l).number excluded ≡ false → x ≡ digest_of_node (node_at i l)
        → a ≡ put at (entry_bytes x) d → Writes excluded l e (at + entry_width) (i + 1) a
    writes-next x a h t q r =
        let p : digest_from i excluded l ≡ x ∷ digest_from (i + 1) excluded l =
        tells excluded l i h t ∙ ap (λ (y : NodeDigest). y ∷ digest_from (i + 1) excluded l) (sym q) in
        let k : length (digest_from i excluded l) ≡ suc (length (digest_from (i + 1) excluded l)) = ap length p in
        let v = entry-long x in
        let g = w.room in
        let n : length a ≡ length d = ap length r ∙ length-put at (entry_bytes x) d (omega arith) in
        record {
          same = n ∙ w.same;
          room = omega arith;
          rest =
              ap (put (at + entry_width) (flat entry_bytes (digest_from (i + 1) excluded l))) r
              ∙ put-entry at x (digest_from (i + 1) excluded l) d (omega arith)
              ∙ ap (λ (ds : List NodeDigest). put at (flat entry_bytes ds) d) (sym p)
              ∙ w.rest;
        }

    pub writes-all : nodes_of l ≤ i → d ≡ put 0 (flat entry_bytes (digest_of excluded (decode l))) e
    unfolding flat
    writes-all h = sym (put-nil at d) ∙ ap (λ (ds : List NodeDigest). put at (flat entry_bytes ds) d) (sym (none_left excluded l i h)) ∙ w.rest

-- ---- what the loop of the counter keeps

pub record Counts (excluded l : List ℕ) (count i : ℕ) : Type 0 where
  pub few : count ≤ i
  pub rest : count + length (digest_from i excluded l) ≡ length (digest_of excluded (decode l))

module _ (excluded l : List ℕ) where
  module _ (count i : ℕ) (w : Counts excluded l count i) where
    pub counts_past : i < nodes_of l → among (node_at i l).number excluded ≡ true → Counts excluded l count (i + 1)
    counts_past h t =
        let p = ap length (passed_over excluded l i h t) in
        let f = w.few in
        let r = w.rest in
        record { few = omega arith; rest = omega arith }

    pub counts-next : i < nodes_of l → among (node_at i l).number excluded ≡ false → Counts excluded l (count + 1) (i + 1)
    counts-next h t =
        let p = ap length (tells excluded l i h t) in
        let f = w.few in
        let r = w.rest in
        record { few = omega arith; rest = omega arith }

    pub counts_all : nodes_of l ≤ i → count ≡ length (digest_of excluded (decode l))
    counts_all h = let p = ap length (none_left excluded l i h) in let r = w.rest in omega arith
