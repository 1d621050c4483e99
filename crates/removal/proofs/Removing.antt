-- A removal that stands at record j of a node, or at node i of a table: what is in front is done, and the rule does the rest. One step on leaves the
-- same whole, whether the record goes or stays, and at the end only the places that fell free are left to clear. What a removal leaves fits into the
-- layout. Assumes nothing.
use Prim.Native.Nat.{ℕ, suc, ◌+◌, ◌*◌, ◌-◌, ◌≤◌, ◌<◌, max}
use mathlib.Core.Path.{◌≡◌, refl, ap, ap₂, sym, ◌∙◌, subst}
use mathlib.Core.Bool.{Bool, true, false, not}
use mathlib.Core.List.{List, [], ◌∷◌, ◌++◌, append-nil, append_assoc}
use mathlib.Core.Logic.{⊎_elim}
use native.Mathlib.Omega.{arith}
use native.Mathlib.Nat.{add-mul, add-zero}
use native.Mathlib.Numerals.{add-one}
use lib.ListN.{length, get_or, set, take, drop, length-take, length-drop, length-set, take-append-drop, drop_of_length-le}
use lib.Seq.{length-take-le, take_all, drop-cons, set_split, take-suc-set, drop-set-lt}
use Rattle.fields.specs.Choice.{pick, keep, ◌∈◌}
use Rattle.fields.specs.Numbers.{bytes_of}
use Rattle.fields.specs.Parts.{part, put}
use Rattle.fields.specs.Blocks.{zeros, flat, blocks}
use Rattle.fields.specs.Widths.{joined, offset}
use Rattle.fields.proofs.Choice.{in-append, in-cons, in_take, in-drop, keep-from}
use Rattle.fields.proofs.Numbers.{length-bytes_of}
use Rattle.fields.proofs.Parts.{put-at}
use Rattle.fields.proofs.Blocks.{length-zeros, zeros-add, length-flat, length-flat-take, blocks_is, blocks-two, length-blocks, block}
use Rattle.fields.proofs.Widths.{field-set, field_put, widths-set}
use Rattle.rules.specs.Sizes.{max_records, numbers, top}
use Rattle.rules.specs.Node.{Rec, goes, last_gc_of, remove, due}
use Rattle.rules.specs.Table.{Entry, Table}
use Rattle.rules.specs.Layout.{rec_place, node_place, rec_width, node_widths, node_fields, encode_rec, encode_node, decode_node, encode, decode}
use Rattle.rules.proofs.Records.{gc-below}
use Rattle.rules.proofs.Keeps.{length-keep}
use Rattle.table.specs.Tests.{count_of, nodes_of, recs_in}
use Rattle.table.specs.Fits.{FitsRec, FitsEntry, FitsTable, LaidNode, LaidTable}
use Rattle.table.specs.Changes.{with_node, with_recs, with_rec_at}
use Rattle.table.proofs.Records.{length-rec}
use Rattle.table.proofs.Nodes.{node-widths, decode-encode-node, laid-node}
use Rattle.table.proofs.Tables.{length-decode, read_back, laid_table}
use Rattle.table.proofs.Places.{rec_bytes, rec_at, recs-drop, recs-at, length-recs, node_at, decode-at}
use Rattle.table.proofs.Areas.{part_in}
use Rattle.table.proofs.Changed.{table-set}
use Rattle.table.proofs.Laid.{laid-rec, laid-at}
use Rattle.table_write.proofs.Steps.{put-steps}
use Rattle.removal.specs.Removals.{due_within, first_going, with_gone, with_first, removed, remove_within}

-- ---- the records of a node

-- record j is looked at, and those that stay stand in the first k places: the rest is done by the rule
abbrev pub done_from : (due : Rec → Bool) (k j : ℕ) (entry : Entry) → Entry
done_from due k j e =
    with_node
    (record {
      heartbeat = e.node.heartbeat;
      max = e.node.max;
      last_gc = last_gc_of due e.node.last_gc (drop j e.node.recs);
      recs = take k e.node.recs ++ keep (λ r. not (goes due r)) (drop j e.node.recs);
    })
    e

-- none goes in front of the first that does
pub first-few : (due : Rec → Bool) (l : List Rec) → first_going due l ≤ length l
unfolding first_going
first-few due [] = omega arith
first-few due (a ∷ l) = by (goes due a) (first-few due l)
  where
    by : (t : Bool) → first_going due l ≤ length l → pick t 0 (suc (first_going due l)) ≤ suc (length l)
    by true h = omega arith
    by false h = omega arith

first-gc : (due : Rec → Bool) (g : ℕ) (l : List Rec) → last_gc_of due g (drop (first_going due l) l) ≡ last_gc_of due g l
unfolding first_going last_gc_of
first-gc due g [] = refl
first-gc due g (a ∷ l) = by (goes due a) refl (first-gc due g l)
  where
    by : (t : Bool) → goes due a ≡ t → last_gc_of due g (drop (first_going due l) l) ≡ last_gc_of due g l
        → last_gc_of due g (drop (pick (goes due a) 0 (suc (first_going due l))) (a ∷ l)) ≡ last_gc_of due g (a ∷ l)
    by true s h = ap (λ (t : Bool). last_gc_of due g (drop (pick t 0 (suc (first_going due l))) (a ∷ l))) s
    by false s h =
        ap (λ (t : Bool). last_gc_of due g (drop (pick t 0 (suc (first_going due l))) (a ∷ l))) s
        ∙ h
        ∙ sym (ap (λ (t : Bool). last_gc_of due (pick t (max g a.kv.version) g) l) s)

-- the records as they are left, if the first k stay and the rule does the rest
abbrev left_from : (due : Rec → Bool) (k : ℕ) (recs : List Rec) → List Rec
left_from due k l = take k l ++ keep (λ r. not (goes due r)) (drop k l)

first-recs : (due : Rec → Bool) (l : List Rec) → left_from due (first_going due l) l ≡ keep (λ r. not (goes due r)) l
unfolding first_going keep
first-recs due [] = refl
first-recs due (a ∷ l) = by (goes due a) refl (first-recs due l)
  where
    by : (t : Bool) → goes due a ≡ t → left_from due (first_going due l) l ≡ keep (λ r. not (goes due r)) l
        → left_from due (pick (goes due a) 0 (suc (first_going due l))) (a ∷ l) ≡ keep (λ r. not (goes due r)) (a ∷ l)
    by true s h = ap (λ (t : Bool). left_from due (pick t 0 (suc (first_going due l))) (a ∷ l)) s
    by false s h =
        let k : List Rec = keep (λ r. not (goes due r)) l in
        ap (λ (t : Bool). left_from due (pick t 0 (suc (first_going due l))) (a ∷ l)) s
        ∙ ap (λ (x : List Rec). a ∷ x) h
        ∙ sym (ap (λ (t : Bool). pick (not t) (a ∷ k) k) s)

-- so the removal may begin there
pub first_done : (due : Rec → Bool) (e : Entry) → done_from due (first_going due e.node.recs) (first_going due e.node.recs) e ≡ removed due e
unfolding remove
first_done due e =
    ap₂ (λ (g : ℕ) (x : List Rec). with_node (record { heartbeat = e.node.heartbeat; max = e.node.max; last_gc = g; recs = x }) e)
    (first-gc due e.node.last_gc e.node.recs) (first-recs due e.node.recs)

pub all_done : (due : Rec → Bool) (k j : ℕ) (e : Entry) → length e.node.recs ≤ j → done_from due k j e ≡ with_first k e
unfolding last_gc_of keep
all_done due k j e h =
    let front : List Rec = take k e.node.recs in
    let f : List Rec → Entry = λ y.
    with_node
    (record { heartbeat = e.node.heartbeat; max = e.node.max; last_gc = last_gc_of due e.node.last_gc y; recs = front ++ keep (λ r. not (goes due r)) y })
    e in
    ap f (drop_of_length-le e.node.recs {i = j} h) ∙ ap (λ (x : List Rec). with_recs x e) (append-nil front)

-- one step, past a record r that stands at j
module _ (due : Rec → Bool) (l : List Rec) (j : ℕ) (r : Rec) (h : j < length l) (q : get_or l j r ≡ r) where
  rest : drop j l ≡ r ∷ drop (suc j) l
  rest = drop-cons l j r h ∙ ap (λ (x : Rec). x ∷ drop (suc j) l) q

  gc-by : (t : Bool) → goes due r ≡ t → (g : ℕ) → last_gc_of due g (drop j l) ≡ last_gc_of due (pick t (max g r.kv.version) g) (drop (suc j) l)
  unfolding last_gc_of
  gc-by t s g = ap (last_gc_of due g) rest ∙ ap (λ (u : Bool). last_gc_of due (pick u (max g r.kv.version) g) (drop (suc j) l)) s

  recs-by : (t : Bool) → goes due r ≡ t
      → let k : List Rec = keep (λ r. not (goes due r)) (drop (suc j) l) in keep (λ r. not (goes due r)) (drop j l) ≡ pick (not t) (r ∷ k) k
  unfolding keep
  recs-by t s =
      let k : List Rec = keep (λ r. not (goes due r)) (drop (suc j) l) in
      ap (keep (λ r. not (goes due r))) rest ∙ ap (λ (u : Bool). pick (not u) (r ∷ k) k) s

module _ (due : Rec → Bool) (e : Entry) (k j : ℕ) (r : Rec) (h : j < length e.node.recs) (q : get_or e.node.recs j r ≡ r) where
  abbrev l : List Rec
  l = e.node.recs

  abbrev stay : List Rec → List Rec
  stay x = keep (λ r. not (goes due r)) x

  abbrev made : ℕ → List Rec → Entry
  made g x = with_node (record { heartbeat = e.node.heartbeat; max = e.node.max; last_gc = g; recs = x }) e

  -- it stays, and comes to place k
  pub step_stays : k ≤ j → goes due r ≡ false → done_from due (k + 1) (j + 1) (with_rec_at k r e) ≡ done_from due k j e
  step_stays g s =
      let x : List Rec = set l k r in
      let front : take (k + 1) x ≡ take k l ++ (r ∷ []) = ap (λ (i : ℕ). take i x) (add-one k) ∙ take-suc-set l k r (omega arith) in
      let behind : drop (j + 1) x ≡ drop (suc j) l = ap (λ (i : ℕ). drop i x) (add-one j) ∙ drop-set-lt (suc j) l k r (omega arith) in
      ap₂ (λ (y z : List Rec). made (last_gc_of due e.node.last_gc z) (y ++ stay z)) front behind
      ∙ ap₂ made (sym (gc-by due l j r h q false s e.node.last_gc))
      (append_assoc (take k l) (r ∷ []) (stay (drop (suc j) l)) ∙ ap (λ (y : List Rec). take k l ++ y) (sym (recs-by due l j r h q false s)))

  -- it goes
  pub step-goes : goes due r ≡ true → done_from due k (j + 1) (with_gone r.kv.version e) ≡ done_from due k j e
  step-goes s =
      let g : ℕ = max e.node.last_gc r.kv.version in
      ap (λ (i : ℕ). made (last_gc_of due g (drop i l)) (take k l ++ stay (drop i l))) (add-one j)
      ∙ ap₂ made (sym (gc-by due l j r h q true s e.node.last_gc)) (ap (λ (y : List Rec). take k l ++ y) (sym (recs-by due l j r h q true s)))

-- ---- what is left fits

fits-gone : (e : Entry) (v : ℕ) → FitsEntry e → v < numbers → FitsEntry (with_gone v e)
fits-gone e v o h =
    let a : e.node.last_gc < numbers = o.gc_high in
    record { number_high = o.number_high; beat_high = o.beat_high; max_high = o.max_high; gc_high = omega arith; few = o.few; each = o.each }

-- one of a list that has another element at i
in-set : {A : Type 0} (P : A → Type 0) (l : List A) (i : ℕ) (a : A) → i < length l → P a → ((x : A) → x ∈ l → P x) → (x : A) → x ∈ set l i a → P x
in-set {A = A} P l i a h p each x m =
    ⊎_elim (λ k. each x (in_take i l k)) (λ k. ⊎_elim (λ q. subst P (sym q) p) (λ n. each x (in-drop (suc i) l n)) (in-cons k))
    (in-append (take i l) (a ∷ drop (suc i) l) (subst (λ (y : List A). x ∈ y) (set_split l i a h) m))

fits-at : (e : Entry) (k : ℕ) (r : Rec) → FitsEntry e → k < length e.node.recs → FitsRec r → FitsEntry (with_rec_at k r e)
fits-at e k r o h f =
    record {
      number_high = o.number_high;
      beat_high = o.beat_high;
      max_high = o.max_high;
      gc_high = o.gc_high;
      few = rw length-set o.few;
      each = in-set FitsRec e.node.recs k r h f o.each;
    }

pub fits-removed : (due : Rec → Bool) (e : Entry) → FitsEntry e → FitsEntry (removed due e)
unfolding remove
fits-removed due e o =
    let l : List Rec = e.node.recs in
    let p : Rec → Bool = λ r. not (goes due r) in
    let a : e.node.last_gc < numbers = o.gc_high in
    let below : last_gc_of due e.node.last_gc l ≤ top =
    gc-below due e.node.last_gc top l (omega arith) (λ x m q. let b : x.kv.version < numbers = (o.each x m).version_high in omega arith) in
    record {
      number_high = o.number_high;
      beat_high = o.beat_high;
      max_high = o.max_high;
      gc_high = omega arith;
      few = omega (arith, length-keep p l, o.few);
      each = λ r m. o.each r (keep-from p l m).0;
    }

pub fits-set : (t : Table) (i : ℕ) (e : Entry) → i < length t → FitsTable t → FitsEntry e → FitsTable (set t i e)
fits-set t i e h o f = record { few = rw length-set o.few; each = in-set FitsEntry t i e h f o.each }

-- ---- in a node's bytes

-- the first k of the blocks stay, and zeros come for the others
blocks-cut : {A : Type 0} (enc : A → List ℕ) (w : ℕ) (wide : (a : A) → length (enc a) ≡ w) (n k : ℕ) (es : List A) → length es ≤ n → k ≤ length es
    → put (k * w) (zeros ((length es - k) * w)) (blocks n w enc es) ≡ blocks n w enc (take k es)
blocks-cut {A = A} enc w wide n k es few h =
    let m : ℕ = n - length es in
    let d : ℕ = length es - k in
    let front : List ℕ = flat enc (take k es) in
    let sum : d * w + m * w ≡ (n - k) * w = sym (add-mul d m w) ∙ ap (λ (i : ℕ). i * w) (omega arith) in
    ap (λ (x : List A). put (k * w) (zeros (d * w)) (blocks n w enc x)) (sym (take-append-drop k es))
    ∙ ap (put (k * w) (zeros (d * w))) (blocks-two enc w wide n m (take k es) (drop k es) (simp (length-take, length-drop) (omega arith)))
    ∙ put-at (k * w) (zeros (d * w)) front (flat enc (drop k es)) (zeros (m * w)) (length-flat-take enc w wide k es h)
    (length-zeros (d * w) ∙ sym (length-flat enc w wide (drop k es) ∙ ap (λ (i : ℕ). i * w) (length-drop k es)))
    ∙ ap (λ (x : List ℕ). front ++ x) (zeros-add (d * w) (m * w) ∙ ap zeros sum)
    ∙ sym (blocks_is enc w wide n (n - k) (take k es) (simp length-take (omega arith)))

module _ (e : Entry) (few : length e.node.recs ≤ max_records) where
  -- record j as it stands
  node-rec : (j : ℕ) (d : Rec) → j < length e.node.recs → part (rec_place j) rec_width (encode_node e) ≡ encode_rec (get_or e.node.recs j d)
  unfolding encode_node
  node-rec j d h =
      part_in node_widths (node_fields e) (node-widths e) 5 (j * rec_width) rec_width (omega arith) (omega arith)
      ∙ block encode_rec rec_width length-rec max_records e.node.recs few j d h

  -- the first k stay: the places of the others are zeroed, and the count falls
  node-rec-cut : (k : ℕ) → k ≤ length e.node.recs
      → put (offset node_widths 4) (bytes_of 1 k) (put (rec_place k) (zeros ((length e.node.recs - k) * rec_width)) (encode_node e)) ≡ encode_node (with_first k e)
  unfolding encode_node
  node-rec-cut k h =
      let es : List Rec = e.node.recs in
      let z : List ℕ = zeros ((length es - k) * rec_width) in
      let c : List ℕ = blocks max_records rec_width encode_rec (take k es) in
      let zl : length z ≡ (length es - k) * rec_width = length-zeros ((length es - k) * rec_width) in
      ap (put (offset node_widths 4) (bytes_of 1 k))
      (field_put node_widths (node_fields e) (node-widths e) 5 (k * rec_width) z (omega arith) (rw zl (omega arith))
      ∙ ap (λ (x : List ℕ). joined (set (node_fields e) 5 x)) (blocks-cut encode_rec rec_width length-rec max_records k es few h))
      ∙ field-set node_widths (set (node_fields e) 5 c)
      (widths-set node_widths (node_fields e) (node-widths e) 5 c (length-blocks encode_rec rec_width length-rec max_records (take k es))) 4 (bytes_of 1 k) (omega arith) (length-bytes_of 1 k)
      ∙ ap (λ (i : ℕ). joined (set (set (node_fields e) 5 c) 4 (bytes_of 1 i))) (sym (length-take-le k es h))

module _ (b : List ℕ) (o : LaidNode b) where
  module _ (j : ℕ) (h : j < count_of b) where
    held : j < length (recs_in b)
    held = rw length-recs h

    rec-is : rec_bytes j b ≡ encode_rec (rec_at j b)
    rec-is =
        ap (part (rec_place j) rec_width) (sym o.is)
        ∙ node-rec (decode_node b) o.fits.few j (rec_at j b) held
        ∙ ap encode_rec (recs-at j b (rec_at j b) h)

    -- record j, which stays, at place k
    pub brought : (k : ℕ) (s : List ℕ) → k ≤ j → s ≡ put (rec_place k) (rec_bytes j b) b → s ≡ encode_node (with_rec_at k (rec_at j b) (decode_node b))
    brought k s g e = put-steps b o k (rec_at j b) s (omega arith) (e ∙ ap (λ (x : List ℕ). put (rec_place k) x b) rec-is)

    -- the node once record j stands at place k
    module _ (k : ℕ) (g : k ≤ j) (s : List ℕ) (e : s ≡ encode_node (with_rec_at k (rec_at j b) (decode_node b))) where
      kept : FitsEntry (with_rec_at k (rec_at j b) (decode_node b))
      kept = fits-at (decode_node b) k (rec_at j b) o.fits (omega (arith, held)) (laid-rec b o j h)

      pub kept-laid : LaidNode s
      kept-laid = subst LaidNode (sym e) (laid-node (with_rec_at k (rec_at j b) (decode_node b)) kept)

      is-kept : decode_node s ≡ with_rec_at k (rec_at j b) (decode_node b)
      is-kept = ap decode_node e ∙ decode-encode-node (with_rec_at k (rec_at j b) (decode_node b)) kept

      pub kept-count : count_of s ≡ count_of b
      kept-count =
          sym (length-recs s) ∙ ap (λ (x : Entry). length x.node.recs) is-kept ∙ length-set (recs_in b) k (rec_at j b) ∙ length-recs b

      pub node_stays : (due : Rec → Bool) → goes due (rec_at j b) ≡ false → done_from due (k + 1) (j + 1) (decode_node s) ≡ done_from due k j (decode_node b)
      node_stays due t =
          ap (done_from due (k + 1) (j + 1)) is-kept ∙ step_stays due (decode_node b) k j (rec_at j b) held (recs-at j b (rec_at j b) h) g t

    -- the node once last_gc is that of record j, which goes
    module _ (s : List ℕ) (e : s ≡ encode_node (with_gone (rec_at j b).kv.version (decode_node b))) where
      gone : FitsEntry (with_gone (rec_at j b).kv.version (decode_node b))
      gone = fits-gone (decode_node b) (rec_at j b).kv.version o.fits (laid-rec b o j h).version_high

      pub gone-laid : LaidNode s
      gone-laid = subst LaidNode (sym e) (laid-node (with_gone (rec_at j b).kv.version (decode_node b)) gone)

      is-gone : decode_node s ≡ with_gone (rec_at j b).kv.version (decode_node b)
      is-gone = ap decode_node e ∙ decode-encode-node (with_gone (rec_at j b).kv.version (decode_node b)) gone

      pub gone-count : count_of s ≡ count_of b
      gone-count = sym (length-recs s) ∙ ap (λ (x : Entry). length x.node.recs) is-gone ∙ length-recs b

      pub node-goes : (due : Rec → Bool) (k : ℕ) → goes due (rec_at j b) ≡ true → done_from due k (j + 1) (decode_node s) ≡ done_from due k j (decode_node b)
      node-goes due k t = ap (done_from due k (j + 1)) is-gone ∙ step-goes due (decode_node b) k j (rec_at j b) held (recs-at j b (rec_at j b) h) t

  -- the search for the first that goes, at record j
  module _ (due : Rec → Bool) (j f : ℕ) (e : j + first_going due (drop j (recs_in b)) ≡ f) where
    turn : (t : Bool) → j < count_of b → goes due (rec_at j b) ≡ t → j + pick t 0 (suc (first_going due (drop (suc j) (recs_in b)))) ≡ f
    unfolding first_going
    turn t h s =
        sym (ap (λ (u : Bool). j + pick u 0 (suc (first_going due (drop (suc j) (recs_in b))))) s)
        ∙ sym (ap (λ (x : List Rec). j + first_going due x) (recs-drop j b h))
        ∙ e

    pub found : j < count_of b → goes due (rec_at j b) ≡ true → j ≡ f
    found h s = omega (arith, turn true h s)

    pub not_found : j < count_of b → goes due (rec_at j b) ≡ false → j + 1 + first_going due (drop (j + 1) (recs_in b)) ≡ f
    not_found h s = ap (λ (k : ℕ). j + 1 + first_going due (drop k (recs_in b))) (add-one j) ∙ omega (arith, turn false h s)

    pub none_found : count_of b ≤ j → j ≡ f
    unfolding first_going
    none_found h =
        let none : drop j (recs_in b) ≡ [] = drop_of_length-le (recs_in b) {i = j} (rw length-recs h) in
        sym (add-zero j) ∙ sym (ap (λ (x : List Rec). j + first_going due x) none) ∙ e

  -- the two writes of a cut, and one that has nothing to cut
  pub cut-steps : (s1 s2 : List ℕ) (n k : ℕ) → n ≡ count_of b → k ≤ n → s1 ≡ put (rec_place k) (zeros ((n - k) * rec_width)) b
      → s2 ≡ put (offset node_widths 4) (bytes_of 1 k) s1 → s2 ≡ encode_node (with_first k (decode_node b))
  cut-steps s1 s2 n k en h e1 e2 =
      e2
      ∙ ap (put (offset node_widths 4) (bytes_of 1 k)) e1
      ∙ ap₂ (λ (m : ℕ) (x : List ℕ). put (offset node_widths 4) (bytes_of 1 k) (put (rec_place k) (zeros ((m - k) * rec_width)) x)) (en ∙ sym (length-recs b)) (sym o.is)
      ∙ node-rec-cut (decode_node b) o.fits.few k (omega (arith, length-recs b))

  pub cut-none : (k : ℕ) → count_of b ≤ k → b ≡ encode_node (with_first k (decode_node b))
  cut-none k h =
      sym o.is ∙ ap (λ (x : List Rec). encode_node (with_recs x (decode_node b))) (sym (take_all k (recs_in b) (rw length-recs h)))

  pub node_end : (due : Rec → Bool) (k j : ℕ) (x : Entry) (s : List ℕ) → count_of b ≤ j → done_from due k j (decode_node b) ≡ x
      → s ≡ encode_node (with_first k (decode_node b)) → s ≡ encode_node x
  node_end due k j x s h e f = f ∙ ap encode_node (sym (all_done due k j (decode_node b) (rw length-recs h)) ∙ e)

-- ---- the nodes of a table

-- what is in front of node i is done, and the rest is done by the rule
abbrev pub nodes_from : (now grace : ℕ) (bounds : List ℕ) (i : ℕ) (table : Table) → Table
nodes_from now grace bs i t = take i t ++ remove_within now grace (drop i bs) (drop i t)

module _ (now grace : ℕ) (bs : List ℕ) where
  -- the test of node i
  abbrev pub due_at : (i : ℕ) (rec : Rec) → Bool
  due_at i = due_within (get_or bs i 0) now grace

  nodes-step : (t : Table) (i : ℕ) (e : Entry) → i < length t → i < length bs → get_or t i e ≡ e
      → nodes_from now grace bs (i + 1) (set t i (removed (due_at i) e)) ≡ nodes_from now grace bs i t
  unfolding remove_within
  nodes-step t i e h g q =
      let x : Entry = removed (due_at i) e in
      let f : Table → Table = remove_within now grace (drop (suc i) bs) in
      ap (λ (k : ℕ). nodes_from now grace bs k (set t i x)) (add-one i)
      ∙ ap₂ (λ (y z : Table). y ++ f z) (take-suc-set t i x h) (drop-set-lt (suc i) t i x (omega arith))
      ∙ append_assoc (take i t) (x ∷ []) (f (drop (suc i) t))
      ∙ ap₂ (λ (b : List ℕ) (z : Table). take i t ++ remove_within now grace b z) (sym (drop-cons bs i 0 g))
      (sym (drop-cons t i e h ∙ ap (λ (y : Entry). y ∷ drop (suc i) t) q))

  nodes-done : (t : Table) (i : ℕ) → length t ≤ i → nodes_from now grace bs i t ≡ t
  unfolding remove_within
  nodes-done t i h =
      ap₂ (λ (y z : Table). y ++ remove_within now grace (drop i bs) z) (take_all i t h) (drop_of_length-le t {i = i} h) ∙ append-nil t

  -- ---- in a table's bytes

  module _ (l : List ℕ) (o : LaidTable l) where
    module _ (i : ℕ) (h : i < nodes_of l) (g : i < length bs) (s : List ℕ) (e : s ≡ put (node_place i) (encode_node (removed (due_at i) (node_at i l))) l) where
      abbrev node : Entry
      node = removed (due_at i) (node_at i l)

      within : i < length (decode l)
      within = rw length-decode h

      changed : s ≡ encode (set (decode l) i node)
      changed = e ∙ ap (put (node_place i) (encode_node node)) (sym o.is) ∙ table-set (decode l) o.fits.few i node within

      fits : FitsTable (set (decode l) i node)
      fits = fits-set (decode l) i node within o.fits (fits-removed (due_at i) (node_at i l) (laid-at l o i h).fits)

      is-table : decode s ≡ set (decode l) i node
      is-table = ap decode changed ∙ read_back (set (decode l) i node) fits

      pub next-laid : LaidTable s
      next-laid = subst LaidTable (sym changed) (laid_table (set (decode l) i node) fits)

      pub next-count : nodes_of s ≡ nodes_of l
      next-count = sym (length-decode s) ∙ ap length is-table ∙ length-set (decode l) i node ∙ length-decode l

      pub next-node : nodes_from now grace bs (i + 1) (decode s) ≡ nodes_from now grace bs i (decode l)
      next-node = ap (nodes_from now grace bs (i + 1)) is-table ∙ nodes-step (decode l) i (node_at i l) within g (decode-at i l (node_at i l) h)

    pub table-end : (i : ℕ) (t : Table) → nodes_of l ≤ i → nodes_from now grace bs i (decode l) ≡ t → l ≡ encode t
    table-end i t h e = sym o.is ∙ ap encode (sym (nodes-done (decode l) i (rw length-decode h)) ∙ e)
