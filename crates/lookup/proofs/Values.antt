-- What a lookup finds on the bytes is what the rules find: a place that was found lies within the table, and the bytes there are the rules' value
-- (`found-means`), which are then handed out. Before that, what the search for the key says of the place. Assumes nothing.
use Prim.Native.Nat.{ℕ, ◌+◌, ◌≤◌, ◌<◌}
use mathlib.Core.Path.{◌≡◌, refl, ap, ap₂, sym, ◌∙◌, subst}
use mathlib.Core.Bool.{Bool, true, false}
use mathlib.Core.List.{List, []}
use mathlib.Core.Option.{Option, none, some}
use native.Mathlib.Omega.{arith}
use native.Mathlib.Nat.{add_assoc, zero-add}
use lib.ListN.{length, get_or}
use lib.Dec.{leb}
use Rattle.fields.specs.Choice.{pick}
use Rattle.fields.specs.Order.{same_bytes}
use Rattle.fields.specs.Parts.{part}
use Rattle.fields.specs.Widths.{offset}
use Rattle.fields.proofs.Lent.{seen_first}
use Rattle.fields.proofs.Parts.{length_part, part-part}
use Rattle.rules.specs.Sizes.{max_key}
use Rattle.rules.specs.Node.{Rec, hidden, shown, find}
use Rattle.rules.specs.Table.{keys_rise}
use Rattle.rules.specs.Local as rule
use Rattle.rules.specs.Local.{found_of, lookup_on}
use Rattle.rules.specs.Layout.{rec_widths, rec_place, rec_width, node_width, table_width, decode_rec, decode_node, decode, valid}
use Rattle.rules.specs.Whole.{area_of, valid_whole}
use Rattle.rules.specs.declared.Refusal.TheVariants.{TooLong}
use Rattle.table.specs.Tests.{value_length, count_of, recs_in}
use Rattle.table.specs.Fits.{LaidNode}
use Rattle.table.proofs.Places.{rec_bytes, rec_at, recs-at, in-rec}
use Rattle.table.proofs.Laid.{rec-long, laid-value}
use Rattle.table.proofs.Tables.{valid-long}
use Rattle.table.proofs.Wholes.{area-valid, whole_long}
use Rattle.table_read.specs.Find.{to_key, find_key, span_in}
use Rattle.table_read.specs.declared.Place.{Place}
use Rattle.table_read.specs.declared.Place.TheVariants as place
use Rattle.std.specs.Prelude.{Option as Optional}
use Rattle.std.specs.Prelude.{Err, None, Ok, Result, Some}
use Rattle.lookup.specs.declared.Found.{Found}
use Rattle.rules.specs.declared.Refusal.{Refusal}
use Rattle.table_read.specs.declared.Span.{Span}
use Rattle.table_read.proofs.Searched.{search-at, search-free, key-hit, rec-in, rec-found, rec-missing, recs-ordered}
use Rattle.table_read.proofs.Held.{node_end, node-fits, held-laid, held-rises, held_start, held-node, missing-node}
use Rattle.lookup.specs.Lookup.{value_place, found_rec, find_rec, find_on, found_in, value_in, start_of, len_of, Within, HandedOut, Hands, part_of, handed}

-- ---- what the search for the key says of the place, in the bytes of a node that begins at `start`

module _ (k b : List ℕ) (start : ℕ) {p : Place} (f : p ≡ find_key k (recs_in b)) where
  pub value-place : {j : ℕ} → p ≡ place.At j → (r : (Result (Optional Found) Refusal)) → r ≡ found_rec start j (rec_at j b) → r ≡ find_rec k start 0 (recs_in b)
  unfolding find_rec
  value-place {j} h r q =
      q
      ∙ sym (search-at (to_key k) (λ (x : Rec). same_bytes k x.kv.key) (key-hit k) (found_rec start) (Ok None) (find_rec k start) (λ m. refl) (λ m a l. refl)
      (recs_in b) (decode_rec []) 0 j (sym f ∙ h)
      ∙ ap (λ (m : ℕ). found_rec start m (get_or (recs_in b) j (decode_rec []))) (zero-add j)
      ∙ ap (found_rec start j) (recs-at j b (decode_rec []) (rec-in b k j (sym f ∙ h))))

  pub value-nowhere : keys_rise (recs_in b) ≡ true → {j : ℕ} → p ≡ place.Free j → (Ok None) ≡ find_rec k start 0 (recs_in b)
  unfolding find_rec
  value-nowhere s {j} h =
      sym (search-free (to_key k) (λ (x : Rec). same_bytes k x.kv.key) (key-hit k) (found_rec start) (Ok None) (find_rec k start) (λ m. refl) (λ m a l. refl)
      (recs_in b) 0 j (recs-ordered b s k) (sym f ∙ h))

-- ---- the node is held: what stands in the table from `start` on

module _ (n : ℕ) (l : List ℕ) (v : valid l ≡ true) {start end : ℕ} (e : span_in n l ≡ (Some (record { start = start; end = end }))) where
  abbrev node : List ℕ
  node = part start node_width l

  laid : LaidNode node
  laid = held-laid n l v e

  -- a text of record j: the m bytes from o on of the record's
  module _ (j : ℕ) (g : j < count_of node) (o m : ℕ) (k : o + m ≤ rec_width) (text : List ℕ) (is : text ≡ part o m (rec_bytes j node)) where
    text-length : length text ≡ m
    text-length = ap length is ∙ length_part o m (rec_bytes j node) (omega (arith, rec-long node laid j g))

    pub text-within : start + rec_place j + o + length text ≤ length l
    text-within = rw text-length (omega (arith, node_end n l v e, node-fits n l v e, laid.few))

    pub text-there : part (start + rec_place j + o) (length text) l ≡ text
    text-there =
        ap₂ (λ (i k : ℕ). part i k l) (add_assoc start (rec_place j) o) text-length
        ∙ sym (part-part (rec_place j + o) m start node_width l (omega (arith, laid.few)) (omega (arith, node_end n l v e, node-fits n l v e)))
        ∙ sym (in-rec j o m node laid.long (omega (arith, laid.few)) k)
        ∙ sym is

-- ---- the rules' answer

abbrev Means : List ℕ → (Result (Optional Found) Refusal) → rule.Found → Type 0
Means l f r = Within (length l) f × (value_in l f ≡ r)

module _ (n : ℕ) (l : List ℕ) (v : valid l ≡ true) {start end : ℕ} (e : span_in n l ≡ (Some (record { start = start; end = end }))) where
  -- by record j
  rec-means : (j : ℕ) → j < count_of (part start node_width l)
      → Means l (found_rec start j (rec_at j (part start node_width l))) (found_of (shown (some (rec_at j (part start node_width l)))))
  unfolding decode_rec
  rec-means j g = go (hidden r.kv.status)
    where
      r : Rec
      r = rec_at j (part start node_width l)

      o : ℕ
      o = offset rec_widths 3

      m : ℕ
      m = value_length (rec_bytes j (part start node_width l))

      fits : o + m ≤ rec_width
      fits = omega (arith, laid-value (part start node_width l) (held-laid n l v e) j g)

      go : (t : Bool) → Means l (pick t (Ok None) (Ok (Some (record { start = (value_place start j); len = (length r.kv.value) })))) (found_of (pick t none (some r.kv.value)))
      go true = (omega arith, refl)
      go false = (text-within n l v e j g o m fits r.kv.value refl, ap rule.Value (text-there n l v e j g o m fits r.kv.value refl))

  -- by the node
  node-means : (k : List ℕ)
      → Means l (find_on k start (some (decode_node (part start node_width l)).node)) (lookup_on k (some (decode_node (part start node_width l)).node))
  node-means k = long (leb (length k) max_key)
    where
      b : List ℕ
      b = part start node_width l

      key : (p : Place) → p ≡ find_key k (recs_in b) → Means l (find_rec k start 0 (recs_in b)) (found_of (shown (find k (recs_in b))))
      key (place.At j) f =
          subst (λ (x : (Result (Optional Found) Refusal)). Means l x (found_of (shown (find k (recs_in b))))) (value-place k b start f refl (found_rec start j (rec_at j b)) refl)
          (subst (λ (x : Option Rec). Means l (found_rec start j (rec_at j b)) (found_of (shown x))) (sym (rec-found b k j (sym f)))
          (rec-means j (rec-in b k j (sym f))))
      key (place.Free j) f =
          subst (λ (x : (Result (Optional Found) Refusal)). Means l x (found_of (shown (find k (recs_in b))))) (value-nowhere k b start f (held-rises n l v e) refl)
          (omega arith, ap (λ (x : Option Rec). found_of (shown x)) (sym (rec-missing b k j (held-rises n l v e) (sym f))))

      long : (t : Bool)
          → Means l (pick t (find_rec k start 0 (recs_in b)) (Err TooLong)) (pick t (found_of (shown (find k (recs_in b)))) (rule.NotFound TooLong))
      long true = key (find_key k (recs_in b)) refl
      long false = (omega arith, refl)

-- in a good table
pub found-means : (l : List ℕ) (v : valid l ≡ true) (n : ℕ) (k : List ℕ) → Means l (found_in n k (decode l)) (rule.lookup n k (decode l))
unfolding rule.lookup
found-means l v n k = go (span_in n l) refl
  where
    go : (s : (Optional Span)) → span_in n l ≡ s → Means l (found_in n k (decode l)) (rule.lookup n k (decode l))
    go (Some s) e = rw (held_start n l v e, held-node n l v e) (node-means n l v e k)
    go None e = rw (missing-node n l v e) (omega arith, refl)

-- ---- what is handed out

-- a place that was found stands for these bytes
abbrev pub Stands : List ℕ → (Result (Optional Found) Refusal) → List ℕ → Type 0
Stands l f bytes = Within (length l) f × (part (start_of f) (len_of f) l ≡ bytes)

-- a refusal stands for none
pub refused-stands : (l : List ℕ) (f : (Result (Optional Found) Refusal)) → start_of f ≡ 0 → len_of f ≡ 0 → Stands l f []
unfolding part
refused-stands l f s n = (omega arith, rw (s, n) refl)

means-stands : (l : List ℕ) (f : (Result (Optional Found) Refusal)) (r : rule.Found) → Means l f r → Stands l f (handed r)
unfolding part
means-stands l (Ok (Some f)) r h = (h.0, ap handed h.1)
means-stands l (Ok None) r h = (h.0, ap handed h.1)
means-stands l (Err x) r h = (h.0, ap handed h.1)

pub found-stands : (l : List ℕ) (v : valid l ≡ true) (n : ℕ) (k : List ℕ) → Stands l (found_in n k (decode l)) (handed (rule.lookup n k (decode l)))
found-stands l v n k = means-stands l (found_in n k (decode l)) (rule.lookup n k (decode l)) (found-means l v n k)

-- what stands at a place of the area stands there in the whole
pub area-stands : (l : List ℕ) → valid_whole l ≡ true → (f : (Result (Optional Found) Refusal)) (bytes : List ℕ) → Stands (area_of l) f bytes → Stands l f bytes
area-stands l v f bytes s =
    let long : length (area_of l) ≡ table_width = valid-long (area_of l) (area-valid l v) in
    let w = whole_long l v in
    let same : part (start_of f) (len_of f) (area_of l) ≡ part (start_of f) (len_of f) l =
    ap (part (start_of f) (len_of f)) (seen_first table_width l)
    ∙ part-part (start_of f) (len_of f) 0 table_width l (omega (arith, s.0, long)) (omega (arith, w))
    ∙ ap (λ (k : ℕ). part k (len_of f) l) (zero-add (start_of f)) in
    (omega (arith, s.0, long, w), sym same ∙ s.1)

-- the code found the place f, and it is g
module _ (l : List ℕ) {f g : (Result (Optional Found) Refusal)} (e : f ≡ g) (bytes : List ℕ) (s : Stands l g bytes) where
  pub found_within : Within (length l) f
  found_within = subst (Within (length l)) (sym e) s.0

  pub hands-found : (t p : ℕ × ℕ) (b : List ℕ) → Hands (part_of l f) t b p → Hands (record { bytes = bytes; start = start_of g }) t b p
  hands-found t p b h = (h.0 ∙ ap (λ (x : (Result (Optional Found) Refusal)). part (start_of x) (len_of x) l) e ∙ s.1, h.1, h.2 ∙ ap (λ (x : (Result (Optional Found) Refusal)). t.1 + start_of x) e)

pub same-hands : {x y : HandedOut} → x ≡ y → (t p : ℕ × ℕ) (b : List ℕ) → Hands x t b p → Hands y t b p
same-hands e t p b h = (h.0 ∙ ap (λ (x : HandedOut). x.bytes) e, h.1, h.2 ∙ ap (λ (x : HandedOut). t.1 + x.start) e)
