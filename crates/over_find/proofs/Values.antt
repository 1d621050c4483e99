-- What a lookup over both finds on the bytes is what the rules find: the place lies within its slice, and the bytes there are the rules' value, which are then
-- handed out; by a party that may name the key, those of all records of the node. Then what the rules' answer is in the words of the tickets. Assumes nothing.
use Prim.Native.Nat.{ℕ, ◌+◌, ◌≤◌, ◌<◌}
use mathlib.Core.Path.{◌≡◌, refl, ap, ap₂, sym, ◌∙◌, subst}
use mathlib.Core.Bool.{Bool, true, false}
use mathlib.Core.List.{List}
use mathlib.Core.Option.{Option, none, some}
use native.Mathlib.Omega.{arith}
use native.Mathlib.Nat.{zero-add}
use lib.ListN.{length}
use lib.Dec.{leb}
use borrow.Author.Tests.{le-leb}
use Rattle.fields.specs.Choice.{pick}
use Rattle.fields.specs.Parts.{part}
use Rattle.fields.specs.Widths.{offset}
use Rattle.fields.proofs.Choice.{pick_true}
use Rattle.fields.proofs.Parts.{length_part}
use Rattle.rules.specs.Sizes.{max_key}
use Rattle.rules.specs.Node.{Rec, Node, hidden, shown, find}
use Rattle.rules.specs.Table.{Table, keys_rise, node_of}
use Rattle.rules.specs.Local as rule
use Rattle.rules.specs.Local.{found_of, lookup_on}
use Rattle.rules.specs.Party.{sees, seen}
use Rattle.rules.specs.Layout.{rec_widths, rec_place, rec_width, decode_rec, decode_node, decode}
use Rattle.rules.specs.Whole.{area_of, decode_whole, valid_whole}
use Rattle.rules.specs.declared.Profile.{Profile}
use Rattle.rules.specs.declared.Party.{Party}
use Rattle.rules.specs.declared.Refusal.TheVariants.{TooLong, OtherParty}
use Rattle.table.specs.Tests.{value_length, count_of, recs_in}
use Rattle.table.specs.Fits.{LaidNode}
use Rattle.table.proofs.Places.{rec_bytes, rec_at, in-rec}
use Rattle.table.proofs.Laid.{rec-long, laid-value}
use Rattle.table.proofs.Wholes.{area-valid}
use Rattle.table_read.specs.Find.{find_key}
use Rattle.table_read.specs.declared.Place.{Place}
use Rattle.table_read.specs.declared.Place.TheVariants as place
use Rattle.table_read.proofs.Searched.{rec-in, rec-found, rec-missing}
use Rattle.lookup.specs.Lookup as whole
use Rattle.own_rows.specs.Sight.{seen_node, seen_held, front_in}
use Rattle.own_rows.proofs.Tables.{node_seen}
use Rattle.lookup.specs.Lookup.{value_place, found_rec, find_rec, find_on, found_in, unless_other, find_as, value_in, handed}
use Rattle.std.specs.Prelude.{Option as Optional}
use Rattle.std.specs.Prelude.{Err, None, Ok, Result, Some}
use Rattle.lookup.specs.declared.Found.{Found}
use Rattle.over_find.specs.declared.FoundOver.{FoundOver}
use Rattle.overrides.specs.declared.RefusedOver.{RefusedOver}
use Rattle.rules.specs.declared.Refusal.{Refusal}
use Rattle.over_find.specs.declared.FoundOver.TheVariants as side
use Rattle.lookup.proofs.Values.{value-place, value-nowhere, found-means, area-stands}
use Rattle.lookup.proofs.Seen.{same-value, whole-found}
use Rattle.overrides.specs.Overrides.{valid_node}
use Rattle.overrides.proofs.Valid.{over-laid, over-rises}
use Rattle.over_find.specs.Over.{or_else, over_found, ruled_over, lookup_over, over_of, own_found, found_over, start_of, is_over, Within, HandedOver, HandsOver, part_over, moved_by, value_over, nothing_held}

-- a place in one slice stands for the rules' answer
abbrev Means : List ℕ → (Result (Optional Found) Refusal) → rule.Found → Type 0
Means l f r = whole.Within (length l) f × (value_in l f ≡ r)

-- ---- in the overrides, which begin with the node's bytes

module _ (b : List ℕ) (laid : LaidNode b) (rises : keys_rise (recs_in b) ≡ true) where
  rec-means : (j : ℕ) → j < count_of b → Means b (found_rec 0 j (rec_at j b)) (found_of (shown (some (rec_at j b))))
  unfolding decode_rec
  rec-means j g = go (hidden r.kv.status)
    where
      r : Rec
      r = rec_at j b

      m : ℕ
      m = value_length (rec_bytes j b)

      o : ℕ
      o = offset rec_widths 3

      fits : o + m ≤ rec_width
      fits = omega (arith, laid-value b laid j g)

      long : length r.kv.value ≡ m
      long = length_part o m (rec_bytes j b) (omega (arith, fits, rec-long b laid j g))

      there : part (value_place 0 j) (length r.kv.value) b ≡ r.kv.value
      there =
          ap₂ (λ (i k : ℕ). part i k b) (ap (λ (x : ℕ). x + o) (zero-add (rec_place j))) long
          ∙ sym (in-rec j o m b laid.long (omega (arith, laid.few)) fits)

      go : (t : Bool) → Means b (pick t (Ok None) (Ok (Some (record { start = (value_place 0 j); len = (length r.kv.value) })))) (found_of (pick t none (some r.kv.value)))
      go true = (omega arith, refl)
      go false = (rw long (omega (arith, fits, laid.few, laid.long)), ap rule.Value there)

  own-means : (k : List ℕ) → Means b (find_on k 0 (some (decode_node b).node)) (lookup_on k (some (decode_node b).node))
  own-means k = long (leb (length k) max_key)
    where
      key : (p : Place) → p ≡ find_key k (recs_in b) → Means b (find_rec k 0 0 (recs_in b)) (found_of (shown (find k (recs_in b))))
      key (place.At j) f =
          subst (λ (x : (Result (Optional Found) Refusal)). Means b x (found_of (shown (find k (recs_in b))))) (value-place k b 0 f refl (found_rec 0 j (rec_at j b)) refl)
          (subst (λ (x : Option Rec). Means b (found_rec 0 j (rec_at j b)) (found_of (shown x))) (sym (rec-found b k j (sym f))) (rec-means j (rec-in b k j (sym f))))
      key (place.Free j) f =
          subst (λ (x : (Result (Optional Found) Refusal)). Means b x (found_of (shown (find k (recs_in b))))) (value-nowhere k b 0 f rises refl)
          (omega arith, ap (λ (x : Option Rec). found_of (shown x)) (sym (rec-missing b k j rises (sym f))))

      long : (t : Bool)
          → Means b (pick t (find_rec k 0 0 (recs_in b)) (Err TooLong)) (pick t (found_of (shown (find k (recs_in b)))) (rule.NotFound TooLong))
      long true = key (find_key k (recs_in b)) refl
      long false = (omega arith, refl)

-- ---- in the table

-- what an area's place stands for it stands for in the whole
area-means : (l : List ℕ) → valid_whole l ≡ true → (f : (Result (Optional Found) Refusal)) (r : rule.Found) → Means (area_of l) f r → Means l f r
area-means l v (Ok (Some f)) r h =
    let x = area-stands l v (Ok (Some f)) (part f.start f.len (area_of l)) (h.0, refl) in
    (x.0, ap rule.Value x.1 ∙ h.1)
area-means l v (Ok None) r h = (omega arith, h.1)
area-means l v (Err q) r h = (omega arith, h.1)

-- ---- in both

-- the rules' answer that a place in the one slice or in the other stands for
abbrev value_at : (overrides table : List ℕ) (found : (Result (Optional FoundOver) RefusedOver)) → rule.Found
value_at o t (Ok (Some (side.InOverrides start len))) = rule.Value (part start len o)
value_at o t (Ok (Some (side.InTable start len))) = rule.Value (part start len t)
value_at o t (Ok None) = rule.Nothing
value_at o t (Err rr) = rule.NotFound rr.why

abbrev MeansOver : (overrides table : List ℕ) (found : (Result (Optional FoundOver) RefusedOver)) (answer : rule.Found) → Type 0
MeansOver o t f r = Within (length o) (length t) f × (value_at o t f ≡ r)

both-means : (o t : List ℕ) (own shared : (Result (Optional Found) Refusal)) (ro rs : rule.Found) → Means o own ro → Means t shared rs → MeansOver o t (over_of own shared) (ruled_over ro rs)
both-means o t own shared ro rs h g = (inside own shared h.0 g.0, values own shared ∙ ap₂ ruled_over h.1 g.1)
  where
    inside : (own shared : (Result (Optional Found) Refusal)) → whole.Within (length o) own → whole.Within (length t) shared → Within (length o) (length t) (over_of own shared)
    inside (Ok (Some f)) (Ok (Some ff)) h g = h
    inside (Ok (Some f)) (Ok None) h g = h
    inside (Ok (Some f)) (Err r) h g = omega arith
    inside (Ok None) (Ok (Some f)) h g = g
    inside (Ok None) (Ok None) h g = omega arith
    inside (Ok None) (Err r) h g = omega arith
    inside (Err q) (Ok (Some f)) h g = g
    inside (Err q) (Ok None) h g = omega arith
    inside (Err q) (Err r) h g = omega arith

    values : (own shared : (Result (Optional Found) Refusal)) → value_at o t (over_of own shared) ≡ ruled_over (value_in o own) (value_in t shared)
    values (Ok (Some f)) (Ok (Some ff)) = refl
    values (Ok (Some f)) (Ok None) = refl
    values (Ok (Some f)) (Err r) = refl
    values (Ok None) (Ok (Some f)) = refl
    values (Ok None) (Ok None) = refl
    values (Ok None) (Err r) = refl
    values (Err q) (Ok (Some f)) = refl
    values (Err q) (Ok None) = refl
    values (Err q) (Err r) = refl

-- what is found in the overrides of the key
own : (b : List ℕ) → valid_node b ≡ true → (k : List ℕ) → Means b (own_found k (decode_node b).node) (lookup_on k (some (decode_node b).node))
own b o k = own-means b (over-laid b o) (over-rises b o) k

-- ---- what is handed out

abbrev StandsOver : (overrides table : List ℕ) (found : (Result (Optional FoundOver) RefusedOver)) (bytes : List ℕ) → Type 0
StandsOver o t f bytes = Within (length o) (length t) f × ((part_over o t f).bytes ≡ bytes)

means-stands : (o t : List ℕ) (f : (Result (Optional FoundOver) RefusedOver)) (r : rule.Found) → MeansOver o t f r → StandsOver o t f (handed r)
unfolding part
means-stands o t (Ok (Some (side.InOverrides start len))) r h = (h.0, ap handed h.1)
means-stands o t (Ok (Some (side.InTable start len))) r h = (h.0, ap handed h.1)
means-stands o t (Ok None) r h = (h.0, ap handed h.1)
means-stands o t (Err rr) r h = (h.0, ap handed h.1)

pub same-hands : {x y : HandedOver} → x ≡ y → (op tp p : ℕ × ℕ) (b : List ℕ) → HandsOver x op tp b p → HandsOver y op tp b p
same-hands e op tp p b h = subst (λ (x : HandedOver). HandsOver x op tp b p) e h

-- ---- by a party, over a whole table

-- a place in the table is moved, one in the overrides is not
moved-over : (m : ℕ) (mine f : (Result (Optional Found) Refusal)) → over_of mine (whole.moved_by m f) ≡ moved_by m (over_of mine f)
moved-over m (Ok (Some f)) (Ok (Some ff)) = refl
moved-over m (Ok (Some f)) (Ok None) = refl
moved-over m (Ok (Some f)) (Err r) = refl
moved-over m (Ok None) (Ok (Some f)) = refl
moved-over m (Ok None) (Ok None) = refl
moved-over m (Ok None) (Err r) = refl
moved-over m (Err r) (Ok (Some f)) = refl
moved-over m (Err r) (Ok None) = refl
moved-over m (Err r) (Err q) = refl

same-side : (m : ℕ) (f : (Result (Optional FoundOver) RefusedOver)) → is_over (moved_by m f) ≡ is_over f
same-side m (Ok (Some (side.InOverrides s n))) = refl
same-side m (Ok (Some (side.InTable s n))) = refl
same-side m (Ok None) = refl
same-side m (Err r) = refl

-- a key that the party may name
module _ (b l : List ℕ) (o : valid_node b ≡ true) (v : valid_whole l ≡ true) (q : Party) (n : ℕ) (k : List ℕ) (h : sees (decode_whole l).kind.profile q k ≡ true) where
  abbrev p : Profile
  p = (decode_whole l).kind.profile

  abbrev t : Table
  t = decode (area_of l)

  abbrev d : Node
  d = (decode_node b).node

  abbrev seen_place : (Result (Optional FoundOver) RefusedOver)
  seen_place = moved_by (front_in p q n t) (found_over p q n k d t)

  -- it stands where it is found among all records of the node
  named-place : over_of (own_found k d) (found_in n k t) ≡ seen_place
  named-place = ap (over_of (own_found k d)) (whole-found l v q n k h) ∙ moved-over (front_in p q n t) (own_found k d) (find_as p q n k t)

  named-means : MeansOver b l (over_of (own_found k d) (found_in n k t)) (lookup_over p q n k d t)
  unfolding lookup_over
  named-means =
      subst (λ (r : rule.Found). MeansOver b l (over_of (own_found k d) (found_in n k t)) (ruled_over (lookup_on k (some d)) r)) (same-value p q n k t h)
      (both-means b l (own_found k d) (found_in n k t) _ _ (own b o k) (area-means l v (found_in n k t) (rule.lookup n k t) (found-means (area_of l) (area-valid l v) n k)))

  named-stands : (f : (Result (Optional FoundOver) RefusedOver)) → f ≡ over_of (own_found k d) (found_in n k t) → StandsOver b l f (handed (lookup_over p q n k d t))
  named-stands f e =
      subst (λ (x : (Result (Optional FoundOver) RefusedOver)). StandsOver b l x (handed (lookup_over p q n k d t))) (sym e)
      (means-stands b l (over_of (own_found k d) (found_in n k t)) (lookup_over p q n k d t) named-means)

  -- the code found the place f there
  pub named-within : (f : (Result (Optional FoundOver) RefusedOver)) → f ≡ over_of (own_found k d) (found_in n k t) → Within (length b) (length l) f
  named-within f e = (named-stands f e).0

  pub named-hands : (f : (Result (Optional FoundOver) RefusedOver)) → f ≡ over_of (own_found k d) (found_in n k t) → (op tp r : ℕ × ℕ) (bytes : List ℕ) → HandsOver (part_over b l f) op tp bytes r
      → HandsOver (value_over p q n k d t) op tp bytes r
  named-hands f e op tp r bytes g =
      subst (λ (x : Bool). HandsOver (record { bytes = handed (lookup_over p q n k d t); over = x; start = start_of seen_place }) op tp bytes r) (same-side (front_in p q n t) (found_over p q n k d t))
      (subst (λ (x : (Result (Optional FoundOver) RefusedOver)). HandsOver (record { bytes = handed (lookup_over p q n k d t); over = is_over x; start = start_of x }) op tp bytes r) (e ∙ named-place)
      (subst (λ (x : List ℕ). HandsOver (record { bytes = x; over = is_over f; start = start_of f }) op tp bytes r) (named-stands f e).1 g))

-- one that it may not name: nothing is handed out
pub other-held : (p : Profile) (q : Party) (n : ℕ) (k : List ℕ) (d : Node) (t : Table) → sees p q k ≡ false → nothing_held ≡ value_over p q n k d t
unfolding lookup_over rule.lookup_as
other-held p q n k d t h =
    go (found_in n k (seen p q t)) (rule.lookup n k (seen p q t))
    ∙ ap
    (λ (u : Bool). record {
      bytes = handed (ruled_over (lookup_on k (some d)) (rule.unless_other u (rule.lookup n k (seen p q t))));
      over = is_over (over_of (own_found k d) (unless_other u (found_in n k (seen p q t))));
      start = start_of (moved_by (front_in p q n t) (over_of (own_found k d) (unless_other u (found_in n k (seen p q t)))));
    })
    (sym h)
  where
    held : (Result (Optional Found) Refusal) → rule.Found → HandedOver
    held f r =
        record {
          bytes = handed (ruled_over (lookup_on k (some d)) (rule.unless_other false r));
          over = is_over (over_of (own_found k d) (unless_other false f));
          start = start_of (moved_by (front_in p q n t) (over_of (own_found k d) (unless_other false f)));
        }

    go : (f : (Result (Optional Found) Refusal)) (r : rule.Found) → nothing_held ≡ held f r
    go (Ok (Some f)) (rule.Value x) = refl
    go (Ok (Some f)) rule.Nothing = refl
    go (Ok (Some f)) (rule.NotFound r) = refl
    go (Ok None) (rule.Value x) = refl
    go (Ok None) rule.Nothing = refl
    go (Ok None) (rule.NotFound r) = refl
    go (Err w) (rule.Value x) = refl
    go (Err w) rule.Nothing = refl
    go (Err w) (rule.NotFound r) = refl

-- ---- the ticket's words

-- the bytes of the override if its record is there and unhidden, else those of the node, for a key that the party may name
pub over_reads : (p : Profile) (q : Party) (n : ℕ) (k : List ℕ) (o m : Node) (t : Table) → node_of n t ≡ some m → length k ≤ max_key → sees p q k ≡ true
    → lookup_over p q n k o t ≡ found_of (over_found k o m)
unfolding lookup_over rule.lookup
over_reads p q n k o m t h s named =
    let short : (x y : rule.Found) → pick (leb (length k) max_key) x y ≡ x = λ x y. pick_true (leb (length k) max_key) x y (le-leb (length k) max_key s) in
    ap₂ ruled_over (short (found_of (shown (find k o.recs))) (rule.NotFound TooLong))
    (sym (same-value p q n k t named) ∙ ap (lookup_on k) h ∙ short (found_of (shown (find k m.recs))) (rule.NotFound TooLong))
    ∙ go (shown (find k o.recs)) (shown (find k m.recs))
  where
    go : (x y : Option (List ℕ)) → ruled_over (found_of x) (found_of y) ≡ found_of (or_else x y)
    go none none = refl
    go none (some w) = refl
    go (some v) none = refl
    go (some v) (some w) = refl

-- and 19 before both, for one that it may not name, behind 2 and 1
pub other-reads : (p : Profile) (q : Party) (n : ℕ) (k : List ℕ) (o m : Node) (t : Table) → node_of n t ≡ some m → length k ≤ max_key → sees p q k ≡ false
    → lookup_over p q n k o t ≡ rule.NotFound OtherParty
unfolding lookup_over rule.lookup_as rule.lookup
other-reads p q n k o m t h s foreign =
    ap (ruled_over (lookup_on k (some o)))
    (ap (λ (u : Bool). rule.unless_other u (lookup_on k (node_of n (seen p q t)))) foreign
    ∙ ap (λ (x : Option Node). rule.unless_other false (lookup_on k x)) (node_seen p q n t ∙ ap (seen_held p q) h)
    ∙ ap (λ (u : Bool). rule.unless_other false (pick u (found_of (shown (find k (seen_node p q m).recs))) (rule.NotFound TooLong))) (le-leb (length k) max_key s)
    ∙ go (shown (find k (seen_node p q m).recs)))
  where
    go : (x : Option (List ℕ)) → rule.unless_other false (found_of x) ≡ rule.NotFound OtherParty
    go none = refl
    go (some v) = refl
