-- The bytes at the place that is found of a record's text are the record's key or value (`text-stands`, `whole-text-stands`). Assumes nothing.
use Prim.Native.Nat.{ℕ, ◌+◌, ◌*◌, ◌≤◌, ◌<◌}
use mathlib.Core.Path.{◌≡◌, refl, ap, sym, subst}
use mathlib.Core.Bool.{Bool, true, false}
use mathlib.Core.List.{List}
use mathlib.Core.Option.{Option, none, some}
use native.Mathlib.Omega.{arith}
use lib.ListN.{length}
use lib.Dec.{ltb}
use borrow.Author.Tests.{ltb-true, ltb-false}
use Rattle.fields.specs.Parts.{part}
use Rattle.rules.specs.Node.{Rec, Node}
use Rattle.rules.specs.Layout.{rec_width, node_width, decode_rec, decode_node, decode, valid}
use Rattle.rules.specs.Table.{Table, node_of}
use Rattle.rules.specs.Party.{seen}
use Rattle.rules.specs.Profile.{recs_formed, profile_obeys}
use Rattle.rules.specs.declared.Profile.{Profile}
use Rattle.rules.specs.declared.Party.{Party}
use Rattle.rules.specs.Whole.{area_of, decode_whole, valid_whole}
use Rattle.rules.specs.declared.Refusal.TheVariants.{NoNode, NoPlace}
use Rattle.rules.proofs.Formed.{node-formed}
use Rattle.table.specs.Tests.{key_length, value_length, count_of, recs_in}
use Rattle.table.proofs.Places.{rec_bytes, rec_at}
use Rattle.table.proofs.Laid.{laid-key, laid-value}
use Rattle.table.proofs.Wholes.{area-valid, area-formed}
use Rattle.table_read.specs.Find.{span_in, node_start}
use Rattle.std.specs.Prelude.{Option as Optional}
use Rattle.std.specs.Prelude.{Err, None, Ok, Result, Some}
use Rattle.lookup.specs.declared.Found.{Found}
use Rattle.rules.specs.declared.Refusal.{Refusal}
use Rattle.table_read.specs.declared.Span.{Span}
use Rattle.table_read.proofs.Held.{held-laid, held-rises, held_start, held-node, missing-node}
use Rattle.own_rows.specs.Sight.{sight_in, seen_node, seen_held, front_on, front_in}
use Rattle.own_rows.proofs.Tables.{node_seen, seen-stands}
use Rattle.lookup.specs.Lookup.{moved_by}
use Rattle.lookup.proofs.Values.{text-within, text-there, Stands, refused-stands, area-stands}
use Rattle.inspect.specs.Look.{element_at, front_told, front_as}
use Rattle.inspect.proofs.Elements.{own-within, rec-there, no-rec-there}
use Rattle.inspect_text.specs.Texts.{text_of, text_offset, place_on, text_on, text_found_as, record_bytes, bytes_on, bytes_in, counted_or}
use Rattle.inspect_text.specs.declared.Text.{Text}
use Rattle.inspect_text.specs.declared.Text.TheVariants.{Key, Value}

module _ (n : ℕ) (l : List ℕ) (v : valid l ≡ true) {start end : ℕ} (e : span_in n l ≡ (Some (record { start = start; end = end }))) (j : ℕ) where
  abbrev node : List ℕ
  node = part start node_width l

  -- of record j
  rec-stands : (x : Text) → j < count_of node → Stands l (place_on x start j (some (rec_at j node))) (text_of x (rec_at j node))
  unfolding decode_rec
  rec-stands Key g =
      let m : ℕ = key_length (rec_bytes j node) in
      let fits : text_offset Key + m ≤ rec_width = omega (arith, laid-key node (held-laid n l v e) j g) in
      let key : List ℕ = (rec_at j node).kv.key in
      (text-within n l v e j g (text_offset Key) m fits key refl, text-there n l v e j g (text_offset Key) m fits key refl)
  rec-stands Value g =
      let m : ℕ = value_length (rec_bytes j node) in
      let fits : text_offset Value + m ≤ rec_width = omega (arith, laid-value node (held-laid n l v e) j g) in
      let value : List ℕ = (rec_at j node).kv.value in
      (text-within n l v e j g (text_offset Value) m fits value refl, text-there n l v e j g (text_offset Value) m fits value refl)

-- of what stands in place j of what a party sees of the node
module _ (p : Profile) (q : Party) (n : ℕ) (l : List ℕ) (v : valid l ≡ true) (g : profile_obeys p (decode l) ≡ true) {start end : ℕ} (e : span_in n l ≡ (Some (record { start = start; end = end }))) (j : ℕ) where
  abbrev bytes : List ℕ
  bytes = part start node_width l

  abbrev low : ℕ
  low = (sight_in p q (recs_in bytes)).low

  formed : recs_formed p (recs_in bytes) ≡ true
  formed = node-formed p n (decode l) g (held-node n l v e)

  -- further back by the front
  moved : (x : Text) (r : Rec) → place_on x start (low + j) (some r) ≡ moved_by (low * rec_width) (place_on x start j (some r))
  moved x r = ap (λ (k : ℕ). (Ok (Some (record { start = k; len = (length (text_of x r)) })))) (omega arith)

  place-stands : (x : Text) → let o = element_at j (seen_node p q (decode_node bytes).node).recs in
      Stands l (moved_by (low * rec_width) (place_on x start j o)) (record_bytes x o)
  place-stands x = go (ltb j (sight_in p q (recs_in bytes)).count) refl
    where
      There : Option Rec → Type 0
      There o = Stands l (moved_by (low * rec_width) (place_on x start j o)) (record_bytes x o)

      go : (t : Bool) → ltb j (sight_in p q (recs_in bytes)).count ≡ t → There (element_at j (seen_node p q (decode_node bytes).node).recs)
      go true y =
          let h : j < (sight_in p q (recs_in bytes)).count = ltb-true _ _ y in
          let id : Option Rec → Option Rec = λ o. o in
          subst There (rec-there p q bytes (held-rises n l v e) formed refl id j h _ refl)
          (subst (λ (f : (Result (Optional Found) Refusal)). Stands l f (text_of x (rec_at (low + j) bytes))) (moved x (rec_at (low + j) bytes))
          (rec-stands n l v e (low + j) x (own-within p q bytes (held-rises n l v e) formed refl id j h)))
      go false y =
          subst There (no-rec-there p q bytes (held-rises n l v e) formed refl (λ (o : Option Rec). o) j (ltb-false _ _ y))
          (refused-stands l (Err NoPlace) refl refl)

-- in a good table of a profile
pub text-stands : (p : Profile) (q : Party) (l : List ℕ) (v : valid l ≡ true) → profile_obeys p (decode l) ≡ true → (x : Text) (n j : ℕ)
    → Stands l (moved_by (front_in p q n (decode l)) (text_found_as p q x n j (decode l))) (bytes_in x n j (seen p q (decode l)))
text-stands p q l v g x n j =
    subst (λ (f : (Result (Optional Found) Refusal)). Stands l (moved_by (front_in p q n t) f) (bytes_in x n j (seen p q t))) (seen-stands (text_on x) j p q n t)
    (subst (λ (o : Option Node). Stands l (moved_by (front_in p q n t) (text_on x j (node_start n t) (seen_held p q (node_of n t)))) (bytes_on x j o)) (sym (node_seen p q n t))
    (go (span_in n l) refl))
  where
    t : Table
    t = decode l

    go : (s : (Optional Span)) → span_in n l ≡ s → Stands l (moved_by (front_in p q n t) (text_on x j (node_start n t) (seen_held p q (node_of n t)))) (bytes_on x j (seen_held p q (node_of n t)))
    go (Some s) e = rw (held_start n l v e, held-node n l v e) (place-stands p q n l v g e j x)
    go None e = rw (missing-node n l v e) (refused-stands l (Err NoNode) refl refl)

-- and in a whole good table
pub whole-text-stands : (l : List ℕ) → valid_whole l ≡ true → (q : Party) (x : Text) (n j : ℕ)
    → let p = (decode_whole l).kind.profile in
    Stands l (moved_by (front_in p q n (decode (area_of l))) (text_found_as p q x n j (decode (area_of l)))) (bytes_in x n j (seen p q (decode (area_of l))))
whole-text-stands l v q x n j =
    let p : Profile = (decode_whole l).kind.profile in
    let t : Table = decode (area_of l) in
    area-stands l v (moved_by (front_in p q n t) (text_found_as p q x n j t)) (bytes_in x n j (seen p q t))
    (text-stands p q (area_of l) (area-valid l v) (area-formed l v) x n j)

-- the front, as it is counted
pub counted-front : (p : Profile) (q : Party) (n : ℕ) (t : Table) → counted_or (front_as p q n t) ≡ front_in p q n t
counted-front p q n t = go (node_of n t)
  where
    go : (o : Option Node) → counted_or (front_told p q o) ≡ front_on p q o
    go none = refl
    go (some m) = refl
