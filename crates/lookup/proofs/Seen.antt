-- What a lookup by a party finds: the places of the table that it sees (`seen-finds`). A key that the party may name is found in the lent bytes at the same
-- place, moved by the front (`front-found`), and the rules find the same value (`same-value`). Assumes nothing.
use Prim.Native.Nat.{ℕ, suc, ◌*◌, ◌-◌, ◌≤◌, ◌<◌}
use mathlib.Core.Path.{◌≡◌, refl, ap, ap₂, sym, ◌∙◌, subst}
use mathlib.Core.Bool.{Bool, true, false}
use mathlib.Core.List.{List, [], ◌∷◌}
use mathlib.Core.Option.{Option, none, some}
use native.Mathlib.Omega.{arith}
use lib.ListN.{length}
use lib.Dec.{leb}
use borrow.Author.Tests.{le-leb, lt-leb}
use Rattle.fields.specs.Choice.{pick}
use Rattle.fields.specs.Order.{same_bytes}
use Rattle.fields.specs.Parts.{part}
use Rattle.rules.specs.Sizes.{max_key}
use Rattle.rules.specs.Node.{Rec, Node, hidden, find, shown}
use Rattle.rules.specs.Table.{Table, node_of, keys_rise}
use Rattle.rules.specs.Party.{sees, seen_recs, seen}
use Rattle.rules.specs.Profile.{recs_formed, profile_obeys}
use Rattle.rules.specs.Local as rule
use Rattle.rules.specs.Local.{found_of, lookup_on}
use Rattle.rules.specs.Layout.{rec_width, node_width, decode_node, decode, valid}
use Rattle.rules.specs.Whole.{area_of, decode_whole, valid_whole}
use Rattle.rules.specs.declared.Profile.{Profile}
use Rattle.rules.specs.declared.Party.{Party}
use Rattle.rules.specs.declared.Refusal.{Refusal}
use Rattle.rules.specs.declared.Refusal.TheVariants.{TooLong, NoNode, OtherParty}
use Rattle.rules.proofs.Formed.{node-formed}
use Rattle.table.specs.Tests.{recs_in}
use Rattle.table.proofs.Places.{rec_at}
use Rattle.table.proofs.Wholes.{area-valid, area-formed}
use Rattle.table_read.specs.Find.{find_key, span_in, node_start}
use Rattle.table_read.specs.declared.Place.{Place}
use Rattle.table_read.specs.declared.Place.TheVariants as place
use Rattle.std.specs.Prelude.{Option as Optional}
use Rattle.std.specs.Prelude.{Err, None, Ok, Result, Some}
use Rattle.lookup.specs.declared.Found.{Found}
use Rattle.table_read.specs.declared.Span.{Span}
use Rattle.table_read.proofs.Held.{held-rises, held_start, held-node, missing-node}
use Rattle.own_rows.specs.Sight.{sight_in, seen_node, seen_held, front_in}
use Rattle.own_rows.proofs.Keys.{find-seen, own_behind, own-there, own-nowhere}
use Rattle.own_rows.proofs.Tables.{seen-recs, node_seen, seen-stands}
use Rattle.lookup.specs.Lookup.{value_place, found_rec, find_rec, find_on, found_in, unless_other, find_on_as, find_as, start_of, handed, moved_by}
use Rattle.lookup.proofs.Values.{value-place, value-nowhere, Stands, found-stands, area-stands}

-- ---- in a node

-- 19 comes behind a refusal
pub refused-first : (t : Bool) (r : Refusal) → Err r ≡ unless_other t (Err r)
refused-first true r = refl
refused-first false r = refl

-- the search itself refuses nothing
none-refused : (k : List ℕ) (start j : ℕ) (l : List Rec) → Err OtherParty ≡ unless_other false (find_rec k start j l)
unfolding find_rec
none-refused k start j [] = refl
none-refused k start j (a ∷ l) = go (same_bytes k a.kv.key) (hidden a.kv.status) (none-refused k start (suc j) l)
  where
    go : (t u : Bool) → Err OtherParty ≡ unless_other false (find_rec k start (suc j) l)
        → Err OtherParty ≡ unless_other false (pick t (pick u (Ok None) (Ok (Some (record { start = (value_place start j); len = (length a.kv.value) })))) (find_rec k start (suc j) l))
    go true true ih = refl
    go true false ih = refl
    go false u ih = ih

module _ (p : Profile) (q : Party) (k : List ℕ) (start : ℕ) (n : Node) where
  pub long-first : max_key < length k → Err TooLong ≡ find_on_as p q k start (some n)
  long-first h =
      refused-first (sees p q k) TooLong
      ∙ ap (λ (t : Bool). unless_other (sees p q k) (pick t (find_rec k start 0 (seen_node p q n).recs) (Err TooLong))) (sym (lt-leb (length k) max_key h))

  -- the key is not too long, and the test of its name came out so
  module _ (h : length k ≤ max_key) {t : Bool} (e : t ≡ sees p q k) where
    short : {u : Bool} → t ≡ u → unless_other u (find_rec k start 0 (seen_recs p q n.recs)) ≡ find_on_as p q k start (some n)
    short y =
        ap₂ (λ (u : Bool) (l : List Rec). unless_other u (find_rec k start 0 l)) (sym y ∙ e) (sym (seen-recs p q n))
        ∙ ap (λ (u : Bool). unless_other (sees p q k) (pick u (find_rec k start 0 (seen_node p q n).recs) (Err TooLong))) (sym (le-leb (length k) max_key h))

    pub named-finds : t ≡ true → (r : (Result (Optional Found) Refusal)) → r ≡ find_rec k start 0 (seen_recs p q n.recs) → r ≡ find_on_as p q k start (some n)
    named-finds y r f = f ∙ short y

    pub other-first : t ≡ false → Err OtherParty ≡ find_on_as p q k start (some n)
    other-first y = none-refused k start 0 (seen_recs p q n.recs) ∙ short y

-- what the search among all records says of those that the party sees
module _ (p : Profile) (q : Party) (k b : List ℕ) (start : ℕ) (s : keys_rise (recs_in b) ≡ true) (f : recs_formed p (recs_in b) ≡ true) (h : sees p q k ≡ true) where
  pub own_value : (j : ℕ) → find_key k (recs_in b) ≡ place.At j
      → found_rec start (j - (sight_in p q (recs_in b)).low) (rec_at j b) ≡ find_rec k start 0 (seen_recs p q (recs_in b))
  unfolding find_rec
  own_value j e = sym (own-there p q b s f k h (found_rec start) (Ok None) (find_rec k start) (λ m. refl) (λ m a l. refl) j e)

  pub no-own-value : (j : ℕ) → find_key k (recs_in b) ≡ place.Free j → (Ok None) ≡ find_rec k start 0 (seen_recs p q (recs_in b))
  unfolding find_rec
  no-own-value j e = sym (own-nowhere p q b s f k h (found_rec start) (Ok None) (find_rec k start) (λ m. refl) (λ m a l. refl) j e)

  -- and where it stands in the bytes
  abbrev low : ℕ
  low = (sight_in p q (recs_in b)).low

  rec-moved : (j : ℕ) → low ≤ j → found_rec start j (rec_at j b) ≡ moved_by (low * rec_width) (found_rec start (j - low) (rec_at j b))
  rec-moved j g = go (hidden (rec_at j b).kv.status)
    where
      go : (t : Bool) → pick t (Ok None) (Ok (Some (record { start = (value_place start j); len = (length (rec_at j b).kv.value) })))
          ≡ moved_by (low * rec_width) (pick t (Ok None) (Ok (Some (record { start = (value_place start (j - low)); len = (length (rec_at j b).kv.value) }))))
      go true = refl
      go false = ap (λ (m : ℕ). (Ok (Some (record { start = m; len = (length (rec_at j b).kv.value) })))) (omega (arith, g))

  pub node-moved : find_rec k start 0 (recs_in b) ≡ moved_by (low * rec_width) (find_rec k start 0 (seen_recs p q (recs_in b)))
  node-moved = go (find_key k (recs_in b)) refl
    where
      go : (r : Place) → r ≡ find_key k (recs_in b) → find_rec k start 0 (recs_in b) ≡ moved_by (low * rec_width) (find_rec k start 0 (seen_recs p q (recs_in b)))
      go (place.At j) e =
          sym (value-place k b start e refl (found_rec start j (rec_at j b)) refl)
          ∙ rec-moved j (own_behind p q b s f k h j (sym e))
          ∙ ap (moved_by (low * rec_width)) (own_value j (sym e))
      go (place.Free j) e = sym (value-nowhere k b start e s refl) ∙ ap (moved_by (low * rec_width)) (no-own-value j (sym e))

-- ---- in a table

module _ (p : Profile) (q : Party) (n : ℕ) (k : List ℕ) (t : Table) where
  pub seen-finds : find_on_as p q k (node_start n t) (node_of n t) ≡ find_as p q n k t
  seen-finds = ap (unless_other (sees p q k)) (seen-stands find_on k p q n t)

  pub none-held : node_of n t ≡ none → Err NoNode ≡ find_as p q n k t
  none-held e =
      refused-first (sees p q k) NoNode
      ∙ ap (λ (o : Option Node). unless_other (sees p q k) (find_on k (node_start n t) (seen_held p q o))) (sym e)
      ∙ seen-finds

  -- a key that it may not name: nothing is handed out
  module _ (h : sees p q k ≡ false) where
    pub other-value : [] ≡ handed (rule.lookup_as p q n k t)
    unfolding rule.lookup_as
    other-value = go (rule.lookup n k (seen p q t)) ∙ ap (λ (u : Bool). handed (rule.unless_other u (rule.lookup n k (seen p q t)))) (sym h)
      where
        go : (f : rule.Found) → [] ≡ handed (rule.unless_other false f)
        go (rule.Value v) = refl
        go rule.Nothing = refl
        go (rule.NotFound r) = refl

    pub other_place : (m : ℕ) → 0 ≡ start_of (moved_by m (find_as p q n k t))
    other_place m = go (found_in n k (seen p q t)) ∙ ap (λ (u : Bool). start_of (moved_by m (unless_other u (found_in n k (seen p q t))))) (sym h)
      where
        go : (f : (Result (Optional Found) Refusal)) → 0 ≡ start_of (moved_by m (unless_other false f))
        go (Ok (Some f)) = refl
        go (Ok None) = refl
        go (Err r) = refl

  -- a key that it may name
  module _ (h : sees p q k ≡ true) where
    same-on : (o : Option Node) → lookup_on k o ≡ lookup_on k (seen_held p q o)
    same-on none = refl
    same-on (some m) =
        ap (λ (r : Option Rec). pick (leb (length k) max_key) (found_of (shown r)) (rule.NotFound TooLong))
        (sym (find-seen p q k h m.recs) ∙ ap (find k) (sym (seen-recs p q m)))

    pub same-value : rule.lookup n k t ≡ rule.lookup_as p q n k t
    unfolding rule.lookup rule.lookup_as
    same-value =
        same-on (node_of n t)
        ∙ ap (lookup_on k) (sym (node_seen p q n t))
        ∙ ap (λ (u : Bool). rule.unless_other u (lookup_on k (node_of n (seen p q t)))) (sym h)

    pub named-as : find_as p q n k t ≡ found_in n k (seen p q t)
    named-as = ap (λ (u : Bool). unless_other u (found_in n k (seen p q t))) h

-- in the bytes of a good table
pub front-found : (p : Profile) (q : Party) (n : ℕ) (k l : List ℕ) → valid l ≡ true → profile_obeys p (decode l) ≡ true → sees p q k ≡ true
    → found_in n k (decode l) ≡ moved_by (front_in p q n (decode l)) (find_as p q n k (decode l))
front-found p q n k l v g h = go (span_in n l) refl ∙ ap (moved_by (front_in p q n t)) (seen-stands find_on k p q n t ∙ sym (named-as p q n k t h))
  where
    t : Table
    t = decode l

    on : (start : ℕ) (m : Node) → find_rec k start 0 m.recs ≡ moved_by ((sight_in p q m.recs).low * rec_width) (find_rec k start 0 (seen_recs p q m.recs))
        → find_on k start (some m) ≡ moved_by ((sight_in p q m.recs).low * rec_width) (find_on k start (some (seen_node p q m)))
    on start m e = long (leb (length k) max_key)
      where
        long : (b : Bool) → pick b (find_rec k start 0 m.recs) (Err TooLong)
            ≡ moved_by ((sight_in p q m.recs).low * rec_width) (pick b (find_rec k start 0 (seen_node p q m).recs) (Err TooLong))
        long true = e ∙ ap (λ (x : List Rec). moved_by ((sight_in p q m.recs).low * rec_width) (find_rec k start 0 x)) (sym (seen-recs p q m))
        long false = refl

    go : (s : (Optional Span)) → span_in n l ≡ s → found_in n k t ≡ moved_by (front_in p q n t) (find_on k (node_start n t) (seen_held p q (node_of n t)))
    go (Some s) e =
        let b : List ℕ = part s.start node_width l in
        let f : recs_formed p (recs_in b) ≡ true = node-formed p n t g (held-node n l v e) in
        rw (held_start n l v e, held-node n l v e) (on s.start (decode_node b).node (node-moved p q k b s.start (held-rises n l v e) f h))
    go None e = rw (missing-node n l v e) refl

-- and in a whole good table: what is handed out
module _ (l : List ℕ) (v : valid_whole l ≡ true) (q : Party) (n : ℕ) (k : List ℕ) (h : sees (decode_whole l).kind.profile q k ≡ true) where
  abbrev profile : Profile
  profile = (decode_whole l).kind.profile

  abbrev table : Table
  table = decode (area_of l)

  pub whole-found : found_in n k table ≡ moved_by (front_in profile q n table) (find_as profile q n k table)
  whole-found = front-found profile q n k (area_of l) (area-valid l v) (area-formed l v) h

  pub whole-stands : Stands l (moved_by (front_in profile q n table) (find_as profile q n k table)) (handed (rule.lookup_as profile q n k table))
  whole-stands =
      subst (λ (f : (Result (Optional Found) Refusal)). Stands l f (handed (rule.lookup_as profile q n k table))) whole-found
      (subst (λ (r : rule.Found). Stands l (found_in n k table) (handed r)) (same-value profile q n k table h)
      (area-stands l v (found_in n k table) (handed (rule.lookup n k table)) (found-stands (area_of l) (area-valid l v) n k)))
