-- What the merged listing is, in the words of the ticket: it has each key once, rising; and a key that a party may name is listed exactly where the lookup finds
-- it, in the same slice; no other key is listed. There are at most as many hits as records. Assumes nothing.
use Prim.Native.Nat.{ℕ, suc, ◌+◌, ◌-◌, ◌≤◌, ◌<◌}
use mathlib.Core.Path.{◌≡◌, refl, ap, ap₂, sym, ◌∙◌, subst}
use mathlib.Core.Bool.{Bool, true, false, not, ◌&&◌, true≢false, false≢true}
use mathlib.Core.List.{List, [], ◌∷◌}
use mathlib.Core.Option.{Option, some}
use native.Mathlib.Omega.{arith}
use native.Mathlib.Nat.{add-zero, zero-add}
use lib.ListN.{length}
use lib.Dec.{leb}
use borrow.Author.Tests.{le-leb, lt-leb}
use Rattle.fields.specs.Choice.{pick, ◌∈◌, here, later}
use Rattle.fields.specs.Order.{same_bytes, less_bytes, starts_with}
use Rattle.fields.specs.Parts.{put}
use Rattle.fields.proofs.Choice.{pick_true, pick-false, keep-from}
use Rattle.fields.proofs.Ordered.{same_true, less_other, same_false}
use Rattle.rules.specs.Given.{Gives}
use Rattle.rules.specs.Sizes.{max_key}
use Rattle.rules.specs.Node.{Rec, Node, hidden, hits}
use Rattle.rules.specs.Table.{Table, keys_rise, node_of}
use Rattle.rules.specs.Party.{own, sees, seen_recs, seen}
use Rattle.rules.specs.Layout.{decode_node, decode, valid}
use Rattle.rules.specs.declared.Profile.{Profile}
use Rattle.rules.specs.declared.Profile.TheVariants.{Free, Meter, Shared}
use Rattle.rules.specs.declared.Party.{Party}
use Rattle.rules.specs.declared.Refusal.TheVariants.{NoPlace, TooLong}
use Rattle.rules.proofs.Records.{Above, Sorted, key_of}
use Rattle.rules.proofs.Keeps.{length-keep}
use Rattle.rules.proofs.Obeys.{OkNode, keys-sorted, sorted-keys, table-facts}
use Rattle.rules.proofs.Calls.{node-ok-in}
use Rattle.table.specs.Tests.{recs_in}
use Rattle.table.proofs.Nodes.{ObeysEntry, entry-obeys}
use Rattle.table.proofs.Tables.{valid-obeys}
use Rattle.table_read.specs.Find.{node_start}
use Rattle.own_rows.specs.Sight.{seen_node, seen_held}
use Rattle.own_rows.proofs.Laws.{seen-sorted}
use Rattle.own_rows.proofs.Tables.{seen-recs, node_seen, start_seen}
use Rattle.lookup.specs.Lookup.{value_place, find_rec, find_on, found_in, unless_other, find_as}
use Rattle.std.specs.Prelude.{Option as Optional}
use Rattle.std.specs.Prelude.{Err, None, Ok, Result, Some}
use Rattle.lookup.specs.declared.Found.{Found}
use Rattle.over_find.specs.declared.FoundOver.{FoundOver}
use Rattle.overrides.specs.declared.RefusedOver.{RefusedOver}
use Rattle.rules.specs.declared.Refusal.{Refusal}
use Rattle.over_find.specs.declared.FoundOver.TheVariants as place
use Rattle.overrides.specs.Overrides.{valid_node}
use Rattle.overrides.specs.declared.Which.TheVariants as which
use Rattle.overrides.proofs.Valid.{over-obeys}
use Rattle.over_find.specs.Over.{over_of, first_of, found_over}
use Rattle.over_list.specs.Stated.{place_of, listed_at}
use Rattle.over_list.specs.Merged.{Hit, hit, key_of_hit, over_place, hits_by, hits_in, own_hits, lay_over, overlaid, places_of, recs_of, listing, listing_as, list_into, list_on, list_over}
use Rattle.over_list.proofs.Laying.{hits_few, overlaid-few, hits-rise, overlaid-rise, recs-sorted}

-- the test of the overrides' hits
abbrev own_test : (mine : List ℕ → Bool) (prefix : List ℕ) → Rec → Bool
own_test mine p r = mine (key_of r) && hits p r

-- a party sees no more records than there are
pub seen-short : (pr : Profile) (q : Party) (l : List Rec) → length (seen_recs pr q l) ≤ length l
seen-short Free q l = omega arith
seen-short Meter q l = omega arith
seen-short Shared q l = length-keep (λ (x : Rec). own q (key_of x)) l

-- ---- how many

places-long : (l : List Hit) → length (places_of l) ≡ length l
unfolding places_of
places-long [] = refl
places-long (h ∷ l) = ap suc (places-long l)

pub listing-few : (mine : List ℕ → Bool) (p : List ℕ) (o n : List Rec) → length (places_of (listing mine p o n)) ≤ length o + length n
unfolding listing
listing-few mine p o n =
    omega (arith, places-long (listing mine p o n), overlaid-few (own_hits mine p over_place o) (hits_in p 0 n), hits_few (own_test mine p) over_place o, hits_few (hits p) 0 n)

-- into the lent list
module _ (found l : List ℕ) (n : ℕ) (e : n ≡ length found) where
  pub no_room : length l < n → Gives (list_into found l) (Err (record { which = which.Neither; why = NoPlace })) l
  no_room h = rw (lt-leb (length found) (length l) (omega arith)) (refl, refl)

  pub all_listed : n ≤ length l → (m : List ℕ) → m ≡ put 0 found l → Gives (list_into found l) (Ok n) m
  all_listed h m q = rw (le-leb (length found) (length l) (omega arith)) (ap Ok e, q)

-- ---- each key once, rising

pub keys-once : (mine : List ℕ → Bool) (p : List ℕ) (o n : List Rec) → keys_rise n ≡ true → keys_rise (recs_of (listing mine p o n)) ≡ true
unfolding listing
keys-once mine p o n s =
    sorted-keys (recs_of (overlaid (own_hits mine p over_place o) (hits_in p 0 n)))
    (recs-sorted (overlaid (own_hits mine p over_place o) (hits_in p 0 n)) (overlaid-rise (own_hits mine p over_place o) (hits_in p 0 n) (hits-rise (hits p) 0 n (keys-sorted n s))))

-- ---- a key is listed exactly where the lookup finds it

-- the first of two that is there
abbrev or_else : (Result (Optional FoundOver) RefusedOver) → (Result (Optional FoundOver) RefusedOver) → (Result (Optional FoundOver) RefusedOver)
or_else (Ok (Some (place.InOverrides s n))) x = (Ok (Some (place.InOverrides s n)))
or_else (Ok (Some (place.InTable s n))) x = (Ok (Some (place.InTable s n)))
or_else (Ok None) x = x
or_else (Err rr) x = (Err (record { which = rr.which; why = rr.why }))

module _ (k : List ℕ) (start : ℕ) where
  there : (h : Hit) (x : (Result (Optional FoundOver) RefusedOver)) → or_else (place_of start h) x ≡ place_of start h
  there h x = go (leb over_place h.place)
    where
      go : (t : Bool) → or_else (pick t (Ok (Some (place.InOverrides (value_place 0 (h.place - over_place)) (length h.rec.kv.value)))) (Ok (Some (place.InTable (value_place start h.place) (length h.rec.kv.value))))) x
          ≡ pick t (Ok (Some (place.InOverrides (value_place 0 (h.place - over_place)) (length h.rec.kv.value)))) (Ok (Some (place.InTable (value_place start h.place) (length h.rec.kv.value))))
      go true = refl
      go false = refl

  -- one hit laid over others
  lay-listed : (h : Hit) (l : List Hit) → listed_at k start (lay_over h l) ≡ pick (same_bytes k (key_of_hit h)) (place_of start h) (listed_at k start l)
  unfolding lay_over listed_at
  lay-listed h [] = refl
  lay-listed h (a ∷ l) = go (same_bytes (key_of_hit h) (key_of_hit a)) refl (less_bytes (key_of_hit h) (key_of_hit a)) (same_bytes k (key_of_hit h)) refl (same_bytes k (key_of_hit a)) refl (lay-listed h l)
    where
      rest : (Result (Optional FoundOver) RefusedOver)
      rest = listed_at k start l

      go : (s : Bool) → same_bytes (key_of_hit h) (key_of_hit a) ≡ s → (t u : Bool) → same_bytes k (key_of_hit h) ≡ u → (v : Bool) → same_bytes k (key_of_hit a) ≡ v
          → listed_at k start (lay_over h l) ≡ pick (same_bytes k (key_of_hit h)) (place_of start h) rest
          → listed_at k start (pick s (h ∷ l) (pick t (h ∷ a ∷ l) (a ∷ lay_over h l))) ≡ pick u (place_of start h) (pick v (place_of start a) rest)
      go true e t true p v q ih = pick_true (same_bytes k (key_of_hit h)) (place_of start h) rest p
      go true e t false p true q ih =
          absurd (same_false k (key_of_hit h) p (same_true k (key_of_hit a) q ∙ sym (same_true (key_of_hit h) (key_of_hit a) e)))
      go true e t false p false q ih = pick-false (same_bytes k (key_of_hit h)) (place_of start h) rest p
      go false e true u p v q ih =
          ap₂ (λ (x y : Bool). pick x (place_of start h) (pick y (place_of start a) rest)) p q
      go false e false true p true q ih =
          absurd (same_false (key_of_hit h) (key_of_hit a) e (sym (same_true k (key_of_hit h) p) ∙ same_true k (key_of_hit a) q))
      go false e false true p false q ih = pick-false (same_bytes k (key_of_hit a)) (place_of start a) _ q ∙ ih ∙ pick_true (same_bytes k (key_of_hit h)) (place_of start h) rest p
      go false e false false p true q ih = pick_true (same_bytes k (key_of_hit a)) (place_of start a) _ q
      go false e false false p false q ih = pick-false (same_bytes k (key_of_hit a)) (place_of start a) _ q ∙ ih ∙ pick-false (same_bytes k (key_of_hit h)) (place_of start h) rest p

  -- all of them
  overlaid-listed : (os ns : List Hit) → listed_at k start (overlaid os ns) ≡ or_else (listed_at k start os) (listed_at k start ns)
  unfolding overlaid listed_at
  overlaid-listed [] ns = refl
  overlaid-listed (o ∷ os) ns = lay-listed o (overlaid os ns) ∙ go (same_bytes k (key_of_hit o)) (overlaid-listed os ns)
    where
      go : (t : Bool) → listed_at k start (overlaid os ns) ≡ or_else (listed_at k start os) (listed_at k start ns)
          → pick t (place_of start o) (listed_at k start (overlaid os ns)) ≡ or_else (pick t (place_of start o) (listed_at k start os)) (listed_at k start ns)
      go true ih = sym (there o (listed_at k start ns))
      go false ih = ih

  -- a key that comes before all records is not among them
  unlisted : (f : Rec → Bool) (i : ℕ) (l : List Rec) → Above k l → listed_at k start (hits_by f i l) ≡ (Ok None)
  unfolding hits_by listed_at Above
  unlisted f i [] a = refl
  unlisted f i (r ∷ l) a = go (f r) (unlisted f (suc i) l (λ x m. a x (later m)))
    where
      other : same_bytes k (key_of r) ≡ false
      other = no (same_bytes k (key_of r)) refl
        where
          no : (t : Bool) → same_bytes k (key_of r) ≡ t → t ≡ false
          no true q = absurd (less_other k (key_of r) (a r (here refl)) (same_true k (key_of r) q))
          no false q = refl

      go : (t : Bool) → listed_at k start (hits_by f (suc i) l) ≡ (Ok None) → listed_at k start (pick t (hit i r ∷ hits_by f (suc i) l) (hits_by f (suc i) l)) ≡ (Ok None)
      go true ih = pick-false (same_bytes k (key_of r)) (place_of start (hit i r)) (listed_at k start (hits_by f (suc i) l)) other ∙ ih
      go false ih = ih

-- among the hits of one side it is listed where the lookup in that side finds it, if the test passes what shows of the key
module _ (k : List ℕ) (f : Rec → Bool) (start base at : ℕ) (as_found : (Result (Optional Found) Refusal) → (Result (Optional FoundOver) RefusedOver)) (none : as_found (Ok None) ≡ (Ok None))
    (shows : (j : ℕ) (r : Rec) → j < 128 → place_of start (hit (base + j) r) ≡ as_found (Ok (Some (record { start = (value_place at j); len = (length r.kv.value) }))))
    (passes : (r : Rec) → k ≡ key_of r → f r ≡ not (hidden r.kv.status)) where
  side : (l : List Rec) (j : ℕ) → j + length l ≤ 128 → Sorted l → listed_at k start (hits_by f (base + j) l) ≡ as_found (find_rec k at j l)
  unfolding hits_by listed_at find_rec Sorted
  side [] j h s = sym none
  side (r ∷ l) j h s = go (same_bytes k (key_of r)) refl (f r) refl (hidden r.kv.status) refl (next (side l (suc j) (omega arith) s.1))
    where
      rest : (Result (Optional FoundOver) RefusedOver)
      rest = listed_at k start (hits_by f (suc (base + j)) l)

      next : listed_at k start (hits_by f (base + suc j) l) ≡ as_found (find_rec k at (suc j) l) → rest ≡ as_found (find_rec k at (suc j) l)
      next e = ap (λ (i : ℕ). listed_at k start (hits_by f i l)) (omega arith) ∙ e

      absent : same_bytes k (key_of r) ≡ true → rest ≡ (Ok None)
      absent e = unlisted k start f (suc (base + j)) l (subst (λ (x : List ℕ). Above x l) (sym (same_true k (key_of r) e)) s.0)

      go : (t : Bool) → same_bytes k (key_of r) ≡ t → (u : Bool) → f r ≡ u → (v : Bool) → hidden r.kv.status ≡ v → rest ≡ as_found (find_rec k at (suc j) l)
          → listed_at k start (pick u (hit (base + j) r ∷ hits_by f (suc (base + j)) l) (hits_by f (suc (base + j)) l))
          ≡ as_found (pick t (pick v (Ok None) (Ok (Some (record { start = (value_place at j); len = (length r.kv.value) })))) (find_rec k at (suc j) l))
      go true e true q true w ih = absurd (false≢true (sym (passes r (same_true k (key_of r) e) ∙ ap not w) ∙ q))
      go true e true q false w ih = pick_true (same_bytes k (key_of r)) (place_of start (hit (base + j) r)) rest e ∙ shows j r (omega arith)
      go true e false q true w ih = absent e ∙ sym none
      go true e false q false w ih = absurd (true≢false (sym (passes r (same_true k (key_of r) e) ∙ ap not w) ∙ q))
      go false e true q v w ih = pick-false (same_bytes k (key_of r)) (place_of start (hit (base + j) r)) rest e ∙ ih
      go false e false q v w ih = ih

-- what a lookup in the overrides alone and one in the table alone say, as one over both
abbrev in_overrides : (Result (Optional Found) Refusal) → (Result (Optional FoundOver) RefusedOver)
in_overrides f = first_of f (Ok None)

abbrev in_table : (Result (Optional Found) Refusal) → (Result (Optional FoundOver) RefusedOver)
in_table f = over_of (Ok None) f

-- a search for a key gives no refusal
not-refused : (k : List ℕ) (at j : ℕ) (l : List Rec) (x : (Result (Optional FoundOver) RefusedOver)) → or_else (in_overrides (find_rec k at j l)) x ≡ first_of (find_rec k at j l) x
not-refused k at j l x = go (find_rec k at j l)
  where
    go : (f : (Result (Optional Found) Refusal)) → or_else (in_overrides f) x ≡ first_of f x
    go (Ok (Some f)) = refl
    go (Ok None) = refl
    go (Err r) = refl

pub listed_found : (mine : List ℕ → Bool) (k p : List ℕ) (start : ℕ) (o n : List Rec) → mine k ≡ true → starts_with p k ≡ true → length o ≤ 32 → length n ≤ 32 → keys_rise o ≡ true
    → keys_rise n ≡ true → listed_at k start (listing mine p o n) ≡ first_of (find_rec k 0 0 o) (in_table (find_rec k start 0 n))
unfolding listing
listed_found mine k p start o n named starts fo fn so sn =
    overlaid-listed k start (own_hits mine p over_place o) (hits_in p 0 n)
    ∙ ap₂ or_else
    (ap (λ (i : ℕ). listed_at k start (own_hits mine p i o)) (sym (add-zero over_place))
    ∙ side k (own_test mine p) start over_place 0 in_overrides refl (λ j r h. over j r)
    (λ r e. ap₂ (λ (t u : Bool). t && (u && not (hidden r.kv.status))) (subst (λ (x : List ℕ). mine x ≡ true) e named) (begins r e)) o 0 (omega arith) (keys-sorted o so))
    (side k (hits p) start 0 start in_table refl (λ j r h. under j r h) (λ r e. ap (λ (t : Bool). t && not (hidden r.kv.status)) (begins r e)) n 0 (omega arith) (keys-sorted n sn))
    ∙ not-refused k 0 0 o (in_table (find_rec k start 0 n))
  where
    begins : (r : Rec) → k ≡ key_of r → starts_with p (key_of r) ≡ true
    begins r e = subst (λ (x : List ℕ). starts_with p x ≡ true) e starts

    over : (j : ℕ) (r : Rec) → place_of start (hit (over_place + j) r) ≡ (Ok (Some (place.InOverrides (value_place 0 j) (length r.kv.value))))
    over j r =
        pick_true (leb over_place (over_place + j)) (Ok (Some (place.InOverrides (value_place 0 (over_place + j - over_place)) (length r.kv.value)))) (Ok (Some (place.InTable (value_place start (over_place + j)) (length r.kv.value))))
        (le-leb over_place (over_place + j) (omega arith))
        ∙ ap (λ (i : ℕ). (Ok (Some (place.InOverrides (value_place 0 i) (length r.kv.value))))) back
      where
        back : over_place + j - over_place ≡ j
        back = omega arith

    under : (j : ℕ) (r : Rec) → j < 128 → place_of start (hit (0 + j) r) ≡ (Ok (Some (place.InTable (value_place start j) (length r.kv.value))))
    under j r h =
        ap (λ (i : ℕ). place_of start (hit i r)) (zero-add j)
        ∙ pick-false (leb over_place j) (Ok (Some (place.InOverrides (value_place 0 (j - over_place)) (length r.kv.value)))) (Ok (Some (place.InTable (value_place start j) (length r.kv.value)))) (lt-leb over_place j h)

-- ---- and no other key is

-- the test passes no record of the key
side-other : (k : List ℕ) (f : Rec → Bool) (start i : ℕ) (l : List Rec) → ((r : Rec) → r ∈ l → k ≡ key_of r → f r ≡ false) → listed_at k start (hits_by f i l) ≡ (Ok None)
unfolding hits_by listed_at
side-other k f start i [] h = refl
side-other k f start i (r ∷ l) h = go (f r) refl (same_bytes k (key_of r)) refl (side-other k f start (suc i) l (λ x m. h x (later m)))
  where
    go : (t : Bool) → f r ≡ t → (u : Bool) → same_bytes k (key_of r) ≡ u → listed_at k start (hits_by f (suc i) l) ≡ (Ok None)
        → listed_at k start (pick t (hit i r ∷ hits_by f (suc i) l) (hits_by f (suc i) l)) ≡ (Ok None)
    go true q true w ih = absurd (false≢true (sym (h r (here refl) (same_true k (key_of r) w)) ∙ q))
    go true q false w ih = pick-false (same_bytes k (key_of r)) (place_of start (hit i r)) (listed_at k start (hits_by f (suc i) l)) w ∙ ih
    go false q u w ih = ih

-- beside a test that does not pass
none_both : (t u : Bool) → u ≡ false → t && u ≡ false
none_both true u e = e
none_both false u e = refl

-- none that does not begin with the prefix
pub other-unlisted : (mine : List ℕ → Bool) (k p : List ℕ) (start : ℕ) (o n : List Rec) → starts_with p k ≡ false → listed_at k start (listing mine p o n) ≡ (Ok None)
unfolding listing
other-unlisted mine k p start o n e =
    overlaid-listed k start (own_hits mine p over_place o) (hits_in p 0 n)
    ∙ ap₂ or_else
    (side-other k (own_test mine p) start over_place o (λ r m q. none_both (mine (key_of r)) (hits p r) (not-hit r q)))
    (side-other k (hits p) start 0 n (λ r m q. not-hit r q))
  where
    not-hit : (r : Rec) → k ≡ key_of r → hits p r ≡ false
    not-hit r q = ap (λ (t : Bool). t && not (hidden r.kv.status)) (subst (λ (x : List ℕ). starts_with p x ≡ false) q e)

-- and by a party none that it may not name
pub foreign-unlisted : (pr : Profile) (q : Party) (k p : List ℕ) (start : ℕ) (o n : List Rec) → sees pr q k ≡ false → listed_at k start (listing_as pr q p o n) ≡ (Ok None)
unfolding listing
foreign-unlisted pr q k p start o n e =
    overlaid-listed k start (own_hits (sees pr q) p over_place o) (hits_in p 0 (seen_recs pr q n))
    ∙ ap₂ or_else
    (side-other k (own_test (sees pr q) p) start over_place o (λ r m u. ap (λ (t : Bool). t && hits p r) (subst (λ (x : List ℕ). sees pr q x ≡ false) u e)))
    (side-other k (hits p) start 0 (seen_recs pr q n) (λ r m u. absurd (false≢true (sym e ∙ ap (sees pr q) u ∙ all_seen pr q n r m))))
  where
    all_seen : (pr : Profile) (q : Party) (n : List Rec) (r : Rec) → r ∈ seen_recs pr q n → sees pr q (key_of r) ≡ true
    all_seen Free q n r m = refl
    all_seen Meter q n r m = refl
    all_seen Shared q n r m = (keep-from (λ (x : Rec). own q (key_of x)) n m).1

-- ---- the same of lent bytes: the listing of valid overrides and a node of a good table, and the lookup over both

-- a search for a key gives a place or nothing
pub searched : (P : (Result (Optional Found) Refusal) → Type 0) (k : List ℕ) (at : ℕ) → P (Ok None) → ((s n : ℕ) → P (Ok (Some (record { start = s; len = n })))) → (j : ℕ) (l : List Rec) → P (find_rec k at j l)
unfolding find_rec
searched P k at x y j [] = x
searched P k at x y j (r ∷ l) = go (same_bytes k (key_of r)) (hidden r.kv.status) (searched P k at x y (suc j) l)
  where
    go : (t u : Bool) → P (find_rec k at (suc j) l) → P (pick t (pick u (Ok None) (Ok (Some (record { start = (value_place at j); len = (length r.kv.value) })))) (find_rec k at (suc j) l))
    go true true ih = x
    go true false ih = y (value_place at j) (length r.kv.value)
    go false u ih = ih

pub where_found : (pr : Profile) (q : Party) (i : ℕ) (k p b l : List ℕ) (m : Node) → valid_node b ≡ true → valid l ≡ true → node_of i (decode l) ≡ some m → length k ≤ max_key
    → starts_with p k ≡ true → sees pr q k ≡ true
    → listed_at k (node_start i (decode l)) (listing_as pr q p (recs_in b) m.recs) ≡ found_over pr q i k (decode_node b).node (decode l)
where_found pr q i k p b l m o v h short starts named =
    listed_found (sees pr q) k p start (recs_in b) n named starts own-node.few (omega (arith, seen_few, node.few)) own-node.rise (sorted-keys n (seen-sorted pr q m.recs (sorted-keys m.recs node.sorted)))
    ∙ searched (λ (f : (Result (Optional Found) Refusal)). first_of (find_rec k 0 0 (recs_in b)) (in_table f) ≡ over_of (find_rec k 0 0 (recs_in b)) f) k start refl (λ s n. refl) 0 n
    ∙ ap₂ over_of (sym (short-is (find_rec k 0 0 (recs_in b)))) (sym table_is)
  where
    start : ℕ
    start = node_start i (decode l)

    n : List Rec
    n = seen_recs pr q m.recs

    own-node : ObeysEntry (decode_node b)
    own-node = entry-obeys (decode_node b) (over-obeys b o)

    node : OkNode m
    node = node-ok-in i (decode l) (table-facts (decode l) (valid-obeys l v)) h

    seen_few : length n ≤ length m.recs
    seen_few = seen-short pr q m.recs

    short-is : (f : (Result (Optional Found) Refusal)) → pick (leb (length k) max_key) f (Err TooLong) ≡ f
    short-is f = pick_true (leb (length k) max_key) f (Err TooLong) (le-leb (length k) max_key short)

    -- the lookup in what the party sees
    table_is : find_as pr q i k (decode l) ≡ find_rec k start 0 n
    table_is =
        ap (λ (t : Bool). unless_other t (found_in i k (seen pr q (decode l)))) named
        ∙ ap₂ (λ (x : ℕ) (y : Option Node). find_on k x y) (start_seen pr q i (decode l)) (node_seen pr q i (decode l) ∙ ap (seen_held pr q) h)
        ∙ short-is (find_rec k start 0 (seen_node pr q m).recs)
        ∙ ap (find_rec k start 0) (seen-recs pr q m)

-- ---- the call

-- what is given of the node that a party sees is given of the table that it sees
pub seen-fills : (pr : Profile) (q : Party) (i : ℕ) (p l : List ℕ) (o : Node) (t : Table) (a : (Result ℕ RefusedOver)) (m : List ℕ)
    → Gives (list_on (sees pr q) p o (seen_held pr q (node_of i t)) l) a m → Gives (list_over pr q i p l o t) a m
seen-fills pr q i p l o t a m h = subst (λ (x : Option Node). Gives (list_on (sees pr q) p o x l) a m) (sym (node_seen pr q i t)) h

-- in the profile of the table
pub profile-fills : {pr x : Profile} → pr ≡ x → (q : Party) (i : ℕ) (p l : List ℕ) (o : Node) (t : Table) (a : (Result ℕ RefusedOver)) (m : List ℕ)
    → Gives (list_over pr q i p l o t) a m → Gives (list_over x q i p l o t) a m
profile-fills e q i p l o t a m h = subst (λ (y : Profile). Gives (list_over y q i p l o t) a m) e h
