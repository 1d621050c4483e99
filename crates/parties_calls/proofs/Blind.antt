-- The readings as they are linked look at no version, max or last_gc, but for what is left out. Assumes nothing.
use Prim.Native.Nat.{ℕ, zero, suc, ◌+◌}
use mathlib.Core.Bool.{Bool, true, false}
use mathlib.Core.List.{List, [], ◌∷◌}
use mathlib.Core.Option.{Option, none, some}
use mathlib.Core.Path.{◌≡◌, refl, ap, ap₂, sym, ◌∙◌}
use lib.Dec.{eqb, leb}
use lib.ListN.{length}
use Rattle.fields.specs.Choice.{keep, pick}
use Rattle.fields.specs.Order.{less_bytes, same_bytes}
use Rattle.rules.specs.Sizes.{max_key}
use Rattle.rules.specs.Answers.{Told, listed_told}
use Rattle.rules.specs.Given.{Given, given}
use Rattle.rules.specs.Layout.{decode_node, node_place, node_width, rec_place}
use Rattle.rules.specs.Local.{Found as Ruled, lookup, lookup_as, lookup_on, prefixed, prefixed_as, prefix_on, unless_other as ruled_other}
use Rattle.rules.specs.Node.{Rec, Node, hits}
use Rattle.rules.specs.Party.{alone, own}
use Rattle.rules.specs.Table.{Entry, Table, node_of}
use Rattle.std.specs.Prelude.{Option as Optional}
use Rattle.std.specs.Prelude.{Err, None, Ok, Result, Some}
use Rattle.inspect.specs.declared.RecordRead.{RecordRead}
use Rattle.inspect.specs.declared.Rows.{Rows}
use Rattle.lookup.specs.declared.Found.{Found}
use Rattle.rules.specs.declared.Refusal.{Refusal}
use Rattle.rules.specs.declared.Party.{Party}
use Rattle.rules.specs.declared.Profile.TheVariants.{Shared}
use Rattle.rules.specs.declared.Refusal.TheVariants.{BadTable, TooLong}
use Rattle.table_read.specs.Find.{node_start, start_from}
use Rattle.lookup.specs.Lookup.{find_as, find_on, find_rec, found_rec, handed, unless_other}
use Rattle.lookup.specs.Told.{found_told}
use Rattle.inspect.specs.Look.{element_at, header_on, number_on, read_at, read_key, read_rec, record_by_key_on, record_in, record_of_places, record_on, records_on, rows_on}
use Rattle.inspect.specs.Look as look
use Rattle.inspect.specs.Told.{count_told, node_number_told, record_read_told, rows_told}
use Rattle.inspect_text.specs.Texts.{bytes_on, place_on, record_bytes, text_on}
use Rattle.inspect_text.specs.declared.Text.{Text}
use Rattle.inspect_text.specs.declared.Text.TheVariants as text
use Rattle.overrides.specs.Overrides.{valid_node}
use Rattle.overrides.specs.declared.Which.TheVariants as which
use Rattle.over_find.specs.Over.{HandedOver, lookup_over, nothing_held, over_of, own_found, ruled_over, value_over}
use Rattle.over_find.specs.Told.{found_over_told}
use Rattle.over_list.specs.Merged.{Hit, hit, hits_by, hits_in, key_of_hit, lay_over, list_into, list_on, listing, over_place, overlaid, own_hits, places_of}
use Rattle.prefix.specs.Rows.{begun, earlier, prefix_rows_on}
use Rattle.parties.specs.TwoRuns.{Blind, says, unversioned, unversioned_each, versionless, versionless_node}
use Rattle.parties.proofs.Readings.{bare_held, blind-node, blind-view, length-blind, lookup-blind, node-blind, prefix-blind}
use Rattle.parties_calls.specs.Linked.{Find, ListPrefix, RecordCount, RecordAt, RecordOf, RecordByKey, NodeRows, PrefixRows, FindText, FindOver, ListOver, NodeCount, NodeNumber, Heartbeat, asked, beat_told, list_said, read_left, with_over}

-- ---- records

find-rec : (k : List ℕ) (s j : ℕ) (l : List Rec) → find_rec k s j (unversioned_each l) ≡ find_rec k s j l
unfolding find_rec unversioned_each
find-rec k s j [] = refl
find-rec k s j (r ∷ l) = ap (λ (x : (Result (Optional Found) Refusal)). pick (same_bytes k r.kv.key) (found_rec s j r) x) (find-rec k s (suc j) l)

read-key : (k : List ℕ) (s j : ℕ) (l : List Rec) → read_left (read_key k s j (unversioned_each l)) ≡ read_left (read_key k s j l)
unfolding read_key unversioned_each
read-key k s j [] = refl
read-key k s j (r ∷ l) = go (same_bytes k r.kv.key) (read-key k s (suc j) l)
  where
    go : (b : Bool) → read_left (read_key k s (suc j) (unversioned_each l)) ≡ read_left (read_key k s (suc j) l)
        → read_left (pick b (read_rec s j (unversioned r)) (read_key k s (suc j) (unversioned_each l))) ≡ read_left (pick b (read_rec s j r) (read_key k s (suc j) l))
    go true ih = refl
    go false ih = ih

-- the record in a place
abbrev bare_rec : Option Rec → Option Rec
bare_rec none = none
bare_rec (some r) = some (unversioned r)

element-rec : (j : ℕ) (l : List Rec) → element_at j (unversioned_each l) ≡ bare_rec (element_at j l)
unfolding element_at unversioned_each
element-rec j [] = refl
element-rec zero (r ∷ l) = refl
element-rec (suc j) (r ∷ l) = element-rec j l

read_at_lem : (s j : ℕ) (o : Option Rec) → read_left (read_at s j (bare_rec o)) ≡ read_left (read_at s j o)
read_at_lem s j none = refl
read_at_lem s j (some r) = refl

-- a test of keys
keep-rec : (f : Rec → Bool) → ((r : Rec) → f (unversioned r) ≡ f r) → (l : List Rec) → length (keep f (unversioned_each l)) ≡ length (keep f l)
unfolding keep unversioned_each
keep-rec f same [] = refl
keep-rec f same (r ∷ l) = ap (λ (b : Bool). length (pick b (unversioned r ∷ keep f (unversioned_each l)) (keep f (unversioned_each l)))) (same r) ∙ go (f r) (keep-rec f same l)
  where
    go : (b : Bool) → length (keep f (unversioned_each l)) ≡ length (keep f l) → length (pick b (unversioned r ∷ keep f (unversioned_each l)) (keep f (unversioned_each l))) ≡ length (pick b (r ∷ keep f l) (keep f l))
    go true ih = ap suc ih
    go false ih = ih

-- ---- of the node that is held

find-on : (k : List ℕ) (s : ℕ) (o : Option Node) → find_on k s (bare_held o) ≡ find_on k s o
find-on k s none = refl
find-on k s (some n) = ap (λ (x : (Result (Optional Found) Refusal)). pick (leb (length k) max_key) x (Err TooLong)) (find-rec k s 0 n.recs)

records-on : (o : Option Node) → records_on (bare_held o) ≡ records_on o
records-on none = refl
records-on (some n) = ap Ok (length-blind n.recs)

record-on : (j s : ℕ) (o : Option Node) → read_left (record_on j s (bare_held o)) ≡ read_left (record_on j s o)
record-on j s none = refl
record-on j s (some n) = ap (λ (x : Option Rec). read_left (read_at s j x)) (element-rec j n.recs) ∙ read_at_lem s j (element_at j n.recs)

by-key-on : (k : List ℕ) (s : ℕ) (o : Option Node) → read_left (record_by_key_on k s (bare_held o)) ≡ read_left (record_by_key_on k s o)
by-key-on k s none = refl
by-key-on k s (some n) = go (leb (length k) max_key)
  where
    go : (b : Bool) → read_left (pick b (read_key k s 0 (unversioned_each n.recs)) (Err TooLong)) ≡ read_left (pick b (read_key k s 0 n.recs) (Err TooLong))
    go true = read-key k s 0 n.recs
    go false = refl

rows_on_lem : (s : ℕ) (o : Option Node) → rows_on s (bare_held o) ≡ rows_on s o
rows_on_lem s none = refl
rows_on_lem s (some n) = ap (λ (n : ℕ). Ok (record { at = s + rec_place 0; count = n })) (length-blind n.recs)

prefix-rows-on : (k : List ℕ) (s : ℕ) (o : Option Node) → prefix_rows_on k s (bare_held o) ≡ prefix_rows_on k s o
prefix-rows-on k s none = refl
prefix-rows-on k s (some n) =
    ap₂ (λ (a b : ℕ). pick (leb (length k) max_key) (Ok (record { at = (s + rec_place a); count = b })) (Err TooLong)) (keep-rec (earlier k) (λ r. refl) n.recs) (keep-rec (begun k) (λ r. refl) n.recs)

-- ---- of a table

start-blind : (i s : ℕ) (t : Table) → start_from i s (versionless t) ≡ start_from i s t
unfolding start_from versionless
start-blind i s [] = refl
start-blind i s (e ∷ t) = ap (pick (eqb i e.number) s) (start-blind i (s + node_width) t)

-- by where the node begins
module _ {A : Type 0} (read : ℕ → Option Node → A) (same : (s : ℕ) (o : Option Node) → read s (bare_held o) ≡ read s o) where
  placed : (i : ℕ) (t : Table) → read (node_start i (versionless t)) (node_of i (versionless t)) ≡ read (node_start i t) (node_of i t)
  placed i t = ap₂ read (start-blind i (node_place 0) t) (node-blind i t) ∙ same (node_start i t) (node_of i t)

  placed-view : (i : ℕ) (p : Party) (t : Table)
      → read (node_start i (alone (own p) (versionless (alone (own p) t)))) (node_of i (alone (own p) (versionless (alone (own p) t)))) ≡ read (node_start i (alone (own p) t)) (node_of i (alone (own p) t))
  placed-view i p t = blind-view (λ u. read (node_start i u) (node_of i u)) (placed i) (own p) t

-- the node in a place
abbrev bare_entry : Entry → Entry
bare_entry e = record { number = e.number; node = versionless_node e.node }

abbrev bare_there : Option Entry → Option Entry
bare_there none = none
bare_there (some e) = some (bare_entry e)

element-table : (i : ℕ) (t : Table) → element_at i (versionless t) ≡ bare_there (element_at i t)
unfolding element_at versionless
element-table i [] = refl
element-table zero (e ∷ t) = refl
element-table (suc i) (e ∷ t) = element-table i t

record-in : (j s : ℕ) (o : Option Entry) → read_left (record_in j s (bare_there o)) ≡ read_left (record_in j s o)
record-in j s none = refl
record-in j s (some e) = ap (λ (x : Option Rec). read_left (read_at s j x)) (element-rec j e.node.recs) ∙ read_at_lem s j (element_at j e.node.recs)

of_places : (i j : ℕ) (t : Table) → read_left (record_of_places i j (versionless t)) ≡ read_left (record_of_places i j t)
of_places i j t = ap (λ (x : Option Entry). read_left (record_in j (node_place i) x)) (element-table i t) ∙ record-in j (node_place i) (element_at i t)

-- 19, where it is
abbrev other_told : (Result (Optional RecordRead) Refusal) → (Result (Optional RecordRead) Refusal)
other_told a = read_left (look.unless_other false a)

told-left : (a : (Result (Optional RecordRead) Refusal)) → other_told (read_left a) ≡ other_told a
told-left (Ok (Some r)) = refl
told-left (Ok None) = refl
told-left (Err r) = refl

other-left : (b : Bool) (x y : (Result (Optional RecordRead) Refusal)) → read_left x ≡ read_left y → read_left (look.unless_other b x) ≡ read_left (look.unless_other b y)
other-left true x y e = e
other-left false x y e = sym (told-left x) ∙ ap other_told e ∙ told-left y

-- ---- over overrides

bare_hits : (hits : List Hit) → List Hit
bare_hits [] = []
bare_hits (h ∷ l) = hit h.place (unversioned h.rec) ∷ bare_hits l

hits-bare : (f : Rec → Bool) → ((r : Rec) → f (unversioned r) ≡ f r) → (i : ℕ) (l : List Rec) → hits_by f i (unversioned_each l) ≡ bare_hits (hits_by f i l)
unfolding hits_by unversioned_each bare_hits
hits-bare f same i [] = refl
hits-bare f same i (r ∷ l) = ap₂ (λ (b : Bool) (x : List Hit). pick b (hit i (unversioned r) ∷ x) x) (same r) (hits-bare f same (suc i) l) ∙ go (f r)
  where
    go : (b : Bool) → pick b (hit i (unversioned r) ∷ bare_hits (hits_by f (suc i) l)) (bare_hits (hits_by f (suc i) l)) ≡ bare_hits (pick b (hit i r ∷ hits_by f (suc i) l) (hits_by f (suc i) l))
    go true = refl
    go false = refl

bare_twice : (l : List Hit) → bare_hits (bare_hits l) ≡ bare_hits l
unfolding bare_hits
bare_twice [] = refl
bare_twice (h ∷ l) = ap (λ (x : List Hit). hit h.place (unversioned h.rec) ∷ x) (bare_twice l)

lay-bare : (h : Hit) (l : List Hit) → bare_hits (lay_over h l) ≡ lay_over (hit h.place (unversioned h.rec)) (bare_hits l)
unfolding lay_over bare_hits
lay-bare h [] = refl
lay-bare h (a ∷ l) = go (same_bytes (key_of_hit h) (key_of_hit a)) (less_bytes (key_of_hit h) (key_of_hit a)) (lay-bare h l)
  where
    go : (c d : Bool) → bare_hits (lay_over h l) ≡ lay_over (hit h.place (unversioned h.rec)) (bare_hits l)
        → bare_hits (pick c (h ∷ l) (pick d (h ∷ a ∷ l) (a ∷ lay_over h l)))
        ≡ pick c (hit h.place (unversioned h.rec) ∷ bare_hits l)
        (pick d (hit h.place (unversioned h.rec) ∷ hit a.place (unversioned a.rec) ∷ bare_hits l) (hit a.place (unversioned a.rec) ∷ lay_over (hit h.place (unversioned h.rec)) (bare_hits l)))
    go true d ih = refl
    go false true ih = refl
    go false false ih = ap (λ (x : List Hit). hit a.place (unversioned a.rec) ∷ x) ih

overlaid-bare : (os ns : List Hit) → bare_hits (overlaid os (bare_hits ns)) ≡ bare_hits (overlaid os ns)
unfolding overlaid
overlaid-bare [] ns = bare_twice ns
overlaid-bare (o ∷ os) ns = lay-bare o (overlaid os (bare_hits ns)) ∙ ap (lay_over (hit o.place (unversioned o.rec))) (overlaid-bare os ns) ∙ sym (lay-bare o (overlaid os ns))

places-bare : (l : List Hit) → places_of (bare_hits l) ≡ places_of l
unfolding places_of bare_hits
places-bare [] = refl
places-bare (h ∷ l) = ap (λ (x : List ℕ). h.place ∷ x) (places-bare l)

listing-blind : (mine : List ℕ → Bool) (k : List ℕ) (o l : List Rec) → places_of (listing mine k o (unversioned_each l)) ≡ places_of (listing mine k o l)
unfolding listing
listing-blind mine k o l =
    let os : List Hit = own_hits mine k over_place o in
    ap (λ (x : List Hit). places_of (overlaid os x)) (hits-bare (hits k) (λ r. refl) 0 l)
    ∙ sym (places-bare (overlaid os (bare_hits (hits_in k 0 l))))
    ∙ ap places_of (overlaid-bare os (hits_in k 0 l))
    ∙ places-bare (overlaid os (hits_in k 0 l))

list_on_lem : (mine : List ℕ → Bool) (k : List ℕ) (n : Node) (l : List ℕ) (o : Option Node) → list_on mine k n (bare_held o) l ≡ list_on mine k n o l
list_on_lem mine k n l none = refl
list_on_lem mine k n l (some m) = ap (λ (x : List ℕ). pick (leb (length k) max_key) (list_into x l) (given (Err (record { which = which.Neither; why = TooLong })) l)) (listing-blind mine k n.recs m.recs)

-- ---- texts

text-on : (x : Text) (j s : ℕ) (o : Option Node) → text_on x j s (bare_held o) ≡ text_on x j s o
text-on x j s none = refl
text-on x j s (some n) = ap (place_on x s j) (element-rec j n.recs) ∙ go x (element_at j n.recs)
  where
    go : (x : Text) (o : Option Rec) → place_on x s j (bare_rec o) ≡ place_on x s j o
    go x none = refl
    go text.Key (some r) = refl
    go text.Value (some r) = refl

bytes_on_lem : (x : Text) (j : ℕ) (o : Option Node) → bytes_on x j (bare_held o) ≡ bytes_on x j o
bytes_on_lem x j none = refl
bytes_on_lem x j (some n) = ap (record_bytes x) (element-rec j n.recs) ∙ go x (element_at j n.recs)
  where
    go : (x : Text) (o : Option Rec) → record_bytes x (bare_rec o) ≡ record_bytes x o
    go x none = refl
    go text.Key (some r) = refl
    go text.Value (some r) = refl

-- what names no party looks at no record
numbers-alone : (i : ℕ) (t : Table) (mine : List ℕ → Bool) → number_on (element_at i (versionless (alone mine t))) ≡ number_on (element_at i t)
unfolding element_at versionless alone
numbers-alone i [] mine = refl
numbers-alone zero (e ∷ t) mine = refl
numbers-alone (suc i) (e ∷ t) mine = numbers-alone i t mine

length-alone : (t : Table) (mine : List ℕ → Bool) → length (versionless (alone mine t)) ≡ length t
unfolding versionless alone
length-alone [] mine = refl
length-alone (e ∷ t) mine = ap suc (length-alone t mine)

beat-alone : (i : ℕ) (t : Table) (mine : List ℕ → Bool) → beat_told (header_on (node_of i (versionless (alone mine t)))) ≡ beat_told (header_on (node_of i t))
unfolding node_of versionless alone
beat-alone i [] mine = refl
beat-alone i (e ∷ t) mine = go (eqb i e.number) (beat-alone i t mine)
  where
    go : (b : Bool) → beat_told (header_on (node_of i (versionless (alone mine t)))) ≡ beat_told (header_on (node_of i t))
        → beat_told (header_on (pick b (some (versionless_node (record { heartbeat = e.node.heartbeat; max = e.node.max; last_gc = e.node.last_gc; recs = keep (λ (r : Rec). mine r.kv.key) e.node.recs }))) (node_of i (versionless (alone mine t)))))
        ≡ beat_told (header_on (pick b (some e.node) (node_of i t)))
    go true ih = refl
    go false ih = ih

-- what a lookup finds, and its value
find-view : (p : Party) (i : ℕ) (k : List ℕ) (t : Table) → find_as Shared p i k (versionless (alone (own p) t)) ≡ find_as Shared p i k t
find-view p i k t = ap (unless_other (own p k)) (placed-view (find_on k) (find-on k) i p t)

value-view : (p : Party) (i : ℕ) (k : List ℕ) (t : Table) → lookup_as Shared p i k (versionless (alone (own p) t)) ≡ lookup_as Shared p i k t
unfolding lookup_as lookup
value-view p i k t = ap (ruled_other (own p k)) (blind-node (lookup_on k) (lookup-blind k) i (own p) t)

-- where the overrides are good
over-same : {A B : Type 0} (f : A → B) (bad : A) (rule other : Node → A) → ((n : Node) → f (rule n) ≡ f (other n)) → (o : List ℕ) → f (with_over bad rule o) ≡ f (with_over bad other o)
over-same f bad rule other e o = go (valid_node o)
  where
    go : (b : Bool) → f (pick b (rule (decode_node o).node) bad) ≡ f (pick b (other (decode_node o).node) bad)
    go true = e (decode_node o).node
    go false = refl

pub asked-blind : Blind asked
unfolding prefixed_as prefixed lookup_over
asked-blind p (Find i k) t = ap₂ (λ (x : (Result (Optional Found) Refusal)) (y : Ruled). says (found_told x) (handed y ∷ [])) (find-view p i k t) (value-view p i k t)
asked-blind p (ListPrefix i k l) t =
    ap (λ (g : Given (Result ℕ Refusal) (List ℕ)). says (listed_told g.answer) (g.lent ∷ [])) (blind-node (λ o. prefix_on k o l) (λ o. prefix-blind k o l) i (own p) t)
asked-blind p (RecordCount i) t = ap (λ (x : (Result ℕ Refusal)). says (count_told x) []) (blind-node records_on records-on i (own p) t)
asked-blind p (RecordAt i j) t = ap (λ (x : (Result (Optional RecordRead) Refusal)). says (record_read_told x) []) (placed-view (λ s o. read_left (record_on j s o)) (record-on j) i p t)
asked-blind p (RecordOf i j) t = ap (λ (x : (Result (Optional RecordRead) Refusal)). says (record_read_told x) []) (blind-view (λ u. read_left (record_of_places i j u)) (of_places i j) (own p) t)
asked-blind p (RecordByKey i k) t =
    ap (λ (x : (Result (Optional RecordRead) Refusal)). says (record_read_told x) []) (other-left (own p k) _ _ (placed-view (λ s o. read_left (record_by_key_on k s o)) (by-key-on k) i p t))
asked-blind p (NodeRows i) t = ap (λ (x : (Result Rows Refusal)). says (rows_told x) []) (placed-view rows_on rows_on_lem i p t)
asked-blind p (PrefixRows i k) t = ap (λ (x : (Result Rows Refusal)). says (rows_told x) []) (placed-view (prefix_rows_on k) (prefix-rows-on k) i p t)
asked-blind p (FindText i j x) t =
    ap₂ (λ (a : (Result (Optional Found) Refusal)) (b : List ℕ). says (found_told a) (b ∷ [])) (placed-view (text_on x j) (text-on x j) i p t) (blind-node (bytes_on x j) (bytes_on_lem x j) i (own p) t)
asked-blind p (FindOver i k o) t =
    ap₂ (λ (a : Told) (b : List ℕ). says a (b ∷ []))
    (over-same found_over_told (Err (record { which = which.Overrides; why = BadTable })) _ _ (λ n. ap (λ (x : (Result (Optional Found) Refusal)). found_over_told (over_of (own_found k n) x)) (find-view p i k t)) o)
    (over-same (λ (h : HandedOver). h.bytes) nothing_held (λ n. value_over Shared p i k n (versionless (alone (own p) t))) (λ n. value_over Shared p i k n t) (λ n. ap (λ (x : Ruled). handed (ruled_over (lookup_on k (some n)) x)) (value-view p i k t)) o)
asked-blind p (ListOver i k l o) t = over-same list_said (given (Err (record { which = which.Overrides; why = BadTable })) l) _ _ (λ n. ap list_said (blind-node (λ x. list_on (own p) k n x l) (list_on_lem (own p) k n l) i (own p) t)) o
asked-blind p NodeCount t = ap (λ (n : ℕ). says (count_told (Ok n)) []) (length-alone t (own p))
asked-blind p (NodeNumber i) t = ap (λ x. says (node_number_told x) []) (numbers-alone i t (own p))
asked-blind p (Heartbeat i) t = ap (λ x. says x []) (beat-alone i t (own p))
