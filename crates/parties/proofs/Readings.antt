-- A party's readings are readings of what it sees, and look at no version; so they say the same of a table and of what the party has of it. Assumes nothing.
use Prim.Native.Nat.{ℕ, zero, suc}
use mathlib.Core.Bool.{Bool, true, false}
use mathlib.Core.List.{List, [], ◌∷◌}
use mathlib.Core.Option.{Option, none, some}
use mathlib.Core.Path.{◌≡◌, refl, ap, sym, ◌∙◌}
use lib.Dec.{eqb, leb}
use lib.ListN.{length, drop}
use Rattle.fields.specs.Choice.{pick}
use Rattle.fields.specs.Order.{same_bytes}
use Rattle.rules.specs.Sizes.{max_key}
use Rattle.rules.specs.Answers.{accepted, refused, listed_told}
use Rattle.rules.specs.Given.{Given, given}
use Rattle.rules.specs.Node.{Rec, Node, find, shown, hits_from, hits}
use Rattle.rules.specs.Table.{Table, node_of}
use Rattle.rules.specs.Party.{own, alone, of_keys}
use Rattle.rules.specs.Local.{Found, NotFound, found_of, list_into, lookup, lookup_as, lookup_on, prefixed, prefixed_as, prefix_on, unless_other}
use Rattle.rules.specs.declared.Refusal.TheVariants.{TooLong, OtherParty}
use Rattle.std.specs.Prelude.{Err, Result}
use Rattle.rules.specs.declared.Refusal.{Refusal}
use Rattle.parties.specs.Readings.{Lookup, Listing, Counting, RecordAt, RecordOf, found_said, count_said, first_said, at_said, key_said, of_said, reading_said}
use Rattle.parties.specs.TwoRuns.{Said, says, Blind, unversioned, unversioned_each, versionless_node, versionless}
use Rattle.parties.proofs.Views.{view-own, view-is, bare}

-- ---- readings that look at no version, max or last_gc

find-blind : (k : List ℕ) (l : List Rec) → find k (unversioned_each l) ≡ bare (find k l)
unfolding find unversioned_each
find-blind k [] = refl
find-blind k (a ∷ l) = go (same_bytes k a.kv.key) (find-blind k l)
  where
    go : (b : Bool) → find k (unversioned_each l) ≡ bare (find k l) → pick b (some (unversioned a)) (find k (unversioned_each l)) ≡ bare (pick b (some a) (find k l))
    go true ih = refl
    go false ih = ih

hits-blind : (k : List ℕ) (i : ℕ) (l : List Rec) → hits_from k i (unversioned_each l) ≡ hits_from k i l
unfolding hits_from unversioned_each
hits-blind k i [] = refl
hits-blind k i (a ∷ l) = ap (λ (x : List ℕ). pick (hits k a) (i ∷ x) x) (hits-blind k (suc i) l)

pub length-blind : (l : List Rec) → length (unversioned_each l) ≡ length l
unfolding unversioned_each
length-blind [] = refl
length-blind (a ∷ l) = ap suc (length-blind l)

drop-blind : (j : ℕ) (l : List Rec) → drop j (unversioned_each l) ≡ unversioned_each (drop j l)
unfolding unversioned_each
drop-blind zero l = refl
drop-blind (suc j) [] = refl
drop-blind (suc j) (a ∷ l) = drop-blind j l

-- the node of a table without versions
abbrev pub bare_held : Option Node → Option Node
bare_held none = none
bare_held (some n) = some (versionless_node n)

pub node-blind : (i : ℕ) (t : Table) → node_of i (versionless t) ≡ bare_held (node_of i t)
unfolding node_of versionless
node-blind i [] = refl
node-blind i (a ∷ t) = go (eqb i a.number) (node-blind i t)
  where
    go : (b : Bool) → node_of i (versionless t) ≡ bare_held (node_of i t) → pick b (some (versionless_node a.node)) (node_of i (versionless t)) ≡ bare_held (pick b (some a.node) (node_of i t))
    go true ih = refl
    go false ih = ih

shown-bare : (o : Option Rec) → shown (bare o) ≡ shown o
shown-bare none = refl
shown-bare (some r) = refl

first-bare : (l : List Rec) → first_said (unversioned_each l) ≡ first_said l
unfolding unversioned_each
first-bare [] = refl
first-bare (r ∷ l) = refl

key-bare : (o : Option Rec) → key_said (bare o) ≡ key_said o
key-bare none = refl
key-bare (some r) = refl

pub lookup-blind : (k : List ℕ) (o : Option Node) → lookup_on k (bare_held o) ≡ lookup_on k o
lookup-blind k none = refl
lookup-blind k (some n) = ap (λ (x : Option (List ℕ)). pick (leb (length k) max_key) (found_of x) (NotFound TooLong)) (ap shown (find-blind k n.recs) ∙ shown-bare (find k n.recs))

pub prefix-blind : (k : List ℕ) (o : Option Node) (l : List ℕ) → prefix_on k (bare_held o) l ≡ prefix_on k o l
prefix-blind k none l = refl
prefix-blind k (some n) l = ap (λ (x : List ℕ). pick (leb (length k) max_key) (list_into x l) (given (Err TooLong) l)) (hits-blind k 0 n.recs)

count-blind : (o : Option Node) → count_said (bare_held o) ≡ count_said o
count-blind none = refl
count-blind (some n) = ap (λ (x : ℕ). says (accepted (x ∷ [])) []) (length-blind n.recs)

place-blind : (j : ℕ) (o : Option Node) → at_said j (bare_held o) ≡ at_said j o
place-blind j none = refl
place-blind j (some n) = ap first_said (drop-blind j n.recs) ∙ first-bare (drop j n.recs)

key-blind : (b : Bool) (k : List ℕ) (o : Option Node) → of_said b k (bare_held o) ≡ of_said b k o
key-blind b k none = refl
key-blind b k (some n) =
    ap (λ (x : Said). pick (leb (length k) max_key) (pick b x (says (refused OtherParty []) [])) (says (refused TooLong []) [])) (ap key_said (find-blind k n.recs) ∙ key-bare (find k n.recs))

-- ---- what is seen of what a party has is all of it

own-all : (mine : List ℕ → Bool) (l : List Rec) → of_keys mine (unversioned_each (of_keys mine l)) ≡ unversioned_each (of_keys mine l)
own-all mine l = ap (of_keys mine) (view-is mine l) ∙ view-own mine l ∙ sym (view-is mine l)

seen_all : (mine : List ℕ → Bool) (t : Table) → alone mine (versionless (alone mine t)) ≡ versionless (alone mine t)
unfolding alone versionless
seen_all mine [] = refl
seen_all mine (a ∷ t) =
    ap (λ (l : List Rec). record { number = a.number; node = record { heartbeat = a.node.heartbeat; max = 0; last_gc = 0; recs = l } } ∷ alone mine (versionless (alone mine t))) (own-all mine a.node.recs)
    ∙ ap (λ (x : Table). record { number = a.number; node = record { heartbeat = a.node.heartbeat; max = 0; last_gc = 0; recs = unversioned_each (of_keys mine a.node.recs) } } ∷ x) (seen_all mine t)

-- so any reading of what is seen that looks at no version says the same
pub blind-view : {A : Type 0} (read : Table → A) → ((t : Table) → read (versionless t) ≡ read t) → (mine : List ℕ → Bool) (t : Table) → read (alone mine (versionless (alone mine t))) ≡ read (alone mine t)
blind-view {A} read f mine t = ap read (seen_all mine t) ∙ f (alone mine t)

-- of a node
pub blind-node : {A : Type 0} (read : Option Node → A) → ((o : Option Node) → read (bare_held o) ≡ read o) → (i : ℕ) (mine : List ℕ → Bool) (t : Table)
    → read (node_of i (alone mine (versionless (alone mine t)))) ≡ read (node_of i (alone mine t))
blind-node {A} read f i mine t = blind-view (λ u. read (node_of i u)) (λ u. ap read (node-blind i u) ∙ f (node_of i u)) mine t

pub reading-blind : Blind reading_said
unfolding lookup_as lookup prefixed_as prefixed
reading-blind p (Lookup i k) t = ap (λ (x : Found). found_said (unless_other (own p k) x)) (blind-node (lookup_on k) (lookup-blind k) i (own p) t)
reading-blind p (Listing i k l) t =
    ap (λ (g : Given (Result ℕ Refusal) (List ℕ)). says (listed_told g.answer) (g.lent ∷ [])) (blind-node (λ o. prefix_on k o l) (λ o. prefix-blind k o l) i (own p) t)
reading-blind p (Counting i) t = blind-node count_said count-blind i (own p) t
reading-blind p (RecordAt i j) t = blind-node (at_said j) (place-blind j) i (own p) t
reading-blind p (RecordOf i k) t = blind-node (of_said (own p k) k) (key-blind (own p k) k) i (own p) t
