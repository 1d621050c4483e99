-- What the search for a key says of its record, in what a party sees of the bytes of a node that begins at `start`. Assumes nothing.
use Prim.Native.Nat.{ℕ, suc, ◌-◌, ◌≤◌, ◌<◌}
use mathlib.Core.Path.{◌≡◌, refl, ap, ap₂, sym, ◌∙◌}
use mathlib.Core.Bool.{Bool, true, false}
use mathlib.Core.List.{List, [], ◌∷◌}
use mathlib.Core.Option.{Option, none, some}
use lib.ListN.{length}
use borrow.Author.Tests.{le-leb, lt-leb}
use Rattle.fields.specs.Choice.{pick}
use Rattle.fields.specs.Order.{same_bytes}
use Rattle.rules.specs.Sizes.{max_key}
use Rattle.rules.specs.Node.{Rec, Node}
use Rattle.rules.specs.Table.{Table, node_of, keys_rise}
use Rattle.rules.specs.Party.{sees, seen_recs}
use Rattle.rules.specs.Profile.{recs_formed}
use Rattle.rules.specs.declared.Profile.{Profile}
use Rattle.rules.specs.declared.Party.{Party}
use Rattle.rules.specs.declared.Refusal.{Refusal}
use Rattle.rules.specs.declared.Refusal.TheVariants.{TooLong, NoNode, OtherParty}
use Rattle.table.specs.Tests.{recs_in}
use Rattle.table.proofs.Places.{rec_at}
use Rattle.table_read.specs.Find.{find_key, node_start}
use Rattle.table_read.specs.declared.Place.TheVariants as place
use Rattle.own_rows.specs.Sight.{sight_in, seen_node, seen_held}
use Rattle.own_rows.proofs.Keys.{own-there, own-nowhere}
use Rattle.own_rows.proofs.Tables.{seen-recs, seen-stands}
use Rattle.inspect.specs.Look.{read_rec, read_key, record_by_key_on, unless_other, record_by_key_on_as, record_by_key_as}
use Rattle.std.specs.Prelude.{Option as Optional}
use Rattle.std.specs.Prelude.{Err, None, Ok, Result}
use Rattle.inspect.specs.declared.RecordRead.{RecordRead}

-- 19 comes behind a refusal
refused-first : (t : Bool) (r : Refusal) → Err r ≡ unless_other t (Err r)
refused-first true r = refl
refused-first false r = refl

-- the search itself refuses nothing
none-refused : (k : List ℕ) (start j : ℕ) (l : List Rec) → Err OtherParty ≡ unless_other false (read_key k start j l)
unfolding read_key
none-refused k start j [] = refl
none-refused k start j (a ∷ l) = go (same_bytes k a.kv.key) (none-refused k start (suc j) l)
  where
    go : (t : Bool) → Err OtherParty ≡ unless_other false (read_key k start (suc j) l)
        → Err OtherParty ≡ unless_other false (pick t (read_rec start j a) (read_key k start (suc j) l))
    go true ih = refl
    go false ih = ih

module _ (p : Profile) (q : Party) (k : List ℕ) (start : ℕ) (n : Node) where
  pub long-first : max_key < length k → Err TooLong ≡ record_by_key_on_as p q k start (some n)
  long-first h =
      refused-first (sees p q k) TooLong
      ∙ ap (λ (t : Bool). unless_other (sees p q k) (pick t (read_key k start 0 (seen_node p q n).recs) (Err TooLong))) (sym (lt-leb (length k) max_key h))

  -- the key is not too long, and the test of its name came out so
  module _ (h : length k ≤ max_key) {t : Bool} (e : t ≡ sees p q k) where
    short : {u : Bool} → t ≡ u → unless_other u (read_key k start 0 (seen_recs p q n.recs)) ≡ record_by_key_on_as p q k start (some n)
    short y =
        ap₂ (λ (u : Bool) (l : List Rec). unless_other u (read_key k start 0 l)) (sym y ∙ e) (sym (seen-recs p q n))
        ∙ ap (λ (u : Bool). unless_other (sees p q k) (pick u (read_key k start 0 (seen_node p q n).recs) (Err TooLong))) (sym (le-leb (length k) max_key h))

    pub named-reads : t ≡ true → (r : (Result (Optional RecordRead) Refusal)) → r ≡ read_key k start 0 (seen_recs p q n.recs) → r ≡ record_by_key_on_as p q k start (some n)
    named-reads y r f = f ∙ short y

    pub other-first : t ≡ false → Err OtherParty ≡ record_by_key_on_as p q k start (some n)
    other-first y = none-refused k start 0 (seen_recs p q n.recs) ∙ short y

-- what the search among all records says of those that the party sees
module _ (p : Profile) (q : Party) (k b : List ℕ) (start : ℕ) (s : keys_rise (recs_in b) ≡ true) (f : recs_formed p (recs_in b) ≡ true) (h : sees p q k ≡ true) where
  pub key-there : (j : ℕ) → find_key k (recs_in b) ≡ place.At j
      → read_rec start (j - (sight_in p q (recs_in b)).low) (rec_at j b) ≡ read_key k start 0 (seen_recs p q (recs_in b))
  unfolding read_key
  key-there j e = sym (own-there p q b s f k h (read_rec start) (Ok None) (read_key k start) (λ m. refl) (λ m a l. refl) j e)

  pub key-nowhere : (j : ℕ) → find_key k (recs_in b) ≡ place.Free j → (Ok None) ≡ read_key k start 0 (seen_recs p q (recs_in b))
  unfolding read_key
  key-nowhere j e = sym (own-nowhere p q b s f k h (read_rec start) (Ok None) (read_key k start) (λ m. refl) (λ m a l. refl) j e)

-- in a table
module _ (p : Profile) (q : Party) (n : ℕ) (k : List ℕ) (t : Table) where
  pub seen-reads : record_by_key_on_as p q k (node_start n t) (node_of n t) ≡ record_by_key_as p q n k t
  seen-reads = ap (unless_other (sees p q k)) (seen-stands record_by_key_on k p q n t)

  pub none-held : node_of n t ≡ none → Err NoNode ≡ record_by_key_as p q n k t
  none-held e =
      refused-first (sees p q k) NoNode
      ∙ ap (λ (o : Option Node). unless_other (sees p q k) (record_by_key_on k (node_start n t) (seen_held p q o))) (sym e)
      ∙ seen-reads
