-- A key that the party may name: its record is the same in what the party sees and among all (`find-seen`), and a search of what the party sees gives what
-- stands at the place that was found among all, its place less the records before the piece (`own-there`), or nothing (`own-nowhere`). Assumes nothing.
use Prim.Native.Nat.{ℕ, suc, ◌+◌, ◌-◌, ◌≤◌, ◌<◌}
use mathlib.Core.Path.{◌≡◌, refl, ap, sym, ◌∙◌, subst}
use mathlib.Core.Bool.{Bool, true, false}
use mathlib.Core.List.{List, [], ◌∷◌}
use mathlib.Core.Option.{none, some}
use native.Mathlib.Omega.{arith}
use native.Mathlib.Nat.{zero-add}
use lib.ListN.{get_or}
use Rattle.fields.specs.Choice.{pick, keep}
use Rattle.fields.specs.Order.{same_bytes}
use Rattle.fields.proofs.Ordered.{same_true}
use Rattle.rules.specs.Node.{Rec, find}
use Rattle.rules.specs.Table.{keys_rise}
use Rattle.rules.specs.Party.{own, of_keys, sees, seen_recs}
use Rattle.rules.specs.Profile.{recs_formed}
use Rattle.rules.specs.Layout.{decode_rec}
use Rattle.rules.specs.declared.Profile.{Profile}
use Rattle.rules.specs.declared.Profile.TheVariants.{Free, Meter, Shared}
use Rattle.rules.specs.declared.Party.{Party}
use Rattle.table.specs.Tests.{recs_in}
use Rattle.table.proofs.Places.{rec_at, recs-at}
use Rattle.table_read.specs.Find.{further, to_key, find_key}
use Rattle.table_read.specs.declared.Place.{Place}
use Rattle.table_read.specs.declared.Place.TheVariants as place
use Rattle.table_read.proofs.Searched.{search-at, place-in, key-hit, rec-in, rec-missing}
use Rattle.own_rows.specs.Sight.{sight_in}
use Rattle.own_rows.proofs.Parted.{false-true}
use Rattle.own_rows.proofs.Laws.{seen-count, seen_at, seen-place}

find-own : (mine : List ℕ → Bool) (k : List ℕ) → mine k ≡ true → (l : List Rec) → find k (of_keys mine l) ≡ find k l
unfolding find keep
find-own mine k h [] = refl
find-own mine k h (a ∷ l) = go (mine a.kv.key) (same_bytes k a.kv.key) refl refl (find-own mine k h l)
  where
    go : (t u : Bool) → mine a.kv.key ≡ t → same_bytes k a.kv.key ≡ u → find k (of_keys mine l) ≡ find k l
        → find k (pick t (a ∷ of_keys mine l) (of_keys mine l)) ≡ pick u (some a) (find k l)
    go true true q e ih = ap (λ (x : Bool). pick x (some a) (find k (of_keys mine l))) e
    go true false q e ih = ap (λ (x : Bool). pick x (some a) (find k (of_keys mine l))) e ∙ ih
    go false true q e ih = false-true (sym q ∙ ap mine (sym (same_true k a.kv.key e)) ∙ h)
    go false false q e ih = ih

pub find-seen : (p : Profile) (q : Party) (k : List ℕ) → sees p q k ≡ true → (l : List Rec) → find k (seen_recs p q l) ≡ find k l
find-seen Free q k h l = refl
find-seen Meter q k h l = refl
find-seen Shared q k h l = find-own (own q) k h l

-- ---- in the bytes of a node

module _ (p : Profile) (q : Party) (b : List ℕ) (s : keys_rise (recs_in b) ≡ true) (f : recs_formed p (recs_in b) ≡ true) (k : List ℕ) (h : sees p q k ≡ true) where
  abbrev low : ℕ
  low = (sight_in p q (recs_in b)).low

  abbrev piece : List Rec
  piece = seen_recs p q (recs_in b)

  -- the place in the piece
  own-place : (j : ℕ) → find_key k (recs_in b) ≡ place.At j → (low ≤ j) × (find_key k piece ≡ place.At (j - low))
  own-place j e = go (find_key k piece) refl
    where
      go : (r : Place) → find_key k piece ≡ r → (low ≤ j) × (find_key k piece ≡ place.At (j - low))
      go (place.At m) y =
          let z : place.At j ≡ place.At (low + m) = sym e ∙ seen-place p q (recs_in b) s f k h ∙ ap (further low) y in
          let w : j ≡ low + m = cc in
          let n : m ≡ j - low = omega arith in
          (omega arith, y ∙ ap place.At n)
      go (place.Free m) y =
          let z : place.At j ≡ place.Free (low + m) = sym e ∙ seen-place p q (recs_in b) s f k h ∙ ap (further low) y in
          let w : ◌≡◌ {A = ℕ} 0 1 = cc in
          absurd (omega arith)

  pub own_behind : (j : ℕ) → find_key k (recs_in b) ≡ place.At j → low ≤ j
  own_behind j e = (own-place j e).0

  -- the record there
  own-rec : (j : ℕ) (d : Rec) → find_key k (recs_in b) ≡ place.At j → get_or piece (j - low) d ≡ rec_at j b
  own-rec j d e =
      let o = own-place j e in
      let n : j - low < (sight_in p q (recs_in b)).count = subst (λ (n : ℕ). j - low < n) (seen-count p q (recs_in b)) (place-in (to_key k) piece (j - low) o.1) in
      let w : low + (j - low) ≡ j = omega (arith, o.0) in
      seen_at p q (recs_in b) s f (j - low) d n ∙ ap (λ (i : ℕ). get_or (recs_in b) i d) w ∙ recs-at j b d (rec-in b k j e)

  -- S takes g of the first record with the key, with its place from i on, and z where there is none
  module _ {A : Type 0} (g : ℕ → Rec → A) (z : A) (S : ℕ → List Rec → A) (nil : (i : ℕ) → S i [] ≡ z)
      (cons : (i : ℕ) (a : Rec) (l : List Rec) → S i (a ∷ l) ≡ pick (same_bytes k a.kv.key) (g i a) (S (suc i) l)) where
    pub own-there : (j : ℕ) → find_key k (recs_in b) ≡ place.At j → S 0 piece ≡ g (j - low) (rec_at j b)
    own-there j e =
        let d : Rec = decode_rec [] in
        search-at (to_key k) (λ (x : Rec). same_bytes k x.kv.key) (key-hit k) g z S nil cons piece d 0 (j - low) (own-place j e).1
        ∙ ap (λ (m : ℕ). g m (get_or piece (j - low) d)) (zero-add (j - low))
        ∙ ap (g (j - low)) (own-rec j d e)

    none-there : (i : ℕ) (l : List Rec) → find k l ≡ none → S i l ≡ z
    unfolding find
    none-there i [] e = nil i
    none-there i (a ∷ l) e = go (same_bytes k a.kv.key) refl e (none-there (suc i) l)
      where
        go : (t : Bool) → same_bytes k a.kv.key ≡ t → pick t (some a) (find k l) ≡ none → (find k l ≡ none → S (suc i) l ≡ z) → S i (a ∷ l) ≡ z
        go true y e ih = let w : ◌≡◌ {A = ℕ} 0 1 = cc in absurd (omega arith)
        go false y e ih = cons i a l ∙ ap (λ (t : Bool). pick t (g i a) (S (suc i) l)) y ∙ ih e

    pub own-nowhere : (j : ℕ) → find_key k (recs_in b) ≡ place.Free j → S 0 piece ≡ z
    own-nowhere j e = none-there 0 piece (find-seen p q k h (recs_in b) ∙ rec-missing b k j s e)
