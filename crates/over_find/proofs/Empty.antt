-- Over overrides without a record a lookup over both is the ordinary lookup. Assumes nothing.
use Prim.Native.Nat.{ℕ}
use mathlib.Core.Path.{◌≡◌, refl, ap, sym, ◌∙◌}
use mathlib.Core.Bool.{Bool, true, false}
use mathlib.Core.List.{List, []}
use mathlib.Core.Option.{some}
use native.Mathlib.Omega.{arith}
use lib.ListN.{length}
use lib.Dec.{leb}
use Rattle.fields.specs.Choice.{pick}
use Rattle.fields.proofs.Choice.{pick_true}
use Rattle.rules.specs.Sizes.{max_key}
use Rattle.rules.specs.Node.{Rec, Node}
use Rattle.rules.specs.Table.{Table}
use Rattle.rules.specs.Lent.{from_table}
use Rattle.rules.specs.Layout.{decode_node}
use Rattle.rules.specs.Whole.{decode_whole, valid_whole}
use Rattle.rules.specs.declared.Profile.{Profile}
use Rattle.rules.specs.declared.Party.{Party}
use Rattle.rules.specs.declared.Refusal.TheVariants.{TooLong, BadTable}
use Rattle.lookup.specs.Lookup.{find_rec, find_on, find_as, lent_find}
use Rattle.std.specs.Prelude.{Err, None, Ok, Option, Result, Some}
use Rattle.lookup.specs.declared.Found.{Found}
use Rattle.rules.specs.declared.Refusal.{Refusal}
use Rattle.overrides.specs.Overrides.{valid_node}
use Rattle.overrides.specs.Both.{from_both}
use Rattle.overrides.specs.declared.Which.TheVariants as which
use Rattle.over_find.specs.Over.{over_of, own_found, found_over, lent_find_over, plainly}

nothing-own : (own f : (Result (Option Found) Refusal)) → ((s n : ℕ) → own ≡ (Ok (Some (record { start = s; len = n }))) → ⊥) → over_of own f ≡ plainly f
nothing-own (Ok (Some ff)) f h = absurd (h ff.start ff.len refl)
nothing-own (Ok None) f h = refl
nothing-own (Err r) (Ok (Some f)) h = refl
nothing-own (Err r) (Ok None) h = refl
nothing-own (Err r) (Err q) h = refl

-- the overrides' own lookup finds no place
own-none : (k : List ℕ) (o : Node) → o.recs ≡ [] → (s n : ℕ) → find_on k 0 (some o) ≡ (Ok (Some (record { start = s; len = n }))) → ⊥
unfolding find_rec
own-none k o e s n q = go (leb (length k) max_key) (ap (λ (l : List Rec). pick (leb (length k) max_key) (find_rec k 0 0 l) (Err TooLong)) (sym e) ∙ q)
  where
    go : (t : Bool) → ◌≡◌ {A = Result (Option Found) Refusal} (pick t (Ok None) (Err TooLong)) (Ok (Some (record { start = s; len = n }))) → ⊥
    go true p = let z : ◌≡◌ {A = ℕ} 0 1 = cc in omega arith
    go false p = let z : ◌≡◌ {A = ℕ} 0 1 = cc in omega arith

pub empty-found : (p : Profile) (q : Party) (n : ℕ) (k : List ℕ) (o : Node) (t : Table) → o.recs ≡ [] → found_over p q n k o t ≡ plainly (find_as p q n k t)
empty-found p q n k o t e = nothing-own (own_found k o) (find_as p q n k t) (own-none k o e)

-- in lent bytes: 14 is the table's, and all else is as `find` has it
pub empty-find : (q : Party) (n : ℕ) (k b l : List ℕ) → valid_node b ≡ true → (decode_node b).node.recs ≡ []
    → lent_find_over q n k b l ≡ pick (valid_whole l) (plainly (lent_find q n k l)) (Err (record { which = which.Table; why = BadTable }))
unfolding from_both from_table
empty-find q n k b l o e =
    pick_true (valid_node b) (pick (valid_whole l) (found_over p q n k (decode_node b).node t) (Err (record { which = which.Table; why = BadTable }))) (Err (record { which = which.Overrides; why = BadTable })) o
    ∙ go (valid_whole l)
  where
    p : Profile
    p = (decode_whole l).kind.profile

    t : Table
    t = (decode_whole l).table

    go : (v : Bool) → pick v (found_over p q n k (decode_node b).node t) (Err (record { which = which.Table; why = BadTable }))
        ≡ pick v (plainly (pick v (find_as p q n k t) (Err BadTable))) (Err (record { which = which.Table; why = BadTable }))
    go true = empty-found p q n k (decode_node b).node t e
    go false = refl
