-- Over overrides without a record the merged listing is the ordinary one. Assumes nothing.
use Prim.Native.Nat.{ℕ, suc}
use mathlib.Core.Path.{◌≡◌, refl, ap, ◌∙◌}
use mathlib.Core.Bool.{Bool, true, false}
use mathlib.Core.List.{List, [], ◌∷◌}
use mathlib.Core.Option.{Option, none, some}
use lib.ListN.{length}
use lib.Dec.{leb}
use Rattle.fields.specs.Choice.{pick}
use Rattle.fields.specs.Parts.{put}
use Rattle.fields.proofs.Choice.{pick_true}
use Rattle.rules.specs.Sizes.{max_key}
use Rattle.rules.specs.Given.{given}
use Rattle.rules.specs.Node.{Rec, Node, hits, hits_from}
use Rattle.rules.specs.Table.{Table, node_of}
use Rattle.rules.specs.Local as rule
use Rattle.rules.specs.Party.{sees, seen}
use Rattle.rules.specs.Local.{prefix_on, prefixed, prefixed_as}
use Rattle.rules.specs.Lent.{from_table, lent_prefixed}
use Rattle.rules.specs.Layout.{decode_node}
use Rattle.rules.specs.Whole.{decode_whole, valid_whole}
use Rattle.rules.specs.declared.Profile.{Profile}
use Rattle.rules.specs.declared.Party.{Party}
use Rattle.std.specs.Prelude.{Err, Ok}
use Rattle.rules.specs.declared.Refusal.TheVariants.{BadTable, NoPlace, TooLong}
use Rattle.overrides.specs.Overrides.{valid_node}
use Rattle.overrides.specs.Both.{from_both}
use Rattle.overrides.specs.declared.Which.TheVariants as which
use Rattle.over_list.specs.Stated.{plainly_given}
use Rattle.over_list.specs.Merged.{hits_by, hits_in, overlaid, places_of, listing, list_into, list_on, list_over, lent_list_over}

-- the places of the hits are document 01's
places-plain : (p : List ℕ) (i : ℕ) (l : List Rec) → places_of (hits_in p i l) ≡ hits_from p i l
unfolding hits_by places_of hits_from
places-plain p i [] = refl
places-plain p i (r ∷ l) = go (hits p r) (places-plain p (suc i) l)
  where
    go : (t : Bool) → places_of (hits_in p (suc i) l) ≡ hits_from p (suc i) l
        → places_of (pick t (record { place = i; rec = r } ∷ hits_in p (suc i) l) (hits_in p (suc i) l)) ≡ pick t (i ∷ hits_from p (suc i) l) (hits_from p (suc i) l)
    go true ih = ap (λ (x : List ℕ). i ∷ x) ih
    go false ih = ih

listing-plain : (mine : List ℕ → Bool) (p : List ℕ) (o n : List Rec) → o ≡ [] → places_of (listing mine p o n) ≡ hits_from p 0 n
unfolding listing overlaid hits_by
listing-plain mine p o n e = ap (λ (l : List Rec). places_of (listing mine p l n)) e ∙ places-plain p 0 n

into-plain : (found l : List ℕ) → list_into found l ≡ plainly_given (rule.list_into found l)
into-plain found l = go (leb (length found) (length l))
  where
    go : (t : Bool)
        → pick t (given (Ok (length found)) (put 0 found l)) (given (Err (record { which = which.Neither; why = NoPlace })) l)
        ≡ plainly_given (pick t (given (Ok (length found)) (put 0 found l)) (given (Err NoPlace) l))
    go true = refl
    go false = refl

on-plain : (mine : List ℕ → Bool) (p : List ℕ) (o : Node) (held : Option Node) (l : List ℕ) → o.recs ≡ [] → list_on mine p o held l ≡ plainly_given (prefix_on p held l)
on-plain mine p o none l e = refl
on-plain mine p o (some n) l e = go (leb (length p) max_key)
  where
    go : (t : Bool) → pick t (list_into (places_of (listing mine p o.recs n.recs)) l) (given (Err (record { which = which.Neither; why = TooLong })) l)
        ≡ plainly_given (pick t (rule.list_into (hits_from p 0 n.recs) l) (given (Err TooLong) l))
    go true = ap (λ (x : List ℕ). list_into x l) (listing-plain mine p o.recs n.recs e) ∙ into-plain (hits_from p 0 n.recs) l
    go false = refl

-- in lent bytes: 14 is the table's, and all else is as `list_prefix` has it
pub empty-list : (q : Party) (i : ℕ) (p l b t : List ℕ) → valid_node b ≡ true → (decode_node b).node.recs ≡ []
    → lent_list_over q i p l b t ≡ pick (valid_whole t) (plainly_given (lent_prefixed q i p l t)) (given (Err (record { which = which.Table; why = BadTable })) l)
unfolding from_both from_table prefixed prefixed_as
empty-list q i p l b t o e =
    pick_true (valid_node b) (pick (valid_whole t) (list_over pr q i p l (decode_node b).node u) (given (Err (record { which = which.Table; why = BadTable })) l)) (given (Err (record { which = which.Overrides; why = BadTable })) l) o
    ∙ go (valid_whole t)
  where
    pr : Profile
    pr = (decode_whole t).kind.profile

    u : Table
    u = (decode_whole t).table

    go : (v : Bool) → pick v (list_over pr q i p l (decode_node b).node u) (given (Err (record { which = which.Table; why = BadTable })) l)
        ≡ pick v (plainly_given (pick v (prefix_on p (node_of i (seen pr q u)) l) (given (Err BadTable) l))) (given (Err (record { which = which.Table; why = BadTable })) l)
    go true = on-plain (sees pr q) p (decode_node b).node (node_of i (seen pr q u)) l e
    go false = refl
