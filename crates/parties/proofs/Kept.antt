-- The rules that a shared table adds to 14 are kept by a party's call, and hold of what a party has. Assumes nothing.
use Prim.Native.Nat.{ℕ, suc, ◌+◌, ◌≤◌}
use mathlib.Core.Bool.{Bool, true, false, ◌&&◌}
use mathlib.Core.List.{List, [], ◌∷◌}
use mathlib.Core.Option.{Option, none, some}
use mathlib.Core.Path.{◌≡◌, refl, ap, sym, ◌∙◌, subst}
use native.Mathlib.Omega.{arith}
use lib.ListN.{length}
use lib.Dec.{leb, ltb}
use borrow.Author.Tests.{leb-true, le-leb}
use Rattle.fields.specs.Choice.{pick, keep, all}
use Rattle.fields.proofs.Choice.{and_intro, and_left, and_right}
use Rattle.rules.specs.Sizes.{max_each, max_key, max_value, top}
use Rattle.rules.specs.Node.{Rec, Node, Call, brought, Decision, Refuse, Leave, Give, act, write, find, store, wish}
use Rattle.rules.specs.Table.{Entry, Table, node_of}
use Rattle.rules.specs.Party.{own, of_keys, roomy_each}
use Rattle.rules.specs.Profile.{in_form, recs_formed, recs_obey, profile_obeys}
use Rattle.rules.specs.declared.Party.{Party}
use Rattle.rules.specs.declared.Party.TheVariants.{Metering, Building}
use Rattle.rules.specs.declared.Profile.TheVariants.{Shared}
use Rattle.rules.specs.declared.Refusal.TheVariants.{TooLong, NodeFull, Exhausted, OtherParty}
use Rattle.rules.proofs.Records.{key_of, Sorted}
use Rattle.rules.proofs.Formed.{formed-fit, node-obeys, obey-fit, obey-formed, set-formed, store-formed}
use Rattle.profiles.proofs.Shared.{own-formed, stored-few}
use Rattle.parties.specs.Order.{full_for, allowed_for, decide_for, call_for, call_by}
use Rattle.parties.specs.TwoRuns.{unversioned}
use Rattle.parties.proofs.Views.{view_recs}
use Rattle.parties.proofs.Tables.{view_table, InOrder, node-ordered}

-- ---- what a party has

module _ (mine : List ℕ → Bool) where
  view-fewer : (these : List ℕ → Bool) (l : List Rec) → length (of_keys these (view_recs mine l)) ≤ length (of_keys these l)
  unfolding keep view_recs
  view-fewer these [] = omega arith
  view-fewer these (a ∷ l) = go (mine (key_of a)) (these (key_of a)) refl (view-fewer these l)
    where
      go : (b c : Bool) → these (key_of a) ≡ c → length (of_keys these (view_recs mine l)) ≤ length (of_keys these l)
          → length (of_keys these (pick b (unversioned a ∷ view_recs mine l) (view_recs mine l))) ≤ length (pick c (a ∷ of_keys these l) (of_keys these l))
      go true true q ih = subst (λ (x : Bool). length (pick x (unversioned a ∷ of_keys these (view_recs mine l)) (of_keys these (view_recs mine l))) ≤ suc (length (of_keys these l))) (sym q) (omega (arith, ih))
      go true false q ih = subst (λ (x : Bool). length (pick x (unversioned a ∷ of_keys these (view_recs mine l)) (of_keys these (view_recs mine l))) ≤ length (of_keys these l)) (sym q) ih
      go false true q ih = omega (arith, ih)
      go false false q ih = ih

  view-formed : (l : List Rec) → recs_formed Shared l ≡ true → recs_formed Shared (view_recs mine l) ≡ true
  unfolding all view_recs
  view-formed [] h = refl
  view-formed (a ∷ l) h = go (mine (key_of a)) (view-formed l (and_right (in_form Shared a.kv) (recs_formed Shared l) h))
    where
      go : (b : Bool) → recs_formed Shared (view_recs mine l) ≡ true → recs_formed Shared (pick b (unversioned a ∷ view_recs mine l) (view_recs mine l)) ≡ true
      go true ih = and_intro (in_form Shared a.kv) (recs_formed Shared (view_recs mine l)) (and_left (in_form Shared a.kv) (recs_formed Shared l) h) ih
      go false ih = ih

  fewer : (a b n : ℕ) → a ≤ b → leb b n ≡ true → leb a n ≡ true
  fewer a b n h e = le-leb a n (let k = leb-true b n e in omega (arith, h, k))

  view-fits : (l : List Rec) → roomy_each l ≡ true → roomy_each (view_recs mine l) ≡ true
  view-fits l h =
      and_intro (leb (length (of_keys (own Metering) (view_recs mine l))) max_each) (leb (length (of_keys (own Building) (view_recs mine l))) max_each)
      (fewer _ _ max_each (view-fewer (own Metering) l) (and_left (leb (length (of_keys (own Metering) l)) max_each) (leb (length (of_keys (own Building) l)) max_each) h))
      (fewer _ _ max_each (view-fewer (own Building) l) (and_right (leb (length (of_keys (own Metering) l)) max_each) (leb (length (of_keys (own Building) l)) max_each) h))

  view-obey : (l : List Rec) → recs_obey Shared l ≡ true → recs_obey Shared (view_recs mine l) ≡ true
  view-obey l h = formed-fit Shared (view_recs mine l) (view-formed l (obey-formed Shared l h)) (view-fits l (obey-fit Shared l h))

  pub view-obeys : (t : Table) → profile_obeys Shared t ≡ true → profile_obeys Shared (view_table mine t) ≡ true
  unfolding profile_obeys all view_table
  view-obeys [] h = refl
  view-obeys (a ∷ t) h =
      let each : Entry → Bool = λ e. recs_obey Shared e.node.recs in
      and_intro (recs_obey Shared (view_recs mine a.node.recs)) (all each (view_table mine t)) (view-obey a.node.recs (and_left (each a) (all each t) h)) (view-obeys t (and_right (each a) (all each t) h))

-- ---- a call

store-obey : (q : Party) (r : Rec) (l : List Rec) → Sorted l → own q (key_of r) ≡ true → recs_obey Shared l ≡ true → (find (key_of r) l ≡ none → leb max_each (length (of_keys (own q) l)) ≡ false)
    → recs_obey Shared (store r l) ≡ true
store-obey q r l s m h g =
    formed-fit Shared (store r l) (store-formed Shared r l (own-formed q r.kv m) (obey-formed Shared l h)) (stored-few r l s q m (obey-fit Shared l h) g)

acted : (q : Party) (c : Call) (k : List ℕ) (n : Node) → Sorted n.recs → recs_obey Shared n.recs ≡ true → recs_obey Shared (act k (decide_for (own q) c k n) n).recs ≡ true
unfolding decide_for act write
acted q c k n s h = go (leb (length k) max_key && leb (length (brought c)) max_value) (own q k) refl
  where
    allowed : own q k ≡ true → (d : Decision) → recs_obey Shared (act k (allowed_for (own q) k n d) n).recs ≡ true
    allowed m (Refuse r) = h
    allowed m Leave = h
    allowed m (Give ch) = at (full_for (own q) (find k n.recs) n) refl (ltb n.max top)
      where
        at : (a : Bool) → full_for (own q) (find k n.recs) n ≡ a → (b : Bool) → recs_obey Shared (act k (pick a (Refuse NodeFull) (pick b (Give ch) (Refuse Exhausted))) n).recs ≡ true
        at true e b = h
        at false e true =
            store-obey q (record { kv = record { key = k; value = ch.value; version = n.max + 1; status = ch.status }; start = ch.start }) n.recs s m h
            (λ f. sym (ap (λ (o : Option Rec). full_for (own q) o n) f) ∙ e)
        at false e false = h

    go : (a b : Bool) → own q k ≡ b → recs_obey Shared (act k (pick a (pick b (allowed_for (own q) k n (wish c (find k n.recs))) (Refuse OtherParty)) (Refuse TooLong)) n).recs ≡ true
    go true true m = allowed m (wish c (find k n.recs))
    go true false m = h
    go false b m = h

pub call-obeys : (q : Party) (c : Call) (i : ℕ) (k : List ℕ) (t : Table) → InOrder t → profile_obeys Shared t ≡ true → profile_obeys Shared (call_by (own q) c i k t).table ≡ true
unfolding call_by
call-obeys q c i k t s h = go (node_of i t) refl
  where
    go : (o : Option Node) → node_of i t ≡ o → profile_obeys Shared (call_for (own q) c i k o t).table ≡ true
    go none e = h
    go (some n) e = set-formed Shared i (act k (decide_for (own q) c k n) n) t h (acted q c k n (node-ordered i t s e) (node-obeys Shared i t h e))
