-- The rules that a profile adds to 14 are kept where nodes come and go, where records go, and where a node becomes another in form. Assumes nothing.
use Prim.Native.Nat.{ℕ, suc, ◌≤◌}
use mathlib.Core.Bool.{Bool, true, false, not}
use mathlib.Core.List.{List, [], ◌∷◌}
use mathlib.Core.Option.{some}
use mathlib.Core.Path.{◌≡◌, refl, subst, sym}
use lib.Dec.{eqb, ltb, leb}
use native.Mathlib.Omega.{arith}
use borrow.Author.Tests.{le-leb, leb-true}
use lib.ListN.{length}
use Rattle.fields.specs.Choice.{pick, keep, all}
use Rattle.fields.specs.Order.{same_bytes, less_bytes}
use Rattle.fields.proofs.Choice.{all_from, and_intro, and_left, and_right}
use Rattle.rules.specs.Sizes.{max_nodes, max_each}
use Rattle.rules.specs.Node.{Rec, Node, fresh, goes, remove, store}
use Rattle.rules.specs.Table.{Entry, Table, add_node, among, drop_node, node_of, numbers_of, remove_all, set_node}
use Rattle.rules.specs.Party.{of_keys, own}
use Rattle.rules.specs.Profile.{in_form, profile_obeys, recs_fit, recs_formed, recs_obey, table_formed}
use Rattle.rules.specs.Local.{add, gives, remove_node}
use Rattle.std.specs.Prelude.{Err}
use Rattle.rules.specs.Results.{done}
use Rattle.rules.specs.declared.Profile.{Profile}
use Rattle.rules.specs.declared.Party.TheVariants.{Metering, Building}
use Rattle.rules.specs.declared.Profile.TheVariants.{Free, Meter, Shared}
use Rattle.rules.specs.declared.Refusal.TheVariants.{NinthNode, NoNode}
use Rattle.rules.proofs.Calls.{node_in}

-- ---- how many records: fewer of them fit

of_keys-keep : (mine : List ℕ → Bool) (f : Rec → Bool) (l : List Rec) → length (of_keys mine (keep f l)) ≤ length (of_keys mine l)
unfolding keep length
of_keys-keep mine f [] = omega arith
of_keys-keep mine f (a ∷ l) = go (f a) (mine a.kv.key) refl (of_keys-keep mine f l)
  where
    go : (b c : Bool) → mine a.kv.key ≡ c → length (of_keys mine (keep f l)) ≤ length (of_keys mine l) → length (of_keys mine (pick b (a ∷ keep f l) (keep f l))) ≤ length (pick c (a ∷ of_keys mine l) (of_keys mine l))
    go true true q ih = subst (λ (x : Bool). length (pick x (a ∷ of_keys mine (keep f l)) (of_keys mine (keep f l))) ≤ suc (length (of_keys mine l))) (sym q) (omega (arith, ih))
    go true false q ih = subst (λ (x : Bool). length (pick x (a ∷ of_keys mine (keep f l)) (of_keys mine (keep f l))) ≤ length (of_keys mine l)) (sym q) ih
    go false true q ih = omega (arith, ih)
    go false false q ih = ih

fewer : (a b n : ℕ) → a ≤ b → leb b n ≡ true → leb a n ≡ true
fewer a b n h e = le-leb a n (let k = leb-true b n e in omega (arith, h, k))

pub keep-fit : (p : Profile) (f : Rec → Bool) (l : List Rec) → recs_fit p l ≡ true → recs_fit p (keep f l) ≡ true
keep-fit Free f l h = refl
keep-fit Meter f l h = refl
keep-fit Shared f l h =
    and_intro (leb (length (of_keys (own Metering) (keep f l))) max_each) (leb (length (of_keys (own Building) (keep f l))) max_each)
    (fewer _ _ max_each (of_keys-keep (own Metering) f l) (and_left (leb (length (of_keys (own Metering) l)) max_each) (leb (length (of_keys (own Building) l)) max_each) h))
    (fewer _ _ max_each (of_keys-keep (own Building) f l) (and_right (leb (length (of_keys (own Metering) l)) max_each) (leb (length (of_keys (own Building) l)) max_each) h))

pub none-fit : (p : Profile) → recs_fit p [] ≡ true
unfolding keep
none-fit Free = refl
none-fit Meter = refl
none-fit Shared = refl

module _ (p : Profile) where
  abbrev good : Rec → Bool
  good r = in_form p r.kv

  abbrev formed : Entry → Bool
  formed e = recs_obey p e.node.recs

  -- ---- the records of a node

  pub none-formed : recs_formed p [] ≡ true
  unfolding all
  none-formed = refl

  pub store-formed : (r : Rec) (l : List Rec) → in_form p r.kv ≡ true → recs_formed p l ≡ true → recs_formed p (store r l) ≡ true
  unfolding store all
  store-formed r [] g h = and_intro (good r) true g refl
  store-formed r (a ∷ l) g h = go (same_bytes r.kv.key a.kv.key) (less_bytes r.kv.key a.kv.key) (store-formed r l g (and_right (good a) (all good l) h))
    where
      go : (b c : Bool) → all good (store r l) ≡ true → all good (pick b (r ∷ l) (pick c (r ∷ a ∷ l) (a ∷ store r l))) ≡ true
      go true c ih = and_intro (good r) (all good l) g (and_right (good a) (all good l) h)
      go false true ih = and_intro (good r) (all good (a ∷ l)) g h
      go false false ih = and_intro (good a) (all good (store r l)) (and_left (good a) (all good l) h) ih

  keep-formed : (f : Rec → Bool) (l : List Rec) → recs_formed p l ≡ true → recs_formed p (keep f l) ≡ true
  unfolding keep all
  keep-formed f [] h = refl
  keep-formed f (a ∷ l) h = go (f a) (keep-formed f l (and_right (good a) (all good l) h))
    where
      go : (b : Bool) → all good (keep f l) ≡ true → all good (pick b (a ∷ keep f l) (keep f l)) ≡ true
      go true ih = and_intro (good a) (all good (keep f l)) (and_left (good a) (all good l) h) ih
      go false ih = ih

  pub none-obey : recs_obey p [] ≡ true
  none-obey = and_intro (recs_fit p []) (recs_formed p []) (none-fit p) none-formed

  -- what obeys is in form, and fits
  pub obey-formed : (l : List Rec) → recs_obey p l ≡ true → recs_formed p l ≡ true
  obey-formed l h = and_right (recs_fit p l) (recs_formed p l) h

  pub obey-fit : (l : List Rec) → recs_obey p l ≡ true → recs_fit p l ≡ true
  obey-fit l h = and_left (recs_fit p l) (recs_formed p l) h

  pub formed-fit : (l : List Rec) → recs_formed p l ≡ true → recs_fit p l ≡ true → recs_obey p l ≡ true
  formed-fit l h g = and_intro (recs_fit p l) (recs_formed p l) g h

  keep-obey : (f : Rec → Bool) (l : List Rec) → recs_obey p l ≡ true → recs_obey p (keep f l) ≡ true
  keep-obey f l h = formed-fit (keep f l) (keep-formed f l (obey-formed l h)) (keep-fit p f l (obey-fit l h))

  -- ---- the table

  pub node-obeys : (i : ℕ) (t : Table) {n : Node} → profile_obeys p t ≡ true → node_of i t ≡ some n → recs_obey p n.recs ≡ true
  unfolding profile_obeys
  node-obeys i t h q = let x = node_in i t q in subst (λ (y : Node). recs_obey p y.recs ≡ true) x.2 (all_from formed t h x.0 x.1)

  pub node-formed : (i : ℕ) (t : Table) {n : Node} → profile_obeys p t ≡ true → node_of i t ≡ some n → recs_formed p n.recs ≡ true
  node-formed i t {n} h q = obey-formed n.recs (node-obeys i t h q)

  -- the forms alone
  pub table-formed : (t : Table) → profile_obeys p t ≡ true → table_formed p t ≡ true
  unfolding profile_obeys table_formed all
  table-formed [] h = refl
  table-formed (a ∷ t) h =
      and_intro (recs_formed p a.node.recs) (all (λ (e : Entry). recs_formed p e.node.recs) t) (obey-formed a.node.recs (and_left (formed a) (all formed t) h))
      (table-formed t (and_right (formed a) (all formed t) h))

  pub set-formed : (i : ℕ) (n : Node) (t : Table) → profile_obeys p t ≡ true → recs_obey p n.recs ≡ true → profile_obeys p (set_node i n t) ≡ true
  unfolding set_node profile_obeys all
  set-formed i n [] h g = refl
  set-formed i n (a ∷ t) h g = go (eqb i a.number) (set-formed i n t (and_right (formed a) (all formed t) h) g)
    where
      go : (b : Bool) → all formed (set_node i n t) ≡ true → all formed (pick b (record { number = a.number; node = n } ∷ t) (a ∷ set_node i n t)) ≡ true
      go true ih = and_intro (recs_obey p n.recs) (all formed t) g (and_right (formed a) (all formed t) h)
      go false ih = and_intro (formed a) (all formed (set_node i n t)) (and_left (formed a) (all formed t) h) ih

  pub removed-formed : (due : ℕ → Rec → Bool) (t : Table) → profile_obeys p t ≡ true → profile_obeys p (remove_all due t) ≡ true
  unfolding remove_all remove profile_obeys all
  removed-formed due [] h = refl
  removed-formed due (a ∷ t) h =
      and_intro (recs_obey p (keep (λ r. not (goes (due a.number) r)) a.node.recs)) (all formed (remove_all due t))
      (keep-obey (λ r. not (goes (due a.number) r)) a.node.recs (and_left (formed a) (all formed t) h))
      (removed-formed due t (and_right (formed a) (all formed t) h))

  added : (i : ℕ) (t : Table) → profile_obeys p t ≡ true → profile_obeys p (add_node i t) ≡ true
  unfolding add_node profile_obeys all
  added i [] h = and_intro (recs_obey p []) true none-obey refl
  added i (a ∷ t) h = go (eqb i a.number) (ltb i a.number) (added i t (and_right (formed a) (all formed t) h))
    where
      go : (b c : Bool) → all formed (add_node i t) ≡ true → all formed (pick b (a ∷ t) (pick c (record { number = i; node = fresh } ∷ a ∷ t) (a ∷ add_node i t))) ≡ true
      go true c ih = h
      go false true ih = and_intro (recs_obey p []) (all formed (a ∷ t)) none-obey h
      go false false ih = and_intro (formed a) (all formed (add_node i t)) (and_left (formed a) (all formed t) h) ih

  dropped : (i : ℕ) (t : Table) → profile_obeys p t ≡ true → profile_obeys p (drop_node i t) ≡ true
  unfolding drop_node profile_obeys all
  dropped i [] h = refl
  dropped i (a ∷ t) h = go (eqb i a.number) (dropped i t (and_right (formed a) (all formed t) h))
    where
      go : (b : Bool) → all formed (drop_node i t) ≡ true → all formed (pick b t (a ∷ drop_node i t)) ≡ true
      go true ih = and_right (formed a) (all formed t) h
      go false ih = and_intro (formed a) (all formed (drop_node i t)) (and_left (formed a) (all formed t) h) ih

  pub add-formed : (i : ℕ) (t : Table) → profile_obeys p t ≡ true → profile_obeys p (add i t).table ≡ true
  unfolding add
  add-formed i t h = go (among i (numbers_of t)) (ltb (length t) max_nodes)
    where
      go : (a b : Bool) → profile_obeys p (pick a (gives done t) (pick b (gives done (add_node i t)) (gives (Err NinthNode) t))).table ≡ true
      go true b = h
      go false true = added i t h
      go false false = h

  pub drop-formed : (i : ℕ) (t : Table) → profile_obeys p t ≡ true → profile_obeys p (remove_node i t).table ≡ true
  unfolding remove_node
  drop-formed i t h = go (among i (numbers_of t))
    where
      go : (a : Bool) → profile_obeys p (pick a (gives done (drop_node i t)) (gives (Err NoNode) t)).table ≡ true
      go true = dropped i t h
      go false = h

-- in the free profile every table does
recs-free : (l : List Rec) → recs_formed Free l ≡ true
unfolding all
recs-free [] = refl
recs-free (a ∷ l) = recs-free l

pub free-formed : (t : Table) → profile_obeys Free t ≡ true
unfolding profile_obeys all
free-formed [] = refl
free-formed (e ∷ t) = and_intro (recs_formed Free e.node.recs) (all (λ (e : Entry). recs_obey Free e.node.recs) t) (recs-free e.node.recs) (free-formed t)

-- and one without nodes in any
pub empty-formed : (p : Profile) → profile_obeys p [] ≡ true
unfolding profile_obeys all
empty-formed p = refl
