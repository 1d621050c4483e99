-- What a party has of a table: how nodes are found, set, added, taken out, and how removal goes through it. And tables whose keys stand in order. Assumes
-- nothing.
use Prim.Native.Nat.{ℕ, suc}
use mathlib.Core.Bool.{Bool, true, false, not}
use mathlib.Core.List.{List, [], ◌∷◌}
use mathlib.Core.Logic.{◌⊎◌, inl, inr}
use mathlib.Core.Option.{Option, none, some}
use mathlib.Core.Path.{◌≡◌, refl, ap, sym, ◌∙◌, subst}
use lib.ListN.{length}
use lib.Dec.{eqb, ltb}
use Rattle.fields.specs.Choice.{◌∈◌, here, later, pick, keep}
use Rattle.fields.proofs.Choice.{in-cons, in-none}
use Rattle.rules.specs.Node.{Rec, Node, goes, remove, due, fresh}
use Rattle.rules.specs.Table.{Entry, Table, node_of, set_node, add_node, drop_node, remove_all, numbers_of, obeys}
use Rattle.rules.proofs.Calls.{node_in, add-from, drop-from}
use Rattle.rules.proofs.Obeys.{table-facts}
use Rattle.rules.proofs.Records.{Sorted, sorted-keep}
use Rattle.rules.specs.Party.{alone}
use Rattle.parties.specs.TwoRuns.{versionless}
use Rattle.parties.proofs.Views.{view_recs, view-is, view-twice, keep-view}

abbrev pub view_node : (mine : List ℕ → Bool) (node : Node) → Node
view_node mine n = record { heartbeat = n.heartbeat; max = 0; last_gc = 0; recs = view_recs mine n.recs }

-- what a party has of a table, in one pass
unfoldable pub view_table : (mine : List ℕ → Bool) (table : Table) → Table
view_table mine [] = []
view_table mine (e ∷ t) = record { number = e.number; node = view_node mine e.node } ∷ view_table mine t

abbrev pub view_held : (mine : List ℕ → Bool) → Option Node → Option Node
view_held mine none = none
view_held mine (some n) = some (view_node mine n)

module _ (mine : List ℕ → Bool) where
  -- in two passes
  pub table_is : (t : Table) → versionless (alone mine t) ≡ view_table mine t
  unfolding versionless alone view_table
  table_is [] = refl
  table_is (a ∷ t) =
      ap (λ (l : List Rec). record { number = a.number; node = record { heartbeat = a.node.heartbeat; max = 0; last_gc = 0; recs = l } } ∷ versionless (alone mine t)) (view-is mine a.node.recs)
      ∙ ap (λ (x : Table). record { number = a.number; node = view_node mine a.node } ∷ x) (table_is t)

  pub node-view : (i : ℕ) (t : Table) → node_of i (view_table mine t) ≡ view_held mine (node_of i t)
  unfolding node_of view_table
  node-view i [] = refl
  node-view i (a ∷ t) = go (eqb i a.number) (node-view i t)
    where
      go : (b : Bool) → node_of i (view_table mine t) ≡ view_held mine (node_of i t) → pick b (some (view_node mine a.node)) (node_of i (view_table mine t)) ≡ view_held mine (pick b (some a.node) (node_of i t))
      go true ih = refl
      go false ih = ih

  pub set_view : (i : ℕ) (n : Node) (t : Table) → view_table mine (set_node i n t) ≡ set_node i (view_node mine n) (view_table mine t)
  unfolding set_node view_table
  set_view i n [] = refl
  set_view i n (a ∷ t) = go (eqb i a.number) (set_view i n t)
    where
      v : Entry
      v = record { number = a.number; node = view_node mine a.node }

      go : (b : Bool) → view_table mine (set_node i n t) ≡ set_node i (view_node mine n) (view_table mine t)
          → view_table mine (pick b (record { number = a.number; node = n } ∷ t) (a ∷ set_node i n t))
          ≡ pick b (record { number = a.number; node = view_node mine n } ∷ view_table mine t) (record { number = a.number; node = view_node mine a.node } ∷ set_node i (view_node mine n) (view_table mine t))
      go true ih = refl
      go false ih = ap (λ (x : Table). record { number = a.number; node = view_node mine a.node } ∷ x) ih

  pub node-twice : (n : Node) → view_node mine (view_node mine n) ≡ view_node mine n
  node-twice n = ap (λ (l : List Rec). record { heartbeat = n.heartbeat; max = 0; last_gc = 0; recs = l }) (view-twice mine n.recs)

  pub table-twice : (t : Table) → view_table mine (view_table mine t) ≡ view_table mine t
  unfolding view_table
  table-twice [] = refl
  table-twice (a ∷ t) =
      ap (λ (n : Node). record { number = a.number; node = n } ∷ view_table mine (view_table mine t)) (node-twice a.node)
      ∙ ap (λ (x : Table). record { number = a.number; node = view_node mine a.node } ∷ x) (table-twice t)

  pub numbers-view : (t : Table) → numbers_of (view_table mine t) ≡ numbers_of t
  unfolding numbers_of view_table
  numbers-view [] = refl
  numbers-view (a ∷ t) = ap (λ (x : List ℕ). a.number ∷ x) (numbers-view t)

  pub length-view : (t : Table) → length (view_table mine t) ≡ length t
  unfolding view_table
  length-view [] = refl
  length-view (a ∷ t) = ap suc (length-view t)

  pub add-view : (i : ℕ) (t : Table) → view_table mine (add_node i t) ≡ add_node i (view_table mine t)
  unfolding add_node view_table view_recs
  add-view i [] = refl
  add-view i (a ∷ t) = go (eqb i a.number) (ltb i a.number) (add-view i t)
    where
      go : (b c : Bool) → view_table mine (add_node i t) ≡ add_node i (view_table mine t)
          → view_table mine (pick b (a ∷ t) (pick c (record { number = i; node = fresh } ∷ a ∷ t) (a ∷ add_node i t)))
          ≡ pick b (record { number = a.number; node = view_node mine a.node } ∷ view_table mine t)
          (pick c (record { number = i; node = fresh } ∷ record { number = a.number; node = view_node mine a.node } ∷ view_table mine t)
          (record { number = a.number; node = view_node mine a.node } ∷ add_node i (view_table mine t)))
      go true c ih = refl
      go false true ih = refl
      go false false ih = ap (λ (x : Table). record { number = a.number; node = view_node mine a.node } ∷ x) ih

  pub drop-view : (i : ℕ) (t : Table) → view_table mine (drop_node i t) ≡ drop_node i (view_table mine t)
  unfolding drop_node view_table
  drop-view i [] = refl
  drop-view i (a ∷ t) = go (eqb i a.number) (drop-view i t)
    where
      go : (b : Bool) → view_table mine (drop_node i t) ≡ drop_node i (view_table mine t)
          → view_table mine (pick b t (a ∷ drop_node i t)) ≡ pick b (view_table mine t) (record { number = a.number; node = view_node mine a.node } ∷ drop_node i (view_table mine t))
      go true ih = refl
      go false ih = ap (λ (x : Table). record { number = a.number; node = view_node mine a.node } ∷ x) ih

  -- the clock looks at no version
  remove-node : (now grace : ℕ) (n : Node) → view_node mine (remove (due now grace) n) ≡ view_node mine (remove (due now grace) (view_node mine n))
  unfolding remove
  remove-node now grace n =
      ap (λ (l : List Rec). record { heartbeat = n.heartbeat; max = 0; last_gc = 0; recs = l })
      (keep-view mine p (λ r. refl) n.recs ∙ ap (keep p) (sym (view-twice mine n.recs)) ∙ sym (keep-view mine p (λ r. refl) (view_recs mine n.recs)))
    where
      p : Rec → Bool
      p r = not (goes (due now grace) r)

  pub remove-view : (now grace : ℕ) (t : Table) → view_table mine (remove_all (λ i. due now grace) t) ≡ view_table mine (remove_all (λ i. due now grace) (view_table mine t))
  unfolding remove_all view_table
  remove-view now grace [] = refl
  remove-view now grace (a ∷ t) =
      ap (λ (n : Node). record { number = a.number; node = n } ∷ view_table mine (remove_all (λ i. due now grace) t)) (remove-node now grace a.node)
      ∙ ap (λ (x : Table). record { number = a.number; node = view_node mine (remove (due now grace) (view_node mine a.node)) } ∷ x) (remove-view now grace t)

-- ---- keys in order

pub InOrder : Table → Type 0
InOrder t = (e : Entry) → e ∈ t → Sorted e.node.recs

pub obeys-ordered : (t : Table) → obeys t ≡ true → InOrder t
unfolding InOrder
obeys-ordered t o e m = ((table-facts t o).each e m).node_ok.sorted

pub node-ordered : (i : ℕ) (t : Table) {n : Node} → InOrder t → node_of i t ≡ some n → Sorted n.recs
unfolding InOrder
node-ordered i t s q = let x = node_in i t q in subst (λ (n : Node). Sorted n.recs) x.2 (s x.0 x.1)

pub set-ordered : (i : ℕ) (n : Node) (t : Table) → InOrder t → Sorted n.recs → InOrder (set_node i n t)
unfolding InOrder set_node
set-ordered i n [] s h = s
set-ordered i n (a ∷ t) s h = go (eqb i a.number) (set-ordered i n t (λ e m. s e (later m)) h)
  where
    go : (b : Bool) → InOrder (set_node i n t) → InOrder (pick b (record { number = a.number; node = n } ∷ t) (a ∷ set_node i n t))
    go true ih e m = at (in-cons m)
      where
        at : (e ≡ record { number = a.number; node = n }) ⊎ (e ∈ t) → Sorted e.node.recs
        at (inl q) = subst (λ (x : Entry). Sorted x.node.recs) (sym q) h
        at (inr k) = s e (later k)
    go false ih e m = at (in-cons m)
      where
        at : (e ≡ a) ⊎ (e ∈ set_node i n t) → Sorted e.node.recs
        at (inl q) = s e (here q)
        at (inr k) = ih e k

pub add-ordered : (i : ℕ) (t : Table) → InOrder t → InOrder (add_node i t)
unfolding InOrder Sorted
add-ordered i t s e m = at (add-from i t m)
  where
    at : (e ≡ record { number = i; node = fresh }) ⊎ (e ∈ t) → Sorted e.node.recs
    at (inl q) = subst (λ (x : Entry). Sorted x.node.recs) (sym q) tt
    at (inr k) = s e k

pub drop-ordered : (i : ℕ) (t : Table) → InOrder t → InOrder (drop_node i t)
unfolding InOrder
drop-ordered i t s e m = s e (drop-from i t m)

pub remove-ordered : (now grace : ℕ) (t : Table) → InOrder t → InOrder (remove_all (λ i. due now grace) t)
unfolding InOrder remove_all remove
remove-ordered now grace [] s e m = absurd (in-none m)
remove-ordered now grace (a ∷ t) s e m = at (in-cons m) (λ k. remove-ordered now grace t (λ x n. s x (later n)) e k)
  where
    at : (e ≡ record { number = a.number; node = remove (due now grace) a.node }) ⊎ (e ∈ remove_all (λ i. due now grace) t) → (e ∈ remove_all (λ i. due now grace) t → Sorted e.node.recs) → Sorted e.node.recs
    at (inl q) ih = subst (λ (x : Entry). Sorted x.node.recs) (sym q) (sorted-keep _ _ (s a (here refl)))
    at (inr k) ih = ih k
