-- Nodes that come and go, seen by their numbers: a node that a table does not have counts as fresh (`node_at` of `demand3`), so that adding one changes nothing.
-- Assumes nothing.
use Prim.Native.Nat.{◌<◌, ℕ}
use mathlib.Core.Bool.{Bool, false, true, true≢false}
use mathlib.Core.List.{List, [], ◌∷◌}
use mathlib.Core.Logic.{◌⊎◌, inl, inr}
use mathlib.Core.Option.{Option, none, some}
use mathlib.Core.Path.{◌∙◌, ◌≡◌, ap, refl, sym}
use native.Mathlib.Omega.{arith}
use lib.Dec.{eqb, ltb}
use lib.ListN.{length}
use borrow.Author.Tests.{eq-eqb, eqb-false, eqb-true, ne_eqb}
use Rattle.fields.proofs.Choice.{in-cons, in-none}
use Rattle.fields.specs.Choice.{◌∈◌, here, later, pick}
use Rattle.rules.proofs.Obeys.{Ascending}
use Rattle.rules.proofs.Tables.{part_at, present, repeated}
use Rattle.rules.specs.Delta.{NodeDelta, Part}
use Rattle.rules.specs.Local.{add, gives, remove_node}
use Rattle.rules.specs.Node.{fresh}
use Rattle.rules.specs.Sizes.{max_nodes}
use Rattle.rules.specs.Table.{Table, add_node, among, drop_node, node_of, numbers_of}
use Rattle.std.specs.Prelude.{Err}
use Rattle.rules.specs.Results.{done}
use Rattle.rules.specs.declared.Refusal.TheVariants.{NinthNode, NoNode}
use Rattle.demand3.proofs.EachNode.{node_at, or_fresh}

-- ---- nodes come

none-at : (j : ℕ) (t : Table) → among j (numbers_of t) ≡ false → node_of j t ≡ none
unfolding among numbers_of node_of
none-at j [] e = refl
none-at j (a ∷ t) e = at (eqb j a.number) e (none-at j t)
  where
    at : (b : Bool) → pick b true (among j (numbers_of t)) ≡ false → (among j (numbers_of t) ≡ false → node_of j t ≡ none) → pick b (some a.node) (node_of j t) ≡ none
    at true e ih = absurd (true≢false e)
    at false e ih = ih e

added : (i j : ℕ) (t : Table) → among j (numbers_of t) ≡ false → node_at i (add_node j t) ≡ node_at i t
unfolding among numbers_of node_of add_node
added i j [] e = go (eqb i j)
  where
    go : (b : Bool) → or_fresh (pick b (some fresh) none) ≡ fresh
    go true = refl
    go false = refl
added i j (a ∷ t) e = go (eqb j a.number) refl (ltb j a.number) e (added i j t)
  where
    there : (t : Table) → among j (numbers_of t) ≡ false → (b : Bool) → eqb i j ≡ b → or_fresh (pick b (some fresh) (node_of i t)) ≡ node_at i t
    there t e false q = refl
    there t e true q = sym (ap (λ (k : ℕ). node_at k t) (eqb-true i j q) ∙ ap or_fresh (none-at j t e))

    go : (b : Bool)
        → eqb j a.number ≡ b
        → (c : Bool)
        → pick b true (among j (numbers_of t)) ≡ false
        → (among j (numbers_of t) ≡ false → node_at i (add_node j t) ≡ node_at i t)
        → node_at i (pick b (a ∷ t) (pick c (record { number = j; node = fresh } ∷ a ∷ t) (a ∷ add_node j t))) ≡ node_at i (a ∷ t)
    go true q c e ih = absurd (true≢false e)
    go false q true e ih = there (a ∷ t) (rw q e) (eqb i j) refl
    go false q false e ih = at (eqb i a.number) (ih e)
      where
        at : (b : Bool) → node_at i (add_node j t) ≡ node_at i t → or_fresh (pick b (some a.node) (node_of i (add_node j t))) ≡ or_fresh (pick b (some a.node) (node_of i t))
        at true x = refl
        at false x = x

pub node-added : (i j : ℕ) (t : Table) → node_at i (add j t).table ≡ node_at i t
unfolding add
node-added i j t = go (among j (numbers_of t)) refl (ltb (length t) max_nodes)
  where
    go : (b : Bool) → among j (numbers_of t) ≡ b → (c : Bool) → node_at i (pick b (gives done t) (pick c (gives done (add_node j t)) (gives (Err NinthNode) t))).table ≡ node_at i t
    go true e c = refl
    go false e true = added i j t e
    go false e false = refl

-- ---- nodes go

behind-none : (i : ℕ) (t : Table) → ((x : ℕ) → x ∈ numbers_of t → i < x) → node_of i t ≡ none
unfolding node_of numbers_of
behind-none i [] f = refl
behind-none i (a ∷ t) f = let h = f a.number (here refl) in rw (ne_eqb i a.number (λ q. omega arith)) (behind-none i t (λ x m. f x (later m)))

drop-other : (i j : ℕ) (t : Table) → eqb i j ≡ false → node_of i (drop_node j t) ≡ node_of i t
unfolding node_of drop_node
drop-other i j [] e = refl
drop-other i j (a ∷ t) e = go (eqb j a.number) refl (drop-other i j t e)
  where
    go : (b : Bool) → eqb j a.number ≡ b → node_of i (drop_node j t) ≡ node_of i t → node_of i (pick b t (a ∷ drop_node j t)) ≡ node_of i (a ∷ t)
    go true q ih = rw (ne_eqb i a.number (λ f. eqb-false i j e (f ∙ sym (eqb-true _ _ q))))
    go false q ih = ap (pick (eqb i a.number) (some a.node)) ih

drop-same : (i : ℕ) (t : Table) → Ascending (numbers_of t) → node_of i (drop_node i t) ≡ none
unfolding node_of drop_node numbers_of Ascending
drop-same i [] asc = refl
drop-same i (a ∷ t) asc = go (eqb i a.number) refl (drop-same i t asc.1)
  where
    go : (b : Bool) → eqb i a.number ≡ b → node_of i (drop_node i t) ≡ none → node_of i (pick b t (a ∷ drop_node i t)) ≡ none
    go true q ih = behind-none i t (λ x m. let h = asc.0 x m in let e = eqb-true i a.number q in omega arith)
    go false q ih = rw q ih

-- it stays, or it is the one removed, and fresh
pub node-dropped : (i j : ℕ) (t : Table) → Ascending (numbers_of t) → (node_at i (remove_node j t).table ≡ node_at i t) ⊎ ((i ≡ j) × (node_at i (remove_node j t).table ≡ fresh))
unfolding remove_node
node-dropped i j t asc = go (among j (numbers_of t))
  where
    Out : Table → Type 0
    Out u = (node_at i u ≡ node_at i t) ⊎ ((i ≡ j) × (node_at i u ≡ fresh))

    at : (b : Bool) → eqb i j ≡ b → Out (drop_node j t)
    at true q = let e = eqb-true i j q in inr (e, ap (λ (k : ℕ). node_at k (drop_node j t)) e ∙ ap or_fresh (drop-same j t asc))
    at false q = inl (ap or_fresh (drop-other i j t q))

    go : (b : Bool) → Out (pick b (gives done (drop_node j t)) (gives (Err NoNode) t)).table
    go true = at (eqb i j) refl
    go false = inl refl

-- ---- the parts of a delta

-- where no node comes twice, each part is its node's
pub part-there : (xs : List Part) → repeated xs ≡ false → (y : Part) → y ∈ xs → part_at y.number xs ≡ some y.delta
unfolding repeated part_at
part-there [] once y m = absurd (in-none m)
part-there (x ∷ xs) once y m = go (part_at x.number xs) refl once (in-cons m) (part-there xs)
  where
    go : (o : Option NodeDelta)
        → part_at x.number xs ≡ o
        → pick (present o) true (repeated xs) ≡ false
        → (y ≡ x) ⊎ (y ∈ xs)
        → (repeated xs ≡ false → (z : Part) → z ∈ xs → part_at z.number xs ≡ some z.delta)
        → pick (eqb y.number x.number) (some x.delta) (part_at y.number xs) ≡ some y.delta
    go (some d) q once m ih = absurd (true≢false once)
    go none q once (inl e) ih =
        let n : y.number ≡ x.number = ap (λ (z : Part). z.number) e in
        rw (eq-eqb y.number x.number n) (ap (λ (z : Part). some z.delta) (sym e))
    go none q once (inr m) ih = at (eqb y.number x.number) refl
      where
        at : (b : Bool) → eqb y.number x.number ≡ b → pick b (some x.delta) (part_at y.number xs) ≡ some y.delta
        at true r =
            let gone : part_at y.number xs ≡ none = ap (λ (k : ℕ). part_at k xs) (eqb-true _ _ r) ∙ q in
            let z : ◌≡◌ {A = ℕ} 0 1 = differ (sym gone ∙ ih once y m) in
            absurd (omega arith)
          where
            differ : none ≡ some y.delta → ◌≡◌ {A = ℕ} 0 1
            differ e = cc
        at false r = ih once y m
