-- The delta of an accepted plan: its operations may follow each other and have their sizes, it is read as it was written and within the MTU, and brings of each
-- node that it names, and of no other, what computing makes of it, with the plan's count. Assumes nothing.
use Prim.Native.Nat.{◌<◌, ◌≤◌, ℕ}
use mathlib.Core.Bool.{◌&&◌, false≢true, true}
use mathlib.Core.List.{List, [], ◌∷◌}
use mathlib.Core.Logic.{◌⊎◌, inl, inr}
use mathlib.Core.Option.{Option, none, some}
use mathlib.Core.Path.{◌∙◌, ◌≡◌, refl, subst, sym}
use native.Mathlib.Omega.{arith}
use lib.Dec.{leb}
use lib.ListN.{length}
use borrow.Author.Tests.{leb-true}
use Rattle.fields.proofs.Choice.{and_left, and_right, every-at, in-cons, in-none}
use Rattle.fields.specs.Choice.{◌∈◌}
use Rattle.rules.proofs.Accepted.{OkStale, ok-stale}
use Rattle.rules.proofs.Deltas.{AllSmall, Chain, read-delta}
use Rattle.rules.proofs.Obeys.{OkTable, number_in, table-facts}
use Rattle.rules.proofs.Tables.{behind-from, part_at}
use Rattle.rules.specs.Compute.{StaleNode}
use Rattle.rules.specs.Delta.{Good, NodeDelta, delta_bytes, nothing_read, parts_of, read_delta}
use Rattle.rules.specs.Digest.{NodeDigest}
use Rattle.rules.specs.Node.{KeyValue}
use Rattle.rules.specs.Sizes.{max_delta, max_nodes}
use Rattle.rules.specs.Table.{Table, among, differ, numbers_of, obeys}
use Rattle.plan.proofs.Few.{few}
use Rattle.plan.proofs.Lines.{PlannedPart, length-numbers, named-is, named-part, part-planned, plan-chain, plan-small}
use Rattle.plan.specs.Plan.{accepts, count_fits, delta_by, line_fits, lines_fit, named, stale_for}

-- where there are stale records a count that fits is not 0
pub count-some : (c : ℕ) (all : List KeyValue) → count_fits c all ≡ true → 0 < length all → 0 < c
count-some c [] ok h = absurd (omega arith)
count-some c (s ∷ ss) ok h = leb-true 1 c (and_left (leb 1 c) _ ok)

module _ (excluded nodes counts : List ℕ) (mtu : ℕ) (ds : List NodeDigest) (t : Table) (obeyed : obeys t ≡ true) (yes : accepts excluded nodes counts mtu ds t ≡ true) where
  ok : OkTable t
  ok = table-facts t obeyed

  abbrev ss : List StaleNode
  ss = stale_for excluded ds t

  stale-ok : (s : StaleNode) → s ∈ ss → OkStale s
  stale-ok s m = ok-stale ok (behind-from excluded ds [] t m)

  named-once : differ nodes ≡ true
  unfolding accepts
  named-once = every-at (differ nodes ∷ lines_fit ss nodes counts ∷ leb (length (delta_bytes (delta_by excluded nodes counts ds t))) mtu ∷ []) yes 0

  all_fit : lines_fit ss nodes counts ≡ true
  unfolding accepts
  all_fit = every-at (differ nodes ∷ lines_fit ss nodes counts ∷ leb (length (delta_bytes (delta_by excluded nodes counts ds t))) mtu ∷ []) yes 1

  pub planned-within : length (delta_bytes (delta_by excluded nodes counts ds t)) ≤ mtu
  unfolding accepts
  planned-within = leb-true _ _ (every-at (differ nodes ∷ lines_fit ss nodes counts ∷ leb (length (delta_bytes (delta_by excluded nodes counts ds t))) mtu ∷ []) yes 2)

  -- each named node is of the table
  of-table : (is cs : List ℕ) → lines_fit ss is cs ≡ true → (i : ℕ) → i ∈ is → i ∈ numbers_of t
  unfolding lines_fit
  of-table [] cs fit i m = absurd (in-none m)
  of-table (j ∷ is) [] fit i m = absurd (false≢true fit)
  of-table (j ∷ is) (c ∷ cs) fit i m = go (named j ss) refl fit (in-cons m) (of-table is cs)
    where
      go : (o : Option StaleNode) → named j ss ≡ o → (line_fits c o && lines_fit ss is cs) ≡ true → (i ≡ j) ⊎ (i ∈ is) → (lines_fit ss is cs ≡ true → (k : ℕ) → k ∈ is → k ∈ numbers_of t) → i ∈ numbers_of t
      go none q fit x ih = absurd (false≢true fit)
      go (some s) q fit (inl e) ih =
          let y = named-is j ss q in
          let b = behind-from excluded ds [] t y.0 in
          subst (λ (k : ℕ). k ∈ numbers_of t) (sym (e ∙ y.1 ∙ b.number_is)) (number_in b.held)
      go (some s) q fit (inr k) ih = ih (and_right (line_fits c (some s)) _ fit) i k

  -- so there are no more than eight
  few-named : length nodes ≤ max_nodes
  few-named =
      let a = few nodes (numbers_of t) named-once (of-table nodes counts all_fit) in
      let b = length-numbers t in
      let c = ok.few in
      omega arith

  pub planned-chain : Chain nothing_read (delta_by excluded nodes counts ds t)
  unfolding delta_by among
  planned-chain = plan-chain ss nodes counts [] 0 (λ s m. (stale-ok s m).node_ok.differs) all_fit named-once (λ i m. refl) (let a = few-named in omega arith)

  pub planned-small : AllSmall (delta_by excluded nodes counts ds t)
  unfolding delta_by
  planned-small = plan-small ss nodes counts stale-ok

  pub planned-read : mtu ≤ max_delta → read_delta (delta_bytes (delta_by excluded nodes counts ds t)) ≡ Good (delta_by excluded nodes counts ds t)
  planned-read h = read-delta (delta_by excluded nodes counts ds t) planned-chain planned-small (let a = planned-within in omega arith)

  -- what a plan's delta brings of a node: computing's, with the plan's count
  pub planned-part : (i : ℕ) (d : NodeDelta) → part_at i (parts_of (delta_by excluded nodes counts ds t)) ≡ some d → PlannedPart ss i d
  unfolding delta_by
  planned-part i d e = part-planned ss i nodes counts all_fit e

  -- and it brings something of each node that it names
  pub planned-some : (i : ℕ) → i ∈ nodes → (d : NodeDelta) × (part_at i (parts_of (delta_by excluded nodes counts ds t)) ≡ some d)
  unfolding delta_by
  planned-some i m = named-part ss nodes counts all_fit i m
