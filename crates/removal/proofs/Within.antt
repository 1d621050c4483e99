-- A removal with a bound for each node is the removal by a test that agrees with the clock and the bounds on the records that are there; so the bound that no
-- version passes gives the plain one. Assumes nothing.
use Prim.Native.Nat.{ℕ, suc, ◌≤◌, ◌<◌, max}
use mathlib.Core.Path.{◌≡◌, refl, ap, ap₂, ◌∙◌}
use mathlib.Core.Bool.{Bool, not, ◌&&◌}
use mathlib.Core.List.{List, [], ◌∷◌}
use native.Mathlib.Omega.{arith}
use lib.ListN.{length, get_or, replicate, get_or-replicate, length-replicate}
use borrow.Author.Tests.{le-leb}
use Rattle.fields.specs.Choice.{◌∈◌, here, later, keep, pick}
use Rattle.fields.proofs.Choice.{and_last, in-at}
use Rattle.rules.specs.Sizes.{max_nodes, numbers, top}
use Rattle.rules.specs.Node.{Node, Rec, due, goes, last_gc_of, remove, scheduled}
use Rattle.rules.specs.Table.{Entry, Table, remove_all}
use Rattle.table.specs.Changes.{fresh_entry}
use Rattle.table.specs.Fits.{FitsEntry, FitsTable}
use Rattle.removal.specs.Removals.{due_within, removed, remove_within}

-- two tests that agree on the records of a node
module _ (d e : Rec → Bool) where
  same-gc : (g : ℕ) (l : List Rec) → ((r : Rec) → r ∈ l → d r ≡ e r) → last_gc_of d g l ≡ last_gc_of e g l
  unfolding last_gc_of
  same-gc g [] f = refl
  same-gc g (a ∷ l) f =
      ap (λ (t : Bool). last_gc_of d (pick (scheduled a.kv.status && t) (max g a.kv.version) g) l) (f a (here refl))
      ∙ same-gc (pick (goes e a) (max g a.kv.version) g) l (λ r m. f r (later m))

  same_kept : (l : List Rec) → ((r : Rec) → r ∈ l → d r ≡ e r) → keep (λ r. not (goes d r)) l ≡ keep (λ r. not (goes e r)) l
  unfolding keep
  same_kept [] f = refl
  same_kept (a ∷ l) f =
      ap₂ (λ (t : Bool) (k : List Rec). pick (not (scheduled a.kv.status && t)) (a ∷ k) k) (f a (here refl)) (same_kept l (λ r m. f r (later m)))

  pub same-removed : (n : Node) → ((r : Rec) → r ∈ n.recs → d r ≡ e r) → remove d n ≡ remove e n
  unfolding remove
  same-removed n f = λ z. record { heartbeat = n.heartbeat; max = n.max; last_gc = same-gc n.last_gc n.recs f z; recs = same_kept n.recs f z }

-- on the nodes of a table
pub within-as : (test : ℕ → Rec → Bool) (now grace : ℕ) (bs : List ℕ) (t : Table) → length t ≤ length bs
    → ((i : ℕ) → i < length t → (r : Rec) → r ∈ (get_or t i (fresh_entry 0)).node.recs → due_within (get_or bs i 0) now grace r ≡ test (get_or t i (fresh_entry 0)).number r)
    → remove_within now grace bs t ≡ remove_all test t
unfolding remove_within remove_all
within-as test now grace bs [] h f = refl
within-as test now grace [] (e ∷ t) h f = absurd (omega arith)
within-as test now grace (b ∷ bs) (e ∷ t) h f =
    ap₂ (λ (n : Node) (x : Table). record { number = e.number; node = n } ∷ x)
    (same-removed (due_within b now grace) (test e.number) e.node (f 0 (omega arith)))
    (within-as test now grace bs t (omega arith) (λ i g. f (suc i) (omega arith)))

-- no version passes the largest number
pub plain-within : (now grace : ℕ) (t : Table) → FitsTable t → remove_within now grace (replicate max_nodes top) t ≡ remove_all (λ i. due now grace) t
plain-within now grace t o =
    within-as (λ i. due now grace) now grace (replicate max_nodes top) t (omega (arith, o.few, length-replicate max_nodes top))
    (λ i h r m.
    let v : r.kv.version < numbers = ((o.each (get_or t i (fresh_entry 0)) (in-at t i (fresh_entry 0) h)).each r m).version_high in
    ap (λ (b : ℕ). due_within b now grace r) (get_or-replicate max_nodes i top 0 (omega (arith, o.few)))
    ∙ ap (λ (u : Bool). due now grace r && u) (le-leb r.kv.version top (omega arith))
    ∙ and_last (due now grace r))

-- of one node
pub plain-node : (now grace : ℕ) (e : Entry) → FitsEntry e → removed (due_within top now grace) e ≡ removed (due now grace) e
plain-node now grace e o =
    ap (λ (n : Node). record { number = e.number; node = n })
    (same-removed (due_within top now grace) (due now grace) e.node
    (λ r m.
    let v : r.kv.version < numbers = (o.each r m).version_high in
    ap (λ (u : Bool). due now grace r && u) (le-leb r.kv.version top (omega arith)) ∙ and_last (due now grace r)))
